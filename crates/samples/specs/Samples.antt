-- Where workers meet: a swap that fails, a count below zero, an old size. Each sample is computed to its end.
use Rattle.std.specs.Prelude.{ℕ, suc, List, [], ◌∷◌, ◌≡◌, length}
use Rattle.chain.specs.Chain.{keys_from}
use Rattle.names.specs.Names.{TB, F1, F4, L2, D4A, D4B, EXTRA, INSERT, FIND, DELETE}
use Rattle.names.specs.declared.Answer.TheVariants.{Yes, No}
use Rattle.header.specs.Header.{nodes_of}
use Rattle.prepare.specs.declared.Limits.{Limits}
use Rattle.story.specs.Shared.{Shared, worker_of}
use Rattle.story.specs.Run.{State, leaves, Run, state, shared}
use Rattle.samples.specs.Played.{Record, starts, steps, calls_of, Prepared, run_of, Line, line_of, Prints}

-- a schedule, a call at which it turns and how, and what it prints: lines, then "end keys count size"
pub record Sample : Type 1 where
  pub limits : Limits
  pub schedule : List Record
  pub call : ℕ
  pub turns : (before after : Shared) → Type 0
  pub lines : List Line
  pub end : ℕ × ℕ × ℕ

-- the run turns so at that call, prints these lines, and ends with so many registered keys, this count and this size
abbrev pub TurnsIn : Sample → Run → Type 0
TurnsIn e r = e.turns (shared (state r e.call)) (shared (state r (suc e.call)))

abbrev pub EndsIn : Sample → State → Type 0
EndsIn e s = (keys_from s.tables.nodes (nodes_of s.header) 1, s.header.count, s.header.size) ≡ e.end

pub record Holds (e : Sample) : Type 0 where
  pub prepared : Prepared e.limits
  pub turned : TurnsIn e (run_of e.limits prepared e.schedule)
  pub printed_lines : Prints leaves e.limits e.schedule e.lines
  pub ended : EndsIn e (state (run_of e.limits prepared e.schedule) (length (calls_of e.schedule)))

abbrev pub limits : (m k w l : ℕ) → Limits
limits m k w l = record { m = m; k = k; w = w; l = l }

-- worker w's swap fails at this place, and the search begins again
abbrev pub Fails : (w place : ℕ) (before after : Shared) → Type 0
Fails w place before after = ((worker_of before w).place ≡ place) × ((worker_of after w).place ≡ F1)

-- worker 0 comes to unlink the node that worker 1 marked, and worker 1 has unlinked it
abbrev pub f4_fails : Sample
f4_fails = record {
  limits = limits 4 4 2 1;
  schedule =
      starts 0 INSERT 0 ∷ steps 0 7 ∷ starts 0 FIND 0 ∷ steps 0 3 ∷ starts 1 DELETE 0 ∷ steps 1 6
      ∷ steps 0 2 ∷ steps 1 1 ∷ steps 0 2 ∷ steps 1 1 ∷ [];
  call = 22;
  turns = Fails 0 F4;
  lines = line_of 0 INSERT 0 Yes 7 ∷ line_of 0 FIND 0 No 7 ∷ line_of 1 DELETE 0 Yes 8 ∷ [];
  end = (0, 0, 2);
}

-- two inserts of one key come to the same gap; the second finds the first's node
abbrev pub l2_fails : Sample
l2_fails = record {
  limits = limits 4 4 2 1;
  schedule = starts 0 INSERT 0 ∷ steps 0 4 ∷ starts 1 INSERT 0 ∷ steps 1 4 ∷ steps 0 1 ∷ steps 1 1 ∷ steps 0 2 ∷ steps 1 3 ∷ [];
  call = 11;
  turns = Fails 1 L2;
  lines = line_of 0 INSERT 0 Yes 7 ∷ line_of 1 INSERT 0 No 8 ∷ [];
  end = (1, 1, 2);
}

-- two deletes find one node; the second to mark it says no
abbrev pub d4a_fails : Sample
d4a_fails = record {
  limits = limits 4 4 2 1;
  schedule =
      starts 0 INSERT 0 ∷ steps 0 7 ∷ starts 0 DELETE 0 ∷ steps 0 5 ∷ starts 1 DELETE 0 ∷ steps 1 4
      ∷ steps 0 1 ∷ steps 1 2 ∷ steps 0 2 ∷ steps 1 1 ∷ [];
  call = 21;
  turns = Fails 1 D4A;
  lines = line_of 0 INSERT 0 Yes 7 ∷ line_of 0 DELETE 0 Yes 8 ∷ line_of 1 DELETE 0 No 7 ∷ [];
  end = (0, 0, 2);
}

-- a find unlinks the marked node before its delete does: one search more, then D6
abbrev pub d4b_fails : Sample
d4b_fails = record {
  limits = limits 4 4 2 1;
  schedule = starts 0 INSERT 0 ∷ steps 0 7 ∷ starts 0 FIND 0 ∷ steps 0 3 ∷ starts 1 DELETE 0 ∷ steps 1 6 ∷ steps 0 3 ∷ steps 1 3 ∷ [];
  call = 22;
  turns = λ before after. Fails 1 D4B before after × ((worker_of after 1).errand ≡ EXTRA);
  lines = line_of 0 INSERT 0 Yes 7 ∷ line_of 0 FIND 0 No 6 ∷ line_of 1 DELETE 0 Yes 9 ∷ [];
  end = (0, 0, 2);
}

-- "a key can be deleted and counted off before its insert counts itself"
abbrev pub below_zero : Sample
below_zero = record {
  limits = limits 4 4 2 1;
  schedule = starts 0 INSERT 0 ∷ steps 0 6 ∷ starts 1 DELETE 0 ∷ steps 1 8 ∷ steps 0 1 ∷ [];
  call = 15;
  turns = λ before after. (before.header.count ≡ 0) × (after.header.count ≡ 4294967295);
  lines = line_of 1 DELETE 0 Yes 8 ∷ line_of 0 INSERT 0 Yes 7 ∷ [];
  end = (0, 0, 2);
}

-- worker 1 read size 2 and wants bucket 0 for key 10; size is 4 by now, and the older bucket still precedes the key
abbrev pub old_size : Sample
old_size = record {
  limits = limits 4 12 2 1;
  schedule =
      starts 0 INSERT 0 ∷ steps 0 7 ∷ starts 0 INSERT 2 ∷ steps 0 9 ∷ starts 0 INSERT 4 ∷ steps 0 11 ∷ starts 0 INSERT 6 ∷ steps 0 13
      ∷ starts 1 INSERT 10 ∷ steps 1 2 ∷ starts 0 INSERT 8 ∷ steps 0 12 ∷ steps 1 15 ∷ starts 0 FIND 10 ∷ steps 0 21 ∷ [];
  call = 60;
  turns = λ before after.
      (before.header.size ≡ 4) × ((worker_of before 1).place ≡ TB) × ((worker_of before 1).wanted ≡ 0) × ((worker_of after 1).start ≡ 1);
  lines =
      line_of 0 INSERT 0 Yes 7 ∷ line_of 0 INSERT 2 Yes 9 ∷ line_of 0 INSERT 4 Yes 11 ∷ line_of 0 INSERT 6 Yes 13
      ∷ line_of 0 INSERT 8 Yes 12 ∷ line_of 1 INSERT 10 Yes 17 ∷ line_of 0 FIND 10 Yes 21 ∷ [];
  end = (6, 6, 4);
}

-- every one is right
pub record Samples : Type 0 where
  pub f4_fails_lem : Holds f4_fails
  pub l2_fails_lem : Holds l2_fails
  pub d4a_fails_lem : Holds d4a_fails
  pub d4b_fails_lem : Holds d4b_fails
  pub below_zero_lem : Holds below_zero
  pub old_size_lem : Holds old_size
