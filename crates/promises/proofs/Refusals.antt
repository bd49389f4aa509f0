-- The tests of a call stand in the order of its claims and each tells its own, so the first that holds gives the answer; of a step that passes them the place decides.
-- Assumes nothing.
use Prim.Native.Nat.{ℕ, ◌+◌, ◌≤◌, ◌<◌}
use mathlib.Core.Bool.{Bool, true, false, true≢false, ◌||◌}
use mathlib.Core.List.{List, [], ◌∷◌}
use mathlib.Core.Logic.{inl, inr, ⊎_elim}
use mathlib.Core.Path.{◌≡◌, refl, sym, ap, ◌∙◌}
use native.Mathlib.Decide.{ℕ_discrete}
use native.Mathlib.Omega.{arith}
use borrow.Author.Tests.{eqb-true, eqb-false, eq-eqb, ne_eqb, leb-false}
use lib.Dec.{ltb, eqb}
use lib.ListN.{length}
use Rattle.choice.specs.Choice.{pick}
use Rattle.choice.specs.Table.{done, row}
use Rattle.choice.proofs.Exactly.{Tells, fails, Gives, fine, here, later, refused_exactly, gives_row}
use Rattle.choice.proofs.Telling.{tells_as, tells_eq, tells_lt, tells_le, tells_or, tells_and, tells_not, tells_broken, clears_as, clears_lt, clears_or}
use Rattle.words.specs.declared.Lengths.{Lengths}
use Rattle.words.specs.Words.{Tables, lengths, SPLIT_KEY, word}
use Rattle.scans.specs.Scans.{free_node}
use Rattle.scans.proofs.Laws.{free_node_lem, free_none}
use Rattle.names.specs.Names.{IDLE, I1, SZ, TB, B2, B4, F1, F2, F3, F4, L2, B8, I8, I9, I10, D4A, D4B, D6, DUMMY, INSERT, FIND, DELETE, KEY_LIMIT, has_row}
use Rattle.names.specs.Places.{places, no_place}
use Rattle.names.specs.declared.Answer.{Answer}
use Rattle.names.specs.declared.Answer.TheVariants.{Going as GoingOn, Damaged as IsDamaged, NoKeyNode, NoDummy}
use Rattle.header.specs.declared.Header.{Header}
use Rattle.header.specs.Header.{nodes_of, dummies_of}
use Rattle.header.proofs.Rows.{limit_broken_lem, header_damaged_lem}
use Rattle.record.specs.declared.Worker.{Worker}
use Rattle.faults.specs.Rows.{IsOneOf, WorkerDamaged}
use Rattle.faults.specs.Faults.{unknown_name}
use Rattle.faults.proofs.Rows.{unknown_name_lem, worker_damaged_lem}
use Rattle.moves.specs.declared.Seen.{Seen}
use Rattle.acts.specs.declared.Effect.{Effect}
use Rattle.acts.specs.declared.Effect.TheVariants.{Nothing}
use Rattle.acts.specs.declared.Move.{Move}
use Rattle.acts.specs.declared.Move.TheVariants.{Damaged, Going, Ended}
use Rattle.moves.specs.Moves.{i1, sz, tb, b2, b4, f1, f2, f3, f4, l2, b8, i8, i9, i10, d4a, d4b, d6, decided_at, decided}
use Rattle.prepare.specs.declared.Limits.{Limits}
use Rattle.register.specs.declared.Turn.{Turn}
use Rattle.names.specs.Verdicts.{Verdict}
use Rattle.register.specs.Step.{word_given, asked_at, word_at, word_for, split_for, seen_by, carried}
use Rattle.header.specs.Header.{is_short}
use Rattle.prepare.specs.Prepare.{fresh_header, prepared_by, prepare_verdict, prepared}
use Rattle.register.specs.Calls.{started_by, start_verdict, start_of, stepped_by, step_verdict, step_of}
use Rattle.promises.specs.Access.{place_of}
use Rattle.promises.specs.Refusals.{TooShort, UnknownKind, NoneFree, NoKeyFree, NoDummyFree, Places, nowhere, at, AtPlace, place_claims, prepare_claims, start_claims, step_claims, PrepareExactly, StartExactly, StepExactly}
use Rattle.promises.proofs.WordsRead.{Fine, going, ended, Plain, broken, sound, unclaimed, Known, tb_plain, b2_plain, f1_plain, f2_plain, f3_plain, f4_plain, l2_plain, b8_plain, d4a_plain, d4b_plain, sz_fine, i8_fine, i9_fine, i10_fine, d6_fine}

-- an answer that no row claims
abbrev pub Allowed : Answer → Type 0
Allowed a = has_row a ≡ false

-- 11
too_short : (h : Header) (lengths : Lengths) → Tells (is_short h lengths) (TooShort h lengths)
unfolding is_short
too_short h lengths = tells_or (tells_lt _ _) (tells_lt _ _)

-- 17
unknown_kind : (kind : ℕ) → Tells (ltb kind INSERT || ltb DELETE kind) (UnknownKind kind)
unknown_kind kind =
    tells_broken
    (clears_as (λ b. one_of b.0 b.1 (ℕ_discrete kind INSERT) (ℕ_discrete kind FIND)) from
    (clears_or (clears_lt kind INSERT) (clears_lt DELETE kind)))
  where
    one_of : INSERT ≤ kind → kind ≤ DELETE → Dec (kind ≡ INSERT) → Dec (kind ≡ FIND) → IsOneOf kind (INSERT ∷ FIND ∷ DELETE ∷ [])
    one_of low high (yes e) d = inl e
    one_of low high (no n) (yes e) = inr (inl e)
    one_of low high (no n) (no m) = inr (inr (inl (omega arith)))

    from : IsOneOf kind (INSERT ∷ FIND ∷ DELETE ∷ []) → (INSERT ≤ kind) × (kind ≤ DELETE)
    from (inl e) = (omega arith, omega arith)
    from (inr (inl e)) = (omega arith, omega arith)
    from (inr (inr (inl e))) = (omega arith, omega arith)
    from (inr (inr (inr x))) = elim x [ ]

-- what is answered is what the first row that holds says, and it refuses nothing where none holds
pub prepare_gives :
    (l : Limits) (h : Header) (ts : Tables)
    → Gives Allowed (prepared l h ts).out.answer (prepare_claims l (TooShort (fresh_header l) (lengths ts)))
unfolding prepared prepare_verdict
prepare_gives l h ts =
    gives_row answer (limit_broken_lem (fresh_header l)) refl
    (λ _. gives_row answer (too_short (fresh_header l) (lengths ts)) refl
    (λ _. fine refl))
  where
    answer : Verdict → Answer
    answer v = (prepared_by l h ts v).out.answer

pub prepare_exactly : PrepareExactly
prepare_exactly l h ts a r = refused_exactly a (prepare_gives l h ts) (λ f. true≢false (sym r ∙ f))

pub start_gives :
    (t : Turn) (kind key : ℕ) (lengths : Lengths)
    → Gives Allowed (start_of t kind key lengths).called.answer (start_claims t kind key (TooShort t.header lengths))
unfolding start_of start_verdict
start_gives t kind key lengths =
    gives_row answer (header_damaged_lem t.header) refl
    (λ _. gives_row answer (too_short t.header lengths) refl
    (λ _. gives_row answer (tells_le t.header.w t.number) refl
    (λ _. gives_row answer (unknown_kind kind) refl
    (λ _. gives_row answer (tells_lt KEY_LIMIT key) refl
    (λ _. gives_row answer (worker_damaged_lem t.header t.number t.worker) refl
    (λ _. gives_row answer (tells_not (tells_eq (place_of t) IDLE)) refl
    (λ _. fine refl)))))))
  where
    answer : Verdict → Answer
    answer v = (started_by t kind key v).called.answer

pub start_exactly : StartExactly
start_exactly t kind key lengths a r = refused_exactly a (start_gives t kind key lengths) (λ f. true≢false (sym r ∙ f))

-- ---- a step that passes its table
-- the claim that stands at the place, and none where the place is not listed
abbrev Choose : Bool → Type 0 → Type 0 → Type 0
Choose true A B = A
Choose false A B = B

abbrev ClaimAt : ℕ → Places → Type 0
ClaimAt p nowhere = ⊥
ClaimAt p (at q claim rest) = Choose (eqb p q) claim (ClaimAt p rest)

-- it holds exactly where the table has a claim of the place that does
claim_of : (p : ℕ) (table : Places) → AtPlace p table → ClaimAt p table
claim_of p nowhere c = c
claim_of p (at q claim rest) (inl c) = rw (eq-eqb p q c.0) c.1
claim_of p (at q claim rest) (inr c) = rw (ne_eqb p q c.0) (claim_of p rest c.1)

of_claim : (p : ℕ) (table : Places) → ClaimAt p table → AtPlace p table
of_claim p nowhere c = c
of_claim p (at q claim rest) c = by (eqb p q) refl c (of_claim p rest)
  where
    by : (b : Bool) → eqb p q ≡ b → Choose b claim (ClaimAt p rest) → (ClaimAt p rest → AtPlace p rest) → AtPlace p (at q claim rest)
    by true e d on = inl (eqb-true p q e, d)
    by false e d on = inr (eqb-false p q e, on d)

-- the free node is 0 exactly where none is free
none_free : (ns : List ℕ) (first last : ℕ) → 1 ≤ first → Tells (eqb (free_node ns first last) 0) (NoneFree ns first last)
none_free ns first last one =
    tells_as (λ e n low. free_none ns first last e one n low) (λ none. zero_of none (ℕ_discrete (free_node ns first last) 0))
    (tells_eq (free_node ns first last) 0)
  where
    zero_of : NoneFree ns first last → Dec (free_node ns first last ≡ 0) → free_node ns first last ≡ 0
    zero_of none (yes e) = e
    zero_of none (no ne) = let f = free_node_lem ns first last _ refl ne one in absurd (none _ f.0 f.1 f.2)

-- the answer of a decision
abbrev answer_of : Move → Answer
answer_of Damaged = IsDamaged
answer_of (Going x e) = GoingOn
answer_of (Ended a e) = a

carried_answer : (t : Turn) (ts : Tables) (m : Move) → (carried t m ts).out.called.answer ≡ answer_of m
carried_answer t ts Damaged = refl
carried_answer t ts (Going x e) = refl
carried_answer t ts (Ended a e) = refl

allowed : {m : Move} → Fine m → Allowed (answer_of m)
allowed going = refl
allowed (ended l) = l

-- 18 and 19 at place p
abbrev NoKeyAt : Turn → Tables → ℕ → Type 0
NoKeyAt t ts p = (p ≡ I1) × NoKeyFree t.header ts.nodes

abbrev NoDummyAt : Turn → Tables → ℕ → Type 0
NoDummyAt t ts p = (p ≡ B4) × NoDummyFree t.header ts.nodes

-- at place p the decision m answers as the last three rows say
record Told (t : Turn) (ts : Tables) (p : ℕ) (m : Move) : Type 1 where
  given :
      Gives Allowed (answer_of m)
      (row (AtPlace p (place_claims t ts)) IsDamaged
      (row (NoKeyAt t ts p) NoKeyNode
      (row (NoDummyAt t ts p) NoDummy
      done)))

module _ (t : Turn) (ts : Tables) (known : Known t.worker) where
  -- what is seen where the place is q
  abbrev seen : ℕ → Seen
  seen q = record { header = t.header; worker = t.worker; word = word_at q t ts; split = pick (eqb q F3) (word ts.nodes t.worker.cur SPLIT_KEY) 0 }

  by_place :
      (p q : ℕ) (decides : Seen → Move) {n : Move} → q ≤ p → Told t ts q (decides (seen q)) → (q < p → Told t ts p n)
      → Told t ts p (pick (eqb p q) (decides (seen p)) n)
  unfolding pick
  by_place p q decides {n} l now next = by (eqb p q) refl
    where
      by : (b : Bool) → eqb p q ≡ b → Told t ts p (pick b (decides (seen p)) n)
      by true e = rw (eqb-true p q e) now
      by false e = let ne = eqb-false p q e in next (omega arith)

  -- a place that takes no node
  ordinary : (q : ℕ) {m : Move} → eqb q I1 ≡ false → eqb q B4 ≡ false → Plain (ClaimAt q (place_claims t ts)) m → Told t ts q m
  ordinary q a b (broken c e) = record { given = here (of_claim q (place_claims t ts) c) (sym (ap answer_of e)) }
  ordinary q a b (sound n f) =
      record {
        given =
            later (λ c. n (claim_of q (place_claims t ts) c))
            (later (λ (k : NoKeyAt t ts q). eqb-false q I1 a k.0)
            (later (λ (k : NoDummyAt t ts q). eqb-false q B4 b k.0)
            (fine (allowed f))));
      }

  -- I1: 18 where no key node is free
  takes_key : Told t ts I1 (i1 (seen I1))
  unfolding i1 word_at word_given pick
  takes_key =
      let free = none_free ts.nodes (dummies_of t.header + 1) (nodes_of t.header) (omega arith) in
      let none : Tells _ (NoKeyAt t ts I1) = tells_as (λ f. (refl, f)) (λ f. f.1) free in
      record {
        given =
            later (claim_of I1 (place_claims t ts))
            (gives_row answer_of none refl
            (λ _. later (λ (k : NoDummyAt t ts I1). omega arith) (fine refl)));
      }

  -- B4: 12 or 19 where no dummy node is free
  no_dummy :
      (a b : Bool) (x : Worker) (e : Effect) → Tells a (NoDummyFree t.header ts.nodes) → Tells b ((t.worker.kind ≡ INSERT) × (t.worker.held ≡ 0))
      → Told t ts B4 (pick a (pick b Damaged (Ended NoDummy Nothing)) (Going x e))
  unfolding pick
  no_dummy true true x e none bare =
      let c = bare.sound refl in
      record { given = here (of_claim B4 (place_claims t ts) (none.sound refl, c.0, c.1)) refl }
  no_dummy true false x e none bare =
      let full : NoDummyAt t ts B4 = (refl, none.sound refl) in
      record {
        given =
            later (λ c. let d = claim_of B4 (place_claims t ts) c in fails bare refl (d.1, d.2))
            (later (λ (k : NoKeyAt t ts B4). omega arith) (here full refl));
      }
  no_dummy false b x e none bare =
      record {
        given =
            later (λ c. fails none refl (claim_of B4 (place_claims t ts) c).0)
            (later (λ (k : NoKeyAt t ts B4). omega arith)
            (later (λ (k : NoDummyAt t ts B4). fails none refl k.1)
            (fine refl)));
      }

  takes_dummy : Told t ts B4 (b4 (seen B4))
  unfolding b4 word_at word_given pick
  takes_dummy =
      no_dummy _ _ _ _ (none_free ts.nodes 1 (dummies_of t.header) (omega arith))
      (tells_and (tells_eq t.worker.kind INSERT) (tells_eq t.worker.held 0))

  -- the place decides the answer: one row a place, each above the one before; past the last no place is named
  told_at : (p : ℕ) → I1 ≤ p → p < length places → Told t ts p (decided_at p (seen p))
  unfolding decided_at word_at word_given asked_at pick
  told_at p l last =
      by_place p I1 i1 l takes_key
      (λ l. by_place p SZ sz l (ordinary SZ refl refl (unclaimed (sz_fine _ _ _ _)))
      (λ l. by_place p TB tb l (ordinary TB refl refl (tb_plain _ _ _ _))
      (λ l. by_place p B2 b2 l (ordinary B2 refl refl (b2_plain _ _ _ _))
      (λ l. by_place p B4 b4 l takes_dummy
      (λ l. by_place p F1 f1 l (ordinary F1 refl refl (f1_plain _ _ _ _))
      (λ l. by_place p F2 f2 l (ordinary F2 refl refl (f2_plain _ _ _ _))
      (λ l. by_place p F3 f3 l (ordinary F3 refl refl (f3_plain _ _ _ _ known))
      (λ l. by_place p F4 f4 l (ordinary F4 refl refl (f4_plain _ _ _ _))
      (λ l. by_place p L2 l2 l (ordinary L2 refl refl (l2_plain _ _ _ _))
      (λ l. by_place p B8 b8 l (ordinary B8 refl refl (b8_plain _ _ _ _))
      (λ l. by_place p I8 i8 l (ordinary I8 refl refl (unclaimed (i8_fine _ _ _ _)))
      (λ l. by_place p I9 i9 l (ordinary I9 refl refl (unclaimed (i9_fine _ _ _ _)))
      (λ l. by_place p I10 i10 l (ordinary I10 refl refl (unclaimed (i10_fine _ _ _ _)))
      (λ l. by_place p D4A d4a l (ordinary D4A refl refl (d4a_plain _ _ _ _))
      (λ l. by_place p D4B d4b l (ordinary D4B refl refl (d4b_plain _ _ _ _))
      (λ l. by_place p D6 d6 l (ordinary D6 refl refl (unclaimed (d6_fine _ _ _ _)))
      (λ l. absurd (omega arith))))))))))))))))))

-- a place that is named
named_of : (t : Turn) → (WorkerDamaged t.header t.number t.worker → ⊥) → place_of t < length places
unfolding unknown_name
named_of t whole = by (no_place (place_of t)) refl
  where
    by : (b : Bool) → no_place (place_of t) ≡ b → place_of t < length places
    by true e = absurd (whole (inl ((unknown_name_lem t.worker).sound (rw e))))
    by false e = leb-false (length places) (place_of t) e

-- an errand that is named
known_of : (t : Turn) → (WorkerDamaged t.header t.number t.worker → ⊥) → Known t.worker
known_of t whole nk ne = by (ℕ_discrete t.worker.errand DUMMY)
  where
    by : Dec (t.worker.errand ≡ DUMMY) → t.worker.errand ≡ DUMMY
    by (yes e) = e
    by (no nd) = absurd (whole (inl (inr (inl (⊎_elim nk (⊎_elim nd (⊎_elim ne (λ n. n))))))))

pub step_gives :
    (t : Turn) (ts : Tables) → Gives Allowed (step_of t ts).out.called.answer (step_claims t ts (TooShort t.header (lengths ts)))
unfolding step_of step_verdict decided word_for split_for
step_gives t ts =
    gives_row answer (header_damaged_lem t.header) refl
    (λ _. gives_row answer (too_short t.header (lengths ts)) refl
    (λ _. gives_row answer (tells_le t.header.w t.number) refl
    (λ _. gives_row answer (worker_damaged_lem t.header t.number t.worker) refl
    (λ whole. gives_row answer (tells_eq (place_of t) IDLE) refl
    (λ busy. rw (← carried_answer t ts (decided (seen_by t ts))) at (told_at t ts (known_of t whole) (place_of t) (omega arith) (named_of t whole)).given)))))
  where
    answer : Verdict → Answer
    answer v = (stepped_by t ts v).out.called.answer

pub step_exactly : StepExactly
step_exactly t ts a r = refused_exactly a (step_gives t ts) (λ f. true≢false (sym r ∙ f))
