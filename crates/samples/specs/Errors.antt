-- "Errors that look reasonable", each as a short run computed to its end, in which the ledger breaks.
-- M 2, K 1, W 2, L 1: nodes 1 to 4 are for dummies, node 5 for a key.
use Rattle.std.specs.Prelude.{ℕ, List, [], ◌∷◌, ◌≡◌, length}
use Rattle.split.specs.Split.{regular}
use Rattle.names.specs.Names.{INSERT, FIND, DELETE}
use Rattle.names.specs.declared.Answer.TheVariants.{Yes, No, NoKeyNode}
use Rattle.prepare.specs.declared.Limits.{Limits}
use Rattle.register.specs.Registered.{key, On, Registered}
use Rattle.promises.specs.Wrong.{Step, frees_at_once, stores_early}
use Rattle.story.specs.Run.{leaves, shared, shown}
use Rattle.story.specs.Story.{LedgerOf, Where, At}
use Rattle.samples.specs.Played.{Record, starts, steps, calls_of, Prepared, run_of, leaves_by, state_by, event_by, line_of, Prints}

abbrev pub tiny : Limits
tiny = record { m = 2; k = 1; w = 2; l = 1 }

-- the ledger does not hold of the schedule's run by this register
abbrev pub BreaksLedger : Step → List Record → Type 0
BreaksLedger other rs = (p : Prepared tiny) × (LedgerOf Registered (λ (i : ℕ). (state_by other (run_of tiny p rs) i).tables.nodes) (event_by other (run_of tiny p rs)) → ⊥)

-- 2. "Freeing an unlinked node at once, under a slower worker": worker 1 is at D4a over key 0's node, which is deleted, freed and taken for key 2
abbrev pub slower : List Record
slower =
    starts 0 INSERT 0 ∷ steps 0 7 ∷ starts 1 DELETE 0 ∷ steps 1 5 ∷ starts 0 DELETE 0 ∷ steps 0 8
    ∷ starts 0 INSERT 2 ∷ steps 0 5 ∷ steps 1 1 ∷ steps 0 2 ∷ steps 1 2 ∷ starts 0 FIND 2 ∷ steps 0 3 ∷ []

-- 3. "Making a bucket's entry before its dummy is on the chain": worker 1 inserts key 1 behind the dummy that worker 0 has in hand
abbrev pub early : List Record
early = starts 0 FIND 1 ∷ steps 0 4 ∷ starts 1 INSERT 1 ∷ steps 1 13 ∷ steps 0 8 ∷ starts 1 FIND 1 ∷ steps 1 5 ∷ []

-- 5. "Treating a marked node as registered because it is on the chain"
pub record OnTheChain (ns : List ℕ) (k : ℕ) : Type 0 where
  pub node : ℕ
  pub on : On ns node
  pub has : key ns node ≡ regular k

-- a delete that has marked its node, at D4b
abbrev pub marking : List Record
marking = starts 0 INSERT 0 ∷ steps 0 7 ∷ starts 0 DELETE 0 ∷ steps 0 6 ∷ []

pub record Errors : Type 0 where
  -- 2. of key 0 one insert and two deletes take effect, and key 2 is gone though no delete named it
  pub frees : BreaksLedger frees_at_once slower
  pub frees_prints :
      Prints (leaves_by frees_at_once) tiny slower
      (line_of 0 INSERT 0 Yes 7 ∷ line_of 0 DELETE 0 Yes 8 ∷ line_of 0 INSERT 2 Yes 7 ∷ line_of 1 DELETE 0 Yes 8 ∷ line_of 0 FIND 2 No 3 ∷ [])
  -- ours: the node waits for worker 1, so that there is none for key 2, and worker 1 says no
  pub waits_prints :
      Prints leaves tiny slower
      (line_of 0 INSERT 0 Yes 7 ∷ line_of 0 DELETE 0 Yes 8 ∷ line_of 0 INSERT 2 NoKeyNode 1 ∷ line_of 1 DELETE 0 No 7 ∷ line_of 0 FIND 2 No 3 ∷ [])
  -- 3. the insert of key 1 takes effect and the key is not registered; its node is in no place at all
  pub stores : BreaksLedger stores_early early
  pub stores_prints : Prints (leaves_by stores_early) tiny early (line_of 1 INSERT 1 Yes 7 ∷ line_of 0 FIND 1 No 9 ∷ line_of 1 FIND 1 No 3 ∷ [])
  pub stores_loses : (p : Prepared tiny) × ((q : Where) → At (shared (state_by stores_early (run_of tiny p early) (length (calls_of early)))) 5 q → ⊥)
  -- ours: worker 1 makes the bucket itself, and worker 0 finds its dummy
  pub finds_prints : Prints leaves tiny early (line_of 1 INSERT 1 Yes 13 ∷ line_of 0 FIND 1 Yes 12 ∷ line_of 1 FIND 1 Yes 5 ∷ [])
  -- 5. after D4a one insert and one delete of key 0 are in effect, and its node is on the chain
  pub counts_marked : (p : Prepared tiny) × (let r = shown (run_of tiny p marking) in LedgerOf OnTheChain (λ (i : ℕ). (r.states i).nodes) r.events → ⊥)
