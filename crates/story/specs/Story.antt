-- What holds over every sequence of calls: the statements, each under the sentence that it stands for.
use Rattle.std.specs.Prelude.{ℕ, zero, suc, ◌+◌, ◌≤◌, ◌<◌, true, List, [], ◌∷◌, ◌⊎◌, ◌≢◌, ◌↔◌, ◌≡◌, eqb}
use Rattle.words.specs.Words.{FREE, LARGEST_SET}
use Rattle.sets.specs.Sets.{bit}
use Rattle.names.specs.Names.{IDLE, FIND, KEY_LIMIT, number_of, ends}
use Rattle.names.specs.declared.Answer.{Answer}
use Rattle.names.specs.declared.Answer.TheVariants.{Going, Yes, No, Short, Damaged, NoDummy}
use Rattle.header.specs.Header.{nodes_of}
use Rattle.faults.specs.Rows.{IsOneOf}
use Rattle.record.specs.Worker.{held_key, held_dummy}
use Rattle.register.specs.Registered.{standing, On, Registered}
use Rattle.register.specs.Events.{Event, nothing, Allowed, Then, Says, adds, removes, all, uncounted_in, uncounted_out, sum_of, Signed}
use Rattle.story.specs.Shared.{Shared, worker_of, Call, start, step, Told}

-- every call "ends with an answer from the scope paper"
abbrev pub AnswersAreFromThePaper : Type 0
AnswersAreFromThePaper = (a : Answer) → IsOneOf (number_of a) (0 ∷ 1 ∷ 2 ∷ 10 ∷ 11 ∷ 12 ∷ 13 ∷ 14 ∷ 15 ∷ 16 ∷ 17 ∷ 18 ∷ 19 ∷ [])

-- "a register that only these calls have written is never called damaged", nor its tables too short, whatever call is made at state i
abbrev pub NeverDamaged : (would : ℕ → Call → Answer) → Type 0
NeverDamaged would = (i : ℕ) (c : Call) → (would i c ≢ Damaged) × (would i c ≢ Short)

-- 19 is never answered: M + W dummy nodes are enough
abbrev pub DummiesSuffice : (would : ℕ → Call → Answer) → Type 0
DummiesSuffice would = (i : ℕ) (c : Call) → would i c ≢ NoDummy

-- records past W are never touched
abbrev pub RecordsKept : Told → Type 0
RecordsKept r = (i n : ℕ) → (r.states i).header.w ≤ n → worker_of (r.states i) n ≡ worker_of (r.states 0) n

-- busy bits and records agree
abbrev pub BitsAgree : Told → Type 0
BitsAgree r = (i w : ℕ) → w < (r.states i).header.w → ((worker_of (r.states i) w).place ≡ IDLE) ↔ (bit w (r.states i).header.busy ≡ 0)

-- ---- what the first i of these events come to
abbrev pub tallied : (Event → ℕ) → (ℕ → Event) → ℕ → ℕ
tallied of events zero = 0
tallied of events (suc i) = of (events i) + tallied of events i

-- "for each key, inserts in effect less deletes in effect is 0 or 1, and 1 exactly when it is registered"
abbrev pub LedgerOf : (registered : List ℕ → ℕ → Type 0) (nodes : ℕ → List ℕ) (events : ℕ → Event) → Type 0
LedgerOf registered nodes events =
    (i k : ℕ) → k ≤ KEY_LIMIT →
    let ins = tallied (adds (eqb k)) events i in
    let del = tallied (removes (eqb k)) events i in
    (registered (nodes i) k × (ins ≡ del + 1)) ⊎ ((registered (nodes i) k → ⊥) × (ins ≡ del))

abbrev pub Ledger : Told → Type 0
Ledger r = LedgerOf Registered (λ (i : ℕ). (r.states i).nodes) r.events

-- registered keys change by the call's event alone: added where absent, removed where present
abbrev pub StepLaw : Told → Type 0
StepLaw r =
    (i : ℕ) → Allowed (r.events i) (Registered (r.states i).nodes)
    × ((j : ℕ) → j ≤ KEY_LIMIT → Registered (r.states (suc i)).nodes j ↔ Then (r.events i) (Registered (r.states i).nodes) j)

-- "the shared count, plus inserts in effect not yet counted, less such deletes, equals all inserts in effect less all deletes in effect"
abbrev pub Count : Told → Type 0
Count r =
    (i : ℕ) →
    let s = r.states i in
    Signed s.header.count
    (sum_of uncounted_in s.workers s.header.w + tallied (removes all) r.events i)
    (tallied (adds all) r.events i + sum_of uncounted_out s.workers s.header.w)

-- "each node is in exactly one place: free, held by one worker, on the chain, or waiting for named operations to end"
pub data Where : Type 0 where
  free chained : Where
  held waiting : (named : ℕ) → Where

abbrev pub At : Shared → ℕ → Where → Type 0
At s n free = standing s.nodes n ≡ FREE
At s n (held w) = (w < s.header.w) × ((held_key (worker_of s w) ≡ n) ⊎ (held_dummy (worker_of s w) ≡ n))
At s n chained = On s.nodes n
At s n (waiting set) =
    (standing s.nodes n ≡ set) × (1 ≤ set) × (set ≤ LARGEST_SET) × ((v : ℕ) → bit v set ≡ 1 → bit v s.header.busy ≡ 1)

abbrev pub OnePlace : Told → Type 0
OnePlace r =
    (i n : ℕ) → 1 ≤ n → n ≤ nodes_of (r.states i).header
    → (p : Where) × At (r.states i) n p × ((q : Where) → At (r.states i) n q → q ≡ p)

-- ---- worker w's operation at call e: the last that it started before, at call b
pub record Operation (r : Told) (w kind k b e : ℕ) : Type 0 where
  pub before : b < e
  pub started : r.call b ≡ start w kind k
  pub going : r.answers b ≡ Going
  pub last : (j kind k : ℕ) → b < j → j < e → r.call j ≡ start w kind k → r.answers j ≢ Going

-- call i is one of its own steps, up to call e
abbrev pub Own : Told → (w b e i : ℕ) → Type 0
Own r w b e i = (b < i) × (i ≤ e) × (r.call i ≡ step w)

-- every answer that ends an operation is the answer of one
abbrev pub Ends : Answer → Type 0
Ends a = ends a ≡ true

abbrev pub OfAnOperation : Told → Type 0
OfAnOperation r = (e w : ℕ) → r.call e ≡ step w → Ends (r.answers e) → (kind : ℕ) × (k : ℕ) × (b : ℕ) × Operation r w kind k b e

-- "every yes or no was true of the set at some moment between the operation's start and its answer": at an own step
abbrev pub TrueAtAMoment : Told → Type 0
TrueAtAMoment r =
    (w kind k b e : ℕ) → Operation r w kind k b e → r.call e ≡ step w → (r.answers e ≡ Yes) ⊎ (r.answers e ≡ No)
    → (i : ℕ) × Own r w b e i × Says k (Registered (r.states i).nodes k) kind (r.answers e) (r.events i)

-- an event is that of the operation whose worker steps, of its kind and key
abbrev pub OwnEvent : Told → Type 0
OwnEvent r =
    (i : ℕ) → r.events i ≢ nothing
    → (w : ℕ) × (kind : ℕ) × (k : ℕ) × (b : ℕ) × Operation r w kind k b i × Own r w b i i × Says k ⊥ kind Yes (r.events i)

-- an operation has at most one event, and ends with yes to an insert or a delete exactly if it had one
pub record Effects (r : Told) (w kind k b e : ℕ) : Type 0 where
  pub once : (i j : ℕ) → Own r w b e i → Own r w b e j → r.events i ≢ nothing → r.events j ≢ nothing → i ≡ j
  pub some : r.call e ≡ step w → r.answers e ≡ Yes → kind ≢ FIND → (i : ℕ) × Own r w b e i × (r.events i ≢ nothing)
  pub none : r.call e ≡ step w → Ends (r.answers e) → (r.answers e ≡ Yes → kind ≡ FIND) → (i : ℕ) → Own r w b e i → r.events i ≡ nothing

abbrev pub OwnEffect : Told → Type 0
OwnEffect r = (w kind k b e : ℕ) → Operation r w kind k b e → Effects r w kind k b e
