-- Wrong versions of a step, each close to ours, and the inputs at which they are caught.
-- The register of the inputs has M 4, K 1, W 2, L 1, so N is 7: nodes 1 to 6 are for dummies, node 7 for a key; size may be 2 or 4.
use Rattle.std.specs.Prelude.{ℕ, zero, suc, ◌+◌, ◌/◌, ◌%◌, Bool, true, false, not, ◌&&◌, List, [], ◌∷◌, ◌≡◌, ltb, eqb, Ok, Err}
use Rattle.choice.specs.Choice.{pick}
use Rattle.words.specs.declared.Lengths.{Lengths}
use Rattle.words.specs.Words.{Tables, tables, lengths, Left, left, TAKEN, store}
use Rattle.names.specs.Names.{I1, SZ, TB, B4, D4B, D6, KEY, INSERT, FIND, DELETE, goes_on}
use Rattle.names.specs.declared.Answer.TheVariants.{Going as GoingOn, Yes, Damaged as IsDamaged}
use Rattle.header.specs.declared.Header.{Header}
use Rattle.header.specs.Header.{fresh as fresh_header, sized, counted, busied, doubles}
use Rattle.record.specs.declared.Worker.{Worker}
use Rattle.record.specs.Fields.{to, with_steps}
use Rattle.record.specs.Worker.{fresh, idle, ticked}
use Rattle.moves.specs.declared.Seen.{Seen}
use Rattle.acts.specs.declared.Effect.{Effect}
use Rattle.acts.specs.declared.Effect.TheVariants.{Nothing, TakeKey, TakeDummy, Free, Aim, Place, Mark, Unlink, Store, Count, Size}
use Rattle.acts.specs.declared.Move.{Move}
use Rattle.acts.specs.declared.Move.TheVariants.{Damaged, Going, Ended}
use Rattle.moves.specs.Moves.{on, decided}
use Rattle.register.specs.declared.Turn.{Turn}
use Rattle.acts.specs.declared.Outcome.{Outcome}
use Rattle.acts.specs.Acts.{handed_back}
use Rattle.names.specs.Verdicts.{Verdict}
use Rattle.register.specs.Step.{refused_with, word_for, seen_by, carried}
use Rattle.register.specs.Calls.{start_of, step_verdict, step_of}
use Rattle.promises.specs.Access.{place_of}

-- a step, as ours is
abbrev pub Step : Type 0
Step = Turn → Tables → Left Outcome

-- what the version leaves at this input is not what a step promises
abbrev pub Breaks : Step → Turn → Tables → Type 0
Breaks wrong t ts = wrong t ts ≡ step_of t ts → ⊥

-- ---- the inputs
abbrev pub header : (size count : ℕ) → Header
header size count = busied 3 (counted count (sized size (fresh_header 4 1 2 1)))

-- worker 0's turn, with worker 1 busy too
abbrev pub of_worker0 : Header → Worker → Turn
of_worker0 h x = record { number = 0; header = h; worker = x }

-- as prepared: node 1 taken, bucket 0 holds it
abbrev pub empty_buckets : List ℕ
empty_buckets = 1 ∷ 0 ∷ 0 ∷ 0 ∷ []

abbrev pub empty : Tables
empty = tables (0 ∷ 0 ∷ TAKEN ∷ 0 ∷ 0 ∷ 0 ∷ 0 ∷ 0 ∷ 0 ∷ 0 ∷ 0 ∷ 0 ∷ 0 ∷ 0 ∷ 0 ∷ 0 ∷ 0 ∷ 0 ∷ 0 ∷ 0 ∷ 0 ∷ []) empty_buckets

-- key 0 on the chain at node 7, and marked: 1 links to 7, 7 to nothing
abbrev pub marked : Tables
marked = tables (0 ∷ 14 ∷ TAKEN ∷ 0 ∷ 0 ∷ 0 ∷ 0 ∷ 0 ∷ 0 ∷ 0 ∷ 0 ∷ 0 ∷ 0 ∷ 0 ∷ 0 ∷ 0 ∷ 0 ∷ 0 ∷ 1 ∷ 1 ∷ TAKEN ∷ []) empty_buckets

-- worker 0 idle, with worker 1 busy
abbrev pub starting : Turn
starting = of_worker0 (busied 2 (header 2 0)) idle

-- an insert of key 0 at its first step
abbrev pub inserting : Turn
inserting = of_worker0 (header 2 0) (fresh I1 INSERT 0)

-- a find of key 1 that makes bucket 1, at B4
abbrev pub making : Turn
making = of_worker0 (header 2 0) (record { place = B4; errand = KEY; kind = FIND; key = 1; wanted = 1; making = 1; size = 0; start = 1; prev = 0; cur = 0; next = 0; marked = false; held = 0; dummy = 0; steps = 3 })

-- a find of key 2 that read size 2 and so wants bucket 0, at TB; size is 4 by now
abbrev pub wanting : Turn
wanting = of_worker0 (header 4 0) (with_steps 1 (fresh TB FIND 2))

-- a delete of key 0 that has marked node 7, at D4b
abbrev pub unlinking : Turn
unlinking = of_worker0 (header 2 1) (record { place = D4B; errand = KEY; kind = DELETE; key = 0; wanted = 0; making = 0; size = 0; start = 1; prev = 1; cur = 7; next = 0; marked = false; held = 0; dummy = 0; steps = 6 })

-- the same delete at its last step, with node 7 off the chain and waited for
abbrev pub counting : Turn
counting = of_worker0 (header 2 1) (with_steps 7 (to D6 unlinking.worker))

abbrev pub unlinked : Tables
unlinked = tables (0 ∷ 0 ∷ TAKEN ∷ 0 ∷ 0 ∷ 0 ∷ 0 ∷ 0 ∷ 0 ∷ 0 ∷ 0 ∷ 0 ∷ 0 ∷ 0 ∷ 0 ∷ 0 ∷ 0 ∷ 0 ∷ 1 ∷ 1 ∷ 3 ∷ []) empty_buckets

-- our step refuses none of them
pub record Accepted : Type 0 where
  pub insert : (step_of inserting empty).out.called.answer ≡ GoingOn
  pub make : (step_of making empty).out.called.answer ≡ GoingOn
  pub want : (step_of wanting empty).out.called.answer ≡ GoingOn
  pub unlink : (step_of unlinking marked).out.called.answer ≡ GoingOn
  pub last : (step_of counting unlinked).out.called.answer ≡ Yes

-- ---- "Try these versions against the promises"
-- "one that refuses each call"
unfoldable pub refuses_all : Step
refuses_all t ts = left (refused_with IsDamaged t) ts

unfoldable pub refuses_starts : Turn → ℕ → ℕ → Lengths → Outcome
refuses_starts t kind key lengths = refused_with IsDamaged t

-- "one that says yes to all"
unfoldable pub says_yes : Step
says_yes t ts = left (record { called = record { answer = Yes; steps = t.worker.steps; header = t.header }; worker = idle }) ts

-- "one that does nothing"
unfoldable pub does_nothing : Step
does_nothing t ts = left (handed_back GoingOn t.header t.worker) ts

-- our steps, up to the first answer that is not going on, and at most `most` of them
unfoldable pub to_the_end : ℕ → Turn → Tables → Left Outcome
to_the_end zero t ts = step_of t ts
to_the_end (suc most) t ts =
    let a = step_of t ts in
    elim (goes_on a.out.called.answer) [ true ↦ to_the_end most (record { number = t.number; header = a.out.called.header; worker = a.out.worker }) a.tables | false ↦ a ]

-- "one that does the whole operation at its first step and idles through the others"
unfoldable pub all_at_once : Step
all_at_once t ts =
    let whole = to_the_end 20 t ts in
    let idling = handed_back GoingOn t.header (ticked t.worker) in
    pick (eqb t.worker.steps 0) (left (step_of t ts).out whole.tables) (left idling ts)

-- "one that invents its count": D6 leaves it
unfoldable pub invents_count : Step
invents_count t ts =
    let a = step_of t ts in
    let o = a.out in
    let c = o.called in
    let invented : Outcome = record { called = record { answer = c.answer; steps = c.steps; header = counted t.header.count c.header }; worker = o.worker } in
    left (pick (eqb (place_of t) D6) invented o) a.tables

-- "or steps": an answer other than going on gives one more
unfoldable pub invents_steps : Step
invents_steps t ts =
    let a = step_of t ts in
    let o = a.out in
    let c = o.called in
    let more : Outcome = record { called = record { answer = c.answer; steps = c.steps + 1; header = c.header }; worker = o.worker } in
    left (pick (goes_on o.called.answer) o more) a.tables

-- ---- "Errors that look reasonable"
-- 1. "Reading the count as unsigned": the load test without its test of the sign
unfoldable pub unsigned_count : Header → ℕ → ℕ → Bool
unsigned_count h size old = ltb h.l (old / size) && ltb size h.m

-- our step with another way to decide
abbrev pub deciding_by : (Seen → Move) → Turn → Tables → Verdict → Left Outcome
deciding_by f t ts (Err a) = left (refused_with a t) ts
deciding_by f t ts (Ok _) = carried t (f (seen_by t ts)) ts

-- 2. "Freeing an unlinked node at once": its standing becomes 0 and not the busy set
abbrev pub freeing : Effect → Effect
freeing Nothing = Nothing
freeing (TakeKey n split) = TakeKey n split
freeing (TakeDummy n split) = TakeDummy n split
freeing (Free n) = Free n
freeing (Aim n next) = Aim n next
freeing (Place n next prev) = Place n next prev
freeing (Mark n next) = Mark n next
freeing (Unlink prev next n busy) = Unlink prev next n 0
freeing (Store b n) = Store b n
freeing (Count v) = Count v
freeing (Size v) = Size v

abbrev pub freed : Move → Move
freed Damaged = Damaged
freed (Going x e) = Going x (freeing e)
freed (Ended a e) = Ended a (freeing e)

unfoldable pub frees_at_once : Step
frees_at_once t ts = deciding_by (λ s. freed (decided s)) t ts (step_verdict t (lengths ts))

-- 3. "Making a bucket's entry before its dummy is on the chain": B4 stores the node that it takes
unfoldable pub stores_early : Step
stores_early t ts =
    let a = step_of t ts in
    let bs = a.tables.buckets in
    left a.out (tables a.tables.nodes (pick (eqb (place_of t) B4) (store bs t.worker.making (word_for t ts)) bs))

-- 4. "Refusing or restarting when size changed after SZ": TB goes back where the key has another bucket by now
unfoldable pub restarting : Seen → Move
restarting s =
    let x = s.worker in
    pick (eqb x.place TB && not (eqb (x.key % s.header.size) x.wanted)) (on (to SZ x)) (decided s)

unfoldable pub restarts_on_size : Step
restarts_on_size t ts = deciding_by restarting t ts (step_verdict t (lengths ts))

-- ---- each version is caught at one input
pub record Caught : Type 0 where
  -- demand 1: the answer is 12 and should be 0, of a step and of a start
  pub refuses : Breaks refuses_all inserting empty
  pub refuses_start : refuses_starts starting INSERT 0 (lengths empty) ≡ start_of starting INSERT 0 (lengths empty) → ⊥
  -- demand 2: the answer is 1 and should be 0
  pub yes_to_all : Breaks says_yes inserting empty
  -- demand 2, by the words after each step: node 7 is free and should be taken
  pub nothing : Breaks does_nothing inserting empty
  -- demand 2, by the words after each step: node 1 links to node 7 at I1 and should link to nothing
  pub at_once : Breaks all_at_once inserting empty
  -- demand 2: the count is 1 and should be 0
  pub count : Breaks invents_count counting unlinked
  -- demand 3: 9 steps are told and should be 8
  pub steps : Breaks invents_steps counting unlinked
  -- 1. "old 4,294,967,295 then doubles a nearly empty table"
  pub unsigned : unsigned_count (header 2 0) 2 4294967295 ≡ doubles (header 2 0) 2 4294967295 → ⊥
  -- 2. "under a slower worker": node 7 is free and should wait for workers 0 and 1
  pub frees : Breaks frees_at_once unlinking marked
  -- 3. bucket 1 holds node 2 at B4 and should be uninitialised
  pub stores : Breaks stores_early making empty
  -- 4. "The older bucket still precedes the key": the worker is at SZ and should be at F1
  pub restarts : Breaks restarts_on_size wanting empty
