-- When each call is refused: the scope paper's numbers from 10 on, in the order in which they are checked, and each exactly when.
use Rattle.std.specs.Prelude.{ℕ, ◌+◌, ◌*◌, ◌≤◌, ◌<◌, true, false, List, [], ◌∷◌, ◌⊎◌, ◌↔◌, ◌≡◌}
use Rattle.choice.specs.Table.{Claims, done, row, RefusedBy}
use Rattle.tree.specs.Tree.{parent_of}
use Rattle.words.specs.declared.Lengths.{Lengths}
use Rattle.words.specs.Words.{Tables, lengths, SPLIT_KEY, LINK, STANDING, FREE, word, bucket}
use Rattle.names.specs.Names.{IDLE, I1, TB, B2, B4, F1, F2, F3, F4, L2, B8, D4A, D4B, KEY, DUMMY, INSERT, FIND, DELETE, has_row}
use Rattle.names.specs.declared.Answer.{Answer}
use Rattle.names.specs.declared.Answer.TheVariants.{Limit, Short, Damaged, NoWorker, KeyAbove as AboveLimit, IsBusy, IsIdle, NoKind, NoKeyNode, NoDummy}
use Rattle.header.specs.declared.Header.{Header}
use Rattle.header.specs.Header.{nodes_of, dummies_of}
use Rattle.header.specs.Rows.{LimitBroken, HeaderDamaged}
use Rattle.record.specs.declared.Worker.{Worker}
use Rattle.faults.specs.Rows.{IsOneOf, KeyAbove, WorkerDamaged}
use Rattle.moves.specs.Moves.{want_of, held_for}
use Rattle.prepare.specs.declared.Limits.{Limits}
use Rattle.register.specs.declared.Turn.{Turn}
use Rattle.prepare.specs.Prepare.{fresh_header, prepared}
use Rattle.register.specs.Calls.{start_of, step_of}
use Rattle.promises.specs.Access.{place_of}

-- ---- 11, 13, 17, 15 and 16
-- "a lent table is too short": fewer than 3N node words or M bucket words
abbrev pub TooShort : Header → Lengths → Type 0
TooShort h lengths = (lengths.nodes < nodes_of h * 3) ⊎ (lengths.buckets < h.m)

-- "worker number is W or more"
abbrev pub NumberBeyond : Turn → Type 0
NumberBeyond t = t.header.w ≤ t.number

-- "operation kind isn't 1 insert, 2 find, 3 delete"
abbrev pub UnknownKind : ℕ → Type 0
UnknownKind kind = IsOneOf kind (INSERT ∷ FIND ∷ DELETE ∷ []) → ⊥

-- the worker is idle: its place is
abbrev pub Idle : Turn → Type 0
Idle t = place_of t ≡ IDLE

-- ---- 12 for the words read
-- "a bucket word read is above N"
abbrev pub BucketAbove : Header → ℕ → Type 0
BucketAbove h read = nodes_of h < read

-- "a link read is above 2N+1"
abbrev pub LinkAbove : Header → ℕ → Type 0
LinkAbove h read = nodes_of h * 2 + 1 < read

-- the node whose link is read is 0: "a node number that this step must follow", or its link is above 2N+1
abbrev pub LinkDamaged : Header → ℕ → ℕ → Type 0
LinkDamaged h n link = (n ≡ 0) ⊎ LinkAbove h link

-- the link is (0, next): unmarked, and twice the number of the next node
abbrev pub LinksTo : ℕ → ℕ → Type 0
LinksTo link next = link ≡ next * 2

-- at F4 and D4b: prev's link is damaged, or the swap comes about with cur 0, whose standing it must write
abbrev pub SwapDamaged : Header → Worker → ℕ → Type 0
SwapDamaged h x link = LinkDamaged h x.prev link ⊎ (LinksTo link x.cur × (x.cur ≡ 0))

-- found with no node in hand to free: a dummy's search has no dummy node, an insert's own no key node
abbrev pub FoundDamaged : Worker → Type 0
FoundDamaged x = ((x.errand ≡ DUMMY) × (x.dummy ≡ 0)) ⊎ ((x.errand ≡ KEY) × (x.kind ≡ INSERT) × (x.held ≡ 0))

-- cur was unmarked at F2, and is 0 or has the wanted split key with no node in hand to free
abbrev pub CurDamaged : Worker → ℕ → Type 0
CurDamaged x key = (x.marked ≡ false) × ((x.cur ≡ 0) ⊎ ((key ≡ want_of x) × FoundDamaged x))

-- at F3: prev's link is damaged, or it is (0, cur) and cur is
abbrev pub SearchDamaged : Header → Worker → ℕ → ℕ → Type 0
SearchDamaged h x link key = LinkDamaged h x.prev link ⊎ (LinksTo link x.cur × CurDamaged x key)

-- at L2: the node to place or prev is 0, or prev's link is above 2N+1, unless prev is that node, whose link is written first
abbrev pub PlaceDamaged : Header → Worker → ℕ → Type 0
PlaceDamaged h x link = (held_for x ≡ 0) ⊎ (x.prev ≡ 0) ⊎ ((x.prev ≡ held_for x → ⊥) × LinkAbove h link)

-- no node from the first to the last of these is free: a free node's standing is 0
abbrev pub NoneFree : List ℕ → ℕ → ℕ → Type 0
NoneFree ns first last = (n : ℕ) → first ≤ n → n ≤ last → word ns n STANDING ≡ FREE → ⊥

-- keys are the nodes M + W + 1 to N, dummies 1 to M + W
abbrev pub NoKeyFree : Header → List ℕ → Type 0
NoKeyFree h ns = NoneFree ns (dummies_of h + 1) (nodes_of h)

abbrev pub NoDummyFree : Header → List ℕ → Type 0
NoDummyFree h ns = NoneFree ns 1 (dummies_of h)

-- at B4: the operation would end with 19, and an insert has no key node in hand to free
abbrev pub EndDamaged : Header → List ℕ → Worker → Type 0
EndDamaged h ns x = NoDummyFree h ns × (x.kind ≡ INSERT) × (x.held ≡ 0)

-- a table of claims by place
pub data Places : Type 1 where
  nowhere : Places
  at : ℕ → Type 0 → Places → Places

-- the claim of place p holds; there is none where p is not listed
abbrev pub AtPlace : ℕ → Places → Type 0
AtPlace p nowhere = ⊥
AtPlace p (at q claim rest) = ((p ≡ q) × claim) ⊎ ((p ≡ q → ⊥) × AtPlace p rest)

-- what a step can find damaged, place by place, and nothing elsewhere
abbrev pub place_claims : Turn → Tables → Places
place_claims t ts =
    let ns = ts.nodes in
    let h = t.header in
    let x = t.worker in
    at TB (BucketAbove h (bucket ts.buckets x.wanted))
    (at B2 (BucketAbove h (bucket ts.buckets (parent_of x.making)))
    (at B4 (EndDamaged h ns x)
    (at F1 (LinkDamaged h x.start (word ns x.start LINK))
    (at F2 (LinkDamaged h x.cur (word ns x.cur LINK))
    (at F3 (SearchDamaged h x (word ns x.prev LINK) (word ns x.cur SPLIT_KEY))
    (at F4 (SwapDamaged h x (word ns x.prev LINK))
    (at L2 (PlaceDamaged h x (word ns x.prev LINK))
    (at B8 (x.dummy ≡ 0)
    (at D4A (LinkDamaged h x.cur (word ns x.cur LINK))
    (at D4B (SwapDamaged h x (word ns x.prev LINK))
    nowhere))))))))))

-- "a bucket word read is above N; a link read is above 2N+1; or a node number that this step must follow, free or write is 0"
abbrev pub WordsDamaged : Turn → Tables → Type 0
WordsDamaged t ts = AtPlace (place_of t) (place_claims t ts)

-- ---- 18 and 19
-- "no free key node at I1"
abbrev pub NoFreeKey : Turn → Tables → Type 0
NoFreeKey t ts = (place_of t ≡ I1) × NoKeyFree t.header ts.nodes

-- "no free dummy node at B4"
abbrev pub NoFreeDummy : Turn → Tables → Type 0
NoFreeDummy t ts = (place_of t ≡ B4) × NoDummyFree t.header ts.nodes

-- ---- the orders of the checks; what 11 claims is handed in, since the records may be a lent table too
-- "Preparing checks 10, then 11."
abbrev pub prepare_claims : Limits → Type 0 → Claims Answer
prepare_claims l short =
    row (LimitBroken (fresh_header l)) Limit
    (row short Short
    done)

-- a start checks "header range (12), 11, 13", "17 and 14", "the record's own faults (12), 15"
abbrev pub start_claims : Turn → ℕ → ℕ → Type 0 → Claims Answer
start_claims t kind key short =
    row (HeaderDamaged t.header) Damaged
    (row short Short
    (row (NumberBeyond t) NoWorker
    (row (UnknownKind kind) NoKind
    (row (KeyAbove key) AboveLimit
    (row (WorkerDamaged t.header t.number t.worker) Damaged
    (row (Idle t → ⊥) IsBusy
    done))))))

-- a step checks "header range (12), 11, 13", "the record's own faults (12), .. 16, then words read and missing node numbers (12), then 18 or 19"
abbrev pub step_claims : Turn → Tables → Type 0 → Claims Answer
step_claims t ts short =
    row (HeaderDamaged t.header) Damaged
    (row short Short
    (row (NumberBeyond t) NoWorker
    (row (WorkerDamaged t.header t.number t.worker) Damaged
    (row (Idle t) IsIdle
    (row (WordsDamaged t ts) Damaged
    (row (NoFreeKey t ts) NoKeyNode
    (row (NoFreeDummy t ts) NoDummy
    done)))))))

-- ---- each refusal is given exactly when its row holds and no earlier one does
abbrev pub PrepareExactly : Type 0
PrepareExactly =
    (l : Limits) (h : Header) (ts : Tables) (a : Answer) → has_row a ≡ true
    → ((prepared l h ts).out.answer ≡ a) ↔ RefusedBy (prepare_claims l (TooShort (fresh_header l) (lengths ts))) a

abbrev pub StartExactly : Type 0
StartExactly =
    (t : Turn) (kind key : ℕ) (lengths : Lengths) (a : Answer) → has_row a ≡ true
    → ((start_of t kind key lengths).called.answer ≡ a) ↔ RefusedBy (start_claims t kind key (TooShort t.header lengths)) a

abbrev pub StepExactly : Type 0
StepExactly =
    (t : Turn) (ts : Tables) (a : Answer) → has_row a ≡ true
    → ((step_of t ts).out.called.answer ≡ a) ↔ RefusedBy (step_claims t ts (TooShort t.header (lengths ts))) a
