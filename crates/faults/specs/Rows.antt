-- The record's own rows of 12, as the scope paper says them.
use Rattle.std.specs.Prelude.{ℕ, zero, suc, ◌≤◌, ◌<◌, ◌≡◌, ◌⊎◌, List, [], ◌∷◌}
use Rattle.tree.specs.Tree.{parent_of}
use Rattle.sets.specs.Sets.{bit}
use Rattle.names.specs.Names.{IDLE, I1, SZ, TB, B2, B4, F1, F2, F3, F4, L2, B8, I8, I9, I10, D4A, D4B, D6, KEY, DUMMY, EXTRA, INSERT, FIND, DELETE, KEY_LIMIT}
use Rattle.header.specs.Header.{nodes_of}
use Rattle.header.specs.Rows.{PowerFromTo}
use Rattle.header.specs.declared.Header.{Header}
use Rattle.record.specs.Worker.{idle}
use Rattle.record.specs.declared.Worker.{Worker}

-- p is one of the listed numbers
abbrev pub IsOneOf : ℕ → List ℕ → Type 0
IsOneOf p [] = ⊥
IsOneOf p (q ∷ qs) = (p ≡ q) ⊎ IsOneOf p qs

-- a place that the paper names
abbrev pub KnownPlace : Worker → Type 0
KnownPlace x = IsOneOf x.place (IDLE ∷ I1 ∷ SZ ∷ TB ∷ B2 ∷ B4 ∷ F1 ∷ F2 ∷ F3 ∷ F4 ∷ L2 ∷ B8 ∷ I8 ∷ I9 ∷ I10 ∷ D4A ∷ D4B ∷ D6 ∷ [])

-- an errand that the paper names
abbrev pub KnownErrand : Worker → Type 0
KnownErrand x = IsOneOf x.errand (KEY ∷ DUMMY ∷ EXTRA ∷ [])

-- a kind that the paper names: a busy record's is 1, 2 or 3, and 0 is an idle record's alone
abbrev pub KnownKind : Worker → Type 0
KnownKind x = IsOneOf x.kind (INSERT ∷ FIND ∷ DELETE ∷ []) ⊎ ((x.kind ≡ 0) × (x.place ≡ IDLE))

-- "the record has an unknown place, errand or kind"
abbrev pub UnknownName : Worker → Type 0
UnknownName x = (KnownPlace x → ⊥) ⊎ (KnownErrand x → ⊥) ⊎ (KnownKind x → ⊥)

-- "a key above the limit": keys are 0 to 2,147,483,647
abbrev pub KeyAbove : ℕ → Type 0
KeyAbove key = KEY_LIMIT < key

-- "a bucket at M or above"
abbrev pub BucketBeyond : Header → Worker → Type 0
BucketBeyond h x = (h.m ≤ x.wanted) ⊎ (h.m ≤ x.making)

-- "a node number above N"
abbrev pub NodeBeyond : Header → Worker → Type 0
NodeBeyond h x =
    (nodes_of h < x.start) ⊎ (nodes_of h < x.prev) ⊎ (nodes_of h < x.cur) ⊎ (nodes_of h < x.next) ⊎ (nodes_of h < x.held) ⊎ (nodes_of h < x.dummy)

-- "or disagrees with its busy bit": the bit is set while the record is idle, or is not while it is busy
abbrev pub BitDisagrees : Header → ℕ → Worker → Type 0
BitDisagrees h w x =
    ((bit w h.busy ≡ 1) × (x.place ≡ IDLE)) ⊎ ((bit w h.busy ≡ 1 → ⊥) × (x.place ≡ IDLE → ⊥))

-- "an idle record's other fields must be 0"
abbrev pub IdleNotZero : Worker → Type 0
IdleNotZero x = (x.place ≡ IDLE) × (x ≡ idle → ⊥)

-- "I-steps": the places at which only an insert stands
abbrev pub InsertStep : Worker → Type 0
InsertStep x = IsOneOf x.place (I1 ∷ I8 ∷ I9 ∷ I10 ∷ [])

-- "D-steps": the places at which only a delete stands
abbrev pub DeleteStep : Worker → Type 0
DeleteStep x = IsOneOf x.place (D4A ∷ D4B ∷ D6 ∷ [])

-- "I-steps need insert, D-steps delete"
abbrev pub KindMisfit : Worker → Type 0
KindMisfit x = (InsertStep x × (x.kind ≡ INSERT → ⊥)) ⊎ (DeleteStep x × (x.kind ≡ DELETE → ⊥))

-- "a dummy or an insert", the insert on the errand of its own key
abbrev pub DummyOrInsert : Worker → Type 0
DummyOrInsert x = (x.errand ≡ DUMMY) ⊎ ((x.errand ≡ KEY) × (x.kind ≡ INSERT))

-- "the extra search", at one of a search's places
abbrev pub ExtraSearch : Worker → Type 0
ExtraSearch x = IsOneOf x.place (F1 ∷ F2 ∷ F3 ∷ F4 ∷ L2 ∷ []) × (x.errand ≡ EXTRA)

-- "L2 a dummy or an insert, the extra search a delete"
abbrev pub ErrandMisfit : Worker → Type 0
ErrandMisfit x = ((x.place ≡ L2) × (DummyOrInsert x → ⊥)) ⊎ (ExtraSearch x × (x.kind ≡ DELETE → ⊥))

-- b's parent, that one's parent and so on: the parent taken n times
abbrev pub parents : ℕ → ℕ → ℕ
parents zero b = b
parents (suc n) b = parents n (parent_of b)

-- a is on the path of bucket b: b itself, its parent, that one's parent and so on
abbrev pub OnPath : ℕ → ℕ → Type 0
OnPath b a = (n : ℕ) × (parents n b ≡ a)

-- "a non-zero one on the wanted bucket's path"
abbrev pub MakingOnPath : Worker → Type 0
MakingOnPath x = (x.making ≡ 0 → ⊥) × OnPath x.wanted x.making

-- "the bucket being made at B2, B4 or B8 isn't a non-zero one on the wanted bucket's path"
abbrev pub MakingAstray : Worker → Type 0
MakingAstray x = IsOneOf x.place (B2 ∷ B4 ∷ B8 ∷ []) × (MakingOnPath x → ⊥)

-- "isn't a power of two from 2 to M (for I10, below M)"
abbrev pub SizeWrong : Header → Worker → Type 0
SizeWrong h x = (PowerFromTo 2 h.m x.size → ⊥) ⊎ ((x.place ≡ I10) × (h.m ≤ x.size))

-- "a size remembered for I9 or I10 isn't a power of two from 2 to M (for I10, below M)"
abbrev pub SizeMisfit : Header → Worker → Type 0
SizeMisfit h x = IsOneOf x.place (I9 ∷ I10 ∷ []) × SizeWrong h x

-- "12 is given exactly when", the record's own part: one of them all
abbrev pub WorkerDamaged : Header → ℕ → Worker → Type 0
WorkerDamaged h w x =
    UnknownName x
    ⊎ KeyAbove x.key
    ⊎ BucketBeyond h x
    ⊎ NodeBeyond h x
    ⊎ BitDisagrees h w x
    ⊎ IdleNotZero x
    ⊎ KindMisfit x
    ⊎ ErrandMisfit x
    ⊎ MakingAstray x
    ⊎ SizeMisfit h x
