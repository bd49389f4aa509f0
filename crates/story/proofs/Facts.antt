-- What holds of the nodes, what each worker knows by its place, and what of that outlives another worker's step: over chain, words and fields alone.
-- Assumes nothing.
use mathlib.Core.Path.{◌≡◌}
use mathlib.Core.Logic.{◌≢◌, ◌⊎◌}
use mathlib.Core.Bool.{Bool, true, false}
use mathlib.Core.List.{List, Memᴰ as In}
use Prim.Native.Nat.{ℕ, ◌+◌, ◌*◌, ◌%◌, ◌≤◌, ◌<◌}
use lib.Dec.{eqb}
use lib.ListN.{length}
use Rattle.choice.specs.Choice.{pick}
use Rattle.split.specs.Split.{regular, dummy}
use Rattle.tree.specs.Tree.{on_path}
use Rattle.words.specs.Words.{TAKEN}
use Rattle.sets.specs.Sets.{bit}
use Rattle.names.specs.Names.{I1, SZ, TB, B2, B4, F1, F2, F3, F4, L2, B8, I8, I9, I10, D4A, D4B, D6, KEY, DUMMY, EXTRA, INSERT, DELETE}
use Rattle.header.specs.declared.Header.{Header}
use Rattle.header.specs.Header.{dummies_of, nodes_of}
use Rattle.header.specs.Rows.{PowerFromTo}
use Rattle.record.specs.declared.Worker.{Worker}
use Rattle.record.specs.Worker.{idle}
use Rattle.register.specs.Registered.{key, link, standing, mark}
use Rattle.story.proofs.Linked.{Walk}
use Rattle.story.proofs.Sane.{Sane}

-- worker v is waited for at node n
pub record Waits (N v : ℕ) (m : List ℕ) (n : ℕ) : Type 0 where
  pub fits : n ≤ N
  pub small : standing m n < 65536
  pub has : bit v (standing m n) ≡ 1

-- node n is safe for v: it is not reused while v works, since it is on the chain, or waits for v
abbrev pub Safe : ℕ → ℕ → List ℕ → List ℕ → ℕ → Type 0
Safe N v c m n = In n c ⊎ Waits N v m n

-- node n, above lo and up to hi, is taken and off the chain: in the hands of a worker
pub record Held (lo hi : ℕ) (c m : List ℕ) (n : ℕ) : Type 0 where
  pub low : lo < n
  pub high : n ≤ hi
  pub is : standing m n ≡ TAKEN
  pub off : In n c → ⊥

pub record Own (lo hi : ℕ) (c m : List ℕ) (n k : ℕ) : Type 0 where
  pub held : Held lo hi c m n
  pub has : key m n ≡ k

-- what holds of the nodes alone; c is the chain, nodes up to D are dummies, those up to N keys
pub record Nodes (D N : ℕ) (c m : List ℕ) : Type 0 where
  pub size : N * 3 ≤ length m
  pub walk : Walk m 0 1 c
  pub zero : key m 1 ≡ 0
  pub fits : (n : ℕ) → In n c → n ≤ N
  pub is : (n : ℕ) → In n c → standing m n ≡ TAKEN
  pub dead : (n : ℕ) → In n c → mark m n ≡ 1 → D < n
  pub even : (n : ℕ) → In n c → n ≤ D → key m n % 2 ≡ 0
  pub odd : (n : ℕ) → In n c → D < n → key m n % 2 ≡ 1
  pub kinds : (n : ℕ) → n ≤ N → (standing m n < 65536) ⊎ (standing m n ≡ TAKEN)
  pub left : (n : ℕ) → n ≤ N → 1 ≤ standing m n → standing m n < 65536 → mark m n ≡ 1
  pub links : (n : ℕ) → n ≤ N → link m n ≤ N * 2 + 1

-- k is the split key of some bucket's dummy
pub record OfBucket (M k : ℕ) : Type 0 where
  pub bucket : ℕ
  pub real : bucket < M
  pub has : k ≡ dummy bucket

-- a bucket that is set has its dummy on the chain
pub record Root (D : ℕ) (c m : List ℕ) (b n : ℕ) : Type 0 where
  pub on : In n c
  pub sort : n ≤ D
  pub has : key m n ≡ dummy b

-- ---- the parts of what a worker knows
abbrev pub want : ℕ → ℕ → ℕ → ℕ
want errand making k = pick (eqb errand DUMMY) (dummy making) (regular k)

-- an insert has a key node in hand
abbrev pub Has : ℕ → ℕ → Type 0
Has kind held = kind ≡ INSERT → held ≢ 0

-- the bucket being made is on the wanted one's path
pub record Way (k wanted making : ℕ) : Type 0 where
  pub below : dummy wanted < regular k
  pub some : making ≢ 0
  pub path : on_path wanted making ≡ true

-- what a search is for
pub data Aim (errand kind k wanted making held dummy-node : ℕ) : Type 0 where
  for_key : errand ≡ KEY → Has kind held → Aim errand kind k wanted making held dummy-node
  for_dummy : errand ≡ DUMMY → Has kind held → Way k wanted making → dummy-node ≢ 0 → Aim errand kind k wanted making held dummy-node
  for_extra : errand ≡ EXTRA → kind ≡ DELETE → Aim errand kind k wanted making held dummy-node

-- where a search starts
pub record Start (D : ℕ) (c m : List ℕ) (start most : ℕ) : Type 0 where
  pub on : In start c
  pub sort : start ≤ D
  pub low : key m start < most

pub record Prev (N v : ℕ) (c m : List ℕ) (prev most : ℕ) : Type 0 where
  pub safe : Safe N v c m prev
  pub low : key m prev < most

pub record Beyond (N v : ℕ) (c m : List ℕ) (cur most : ℕ) : Type 0 where
  pub safe : cur ≢ 0 → Safe N v c m cur
  pub high : cur ≢ 0 → most < key m cur

-- what F2 read; P says that at an own step of the operation the node was on the chain with this next node, unmarked, and this split key
pub record Read (N v : ℕ) (c m : List ℕ) (P : ℕ → ℕ → ℕ → Type 0) (cur next : ℕ) (marked : Bool) : Type 0 where
  pub live : marked ≡ false → next ≢ 0 → Safe N v c m next
  pub was : marked ≡ false → P cur next (key m cur)
  pub dead : marked ≡ true → link m cur ≡ next * 2 + 1

pub data Spot : Type 0 where
  i1 sz tb b2 b4 f1 f2 f3 f4 l2 b8 i8 i9 i10 d4a d4b d6 : Spot

abbrev pub number : Spot → ℕ
number i1 = I1
number sz = SZ
number tb = TB
number b2 = B2
number b4 = B4
number f1 = F1
number f2 = F2
number f3 = F3
number f4 = F4
number l2 = L2
number b8 = B8
number i8 = I8
number i9 = I9
number i10 = I10
number d4a = D4A
number d4b = D4B
number d6 = D6

abbrev pub AimOf : Worker → Type 0
AimOf x = Aim x.errand x.kind x.key x.wanted x.making x.held x.dummy

abbrev pub want_by : Worker → ℕ
want_by x = want x.errand x.making x.key

-- what worker v knows at a place
module _ (h : Header) (v : ℕ) (c m : List ℕ) (P : ℕ → ℕ → ℕ → Type 0) where
  abbrev pub D : ℕ
  D = dummies_of h

  abbrev pub N : ℕ
  N = nodes_of h

  abbrev pub Searches : Worker → Type 0
  Searches x = AimOf x × Start D c m x.start (want_by x)

  abbrev pub Passes : Worker → Type 0
  Passes x = Searches x × Prev N v c m x.prev (want_by x)

  abbrev pub At : Spot → Worker → Type 0
  At i1 x = x.kind ≡ INSERT
  At sz x = Has x.kind x.held
  At tb x = Has x.kind x.held × (dummy x.wanted < regular x.key)
  At b2 x = Has x.kind x.held × Way x.key x.wanted x.making
  At b4 x = Has x.kind x.held × Way x.key x.wanted x.making × Start D c m x.start (dummy x.making)
  At f1 x = Searches x
  At f2 x = Passes x × Safe N v c m x.cur
  At f3 x = Passes x × Safe N v c m x.cur × Read N v c m P x.cur x.next x.marked
  At f4 x = Passes x × Safe N v c m x.cur × (link m x.cur ≡ x.next * 2 + 1)
  At l2 x = Passes x × Beyond N v c m x.cur (want_by x) × ((x.errand ≡ DUMMY) ⊎ ((x.errand ≡ KEY) × (x.kind ≡ INSERT)))
  At b8 x = Has x.kind x.held × Way x.key x.wanted x.making × Root D c m x.making x.dummy
  At i8 x = x.kind ≡ INSERT
  At i9 x = (x.kind ≡ INSERT) × PowerFromTo 2 h.m x.size
  At i10 x = (x.kind ≡ INSERT) × PowerFromTo 2 h.m x.size × (x.size < h.m)
  At d4a x = (x.kind ≡ DELETE) × (x.errand ≡ KEY) × Start D c m x.start (regular x.key) × Safe N v c m x.prev × Safe N v c m x.cur × (key m x.cur ≡ regular x.key)
  At d4b x = (x.kind ≡ DELETE) × Start D c m x.start (regular x.key) × Safe N v c m x.prev × Safe N v c m x.cur × (link m x.cur ≡ x.next * 2 + 1)
  At d6 x = x.kind ≡ DELETE

-- the nodes in hand, by place
abbrev pub in_hand : Worker → ℕ
in_hand x = pick (eqb x.kind INSERT) x.held 0

abbrev pub key_of : Spot → Worker → ℕ
key_of i1 x = 0
key_of sz x = in_hand x
key_of tb x = in_hand x
key_of b2 x = in_hand x
key_of b4 x = in_hand x
key_of f1 x = in_hand x
key_of f2 x = in_hand x
key_of f3 x = in_hand x
key_of f4 x = in_hand x
key_of l2 x = in_hand x
key_of b8 x = in_hand x
key_of i8 x = 0
key_of i9 x = 0
key_of i10 x = 0
key_of d4a x = 0
key_of d4b x = 0
key_of d6 x = 0

abbrev pub sought : Worker → ℕ
sought x = pick (eqb x.errand DUMMY) x.dummy 0

abbrev pub dummy_of : Spot → Worker → ℕ
dummy_of i1 x = 0
dummy_of sz x = 0
dummy_of tb x = 0
dummy_of b2 x = 0
dummy_of b4 x = 0
dummy_of f1 x = sought x
dummy_of f2 x = sought x
dummy_of f3 x = sought x
dummy_of f4 x = sought x
dummy_of l2 x = sought x
dummy_of b8 x = 0
dummy_of i8 x = 0
dummy_of i9 x = 0
dummy_of i10 x = 0
dummy_of d4a x = 0
dummy_of d4b x = 0
dummy_of d6 x = 0

pub record Busy (h : Header) (v : ℕ) (c m : List ℕ) (P : ℕ → ℕ → ℕ → Type 0) (x : Worker) : Type 0 where
  pub spot : Spot
  pub place : x.place ≡ number spot
  pub sane : Sane h x
  pub held : key_of spot x ≢ 0 → Own (dummies_of h) (nodes_of h) c m (key_of spot x) (regular x.key)
  pub dummy_held : dummy_of spot x ≢ 0 → Own 0 (dummies_of h) c m (dummy_of spot x) (dummy x.making)
  pub at : At h v c m P spot x

-- a worker is idle, with zeros, or busy
abbrev pub Fact : Header → ℕ → List ℕ → List ℕ → (ℕ → ℕ → ℕ → Type 0) → Worker → Type 0
Fact h v c m P x = (x ≡ idle) ⊎ Busy h v c m P x

-- what a step that has node g in hand leaves to worker v
pub record Later (D N v g : ℕ) (c m c' m' : List ℕ) : Type 0 where
  pub safe : (n : ℕ) → Safe N v c m n → Safe N v c' m' n
  pub keys : (n : ℕ) → Safe N v c m n → key m' n ≡ key m n
  pub dead : (n : ℕ) → Safe N v c m n → mark m n ≡ 1 → link m' n ≡ link m n
  pub root : (n : ℕ) → In n c → n ≤ D → In n c'
  pub held : (lo hi n : ℕ) → n ≢ g → hi ≤ N → Held lo hi c m n → Held lo hi c' m' n
  pub has : (lo hi n : ℕ) → n ≢ g → Held lo hi c m n → key m' n ≡ key m n
