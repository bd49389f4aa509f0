-- Which lent words a step reads and writes, place by place, in the words of the scope paper's steps.
use Rattle.std.specs.Prelude.{ℕ, ◌*◌, ◌≤◌, ◌<◌, ◌⊎◌, ◌≡◌, length}
use Rattle.tree.specs.Tree.{parent_of}
use Rattle.words.specs.Words.{Tables, lengths, SPLIT_KEY, LINK, STANDING, word, bucket}
use Rattle.names.specs.Names.{I1, TB, B2, B4, F1, F2, F3, F4, L2, B8, D4A, D4B}
use Rattle.names.specs.declared.Answer.{Answer}
use Rattle.header.specs.declared.Header.{Header}
use Rattle.header.specs.Header.{nodes_of, dummies_of}
use Rattle.acts.specs.declared.Effect.{Effect}
use Rattle.acts.specs.declared.Move.{Move}
use Rattle.acts.specs.declared.Move.TheVariants.{Damaged, Going, Ended}
use Rattle.moves.specs.Moves.{held_for}
use Rattle.register.specs.declared.Turn.{Turn}
use Rattle.header.specs.Header.{is_short}

-- ---- "A node has three 32-bit words: split key, link, standing"
pub data Part : Type 0 where
  split_key link standing : Part
  deriving Discrete as part-discrete

-- where the part stands among the node's words
abbrev pub spot : Part → ℕ
spot split_key = SPLIT_KEY
spot link = LINK
spot standing = STANDING

-- a lent word: a part of a node, or the word of a bucket
pub data Word : Type 0 where
  of_node : ℕ → Part → Word
  of_bucket : ℕ → Word
  deriving Discrete as word-discrete

-- what stands in the word
abbrev pub value : Word → Tables → ℕ
value (of_node n p) ts = word ts.nodes n (spot p)
value (of_bucket b) ts = bucket ts.buckets b

-- the word is one of the 3N node words and M bucket words; node 0 means nothing
abbrev pub Lent : Header → Word → Type 0
Lent h (of_node n p) = n ≤ nodes_of h
Lent h (of_bucket b) = b < h.m

abbrev pub place_of : Turn → ℕ
place_of t = t.worker.place

-- ---- "One step is one shared access": the words that the step reads at its place, and none elsewhere
pub data Reads (t : Turn) : Word → Type 0 where
  -- "take the lowest-numbered free key node"
  i1 : place_of t ≡ I1 → (n : ℕ) → dummies_of t.header < n → n ≤ nodes_of t.header → Reads t (of_node n standing)
  -- "take the lowest free dummy node"
  b4 : place_of t ≡ B4 → (n : ℕ) → 1 ≤ n → n ≤ dummies_of t.header → Reads t (of_node n standing)
  -- "read the wanted bucket"
  tb : place_of t ≡ TB → Reads t (of_bucket t.worker.wanted)
  -- "read the parent of the bucket being made"
  b2 : place_of t ≡ B2 → Reads t (of_bucket (parent_of t.worker.making))
  -- "prev = the starting dummy; read its link"
  f1 : place_of t ≡ F1 → Reads t (of_node t.worker.start link)
  -- "read cur's link"
  f2 : place_of t ≡ F2 → Reads t (of_node t.worker.cur link)
  -- "read prev's link", and cur's split key
  f3 : place_of t ≡ F3 → Reads t (of_node t.worker.prev link)
  f3_key : place_of t ≡ F3 → Reads t (of_node t.worker.cur split_key)
  -- "compare-and-swap prev's link", "swap prev's link", "swap cur's link"
  f4 : place_of t ≡ F4 → Reads t (of_node t.worker.prev link)
  l2 : place_of t ≡ L2 → Reads t (of_node t.worker.prev link)
  d4a : place_of t ≡ D4A → Reads t (of_node t.worker.cur link)
  d4b : place_of t ≡ D4B → Reads t (of_node t.worker.prev link)

-- two pairs of tables have the same values at these words, and are both long enough for 11 or both too short
pub record Agree (P : Word → Type 0) (h : Header) (ts us : Tables) : Type 0 where
  pub same : (v : Word) → P v → value v ts ≡ value v us
  pub short : is_short h (lengths ts) ≡ is_short h (lengths us)

-- the standings of the nodes 1 to N are the same in both tables
abbrev pub SameStandings : Header → Tables → Tables → Type 0
SameStandings h ts us = (n : ℕ) → 1 ≤ n → n ≤ nodes_of h → word ts.nodes n STANDING ≡ word us.nodes n STANDING

-- both tables are long enough: 3N node words, M bucket words
pub record Long (h : Header) (ts : Tables) : Type 0 where
  pub nodes : nodes_of h * 3 ≤ length ts.nodes
  pub buckets : h.m ≤ length ts.buckets

-- a word of two runs, a and b before, c and d after: both leave it as it was, or both leave the same value
abbrev pub Alike : (a b c d : ℕ) → Type 0
Alike a b c d = ((c ≡ a) × (d ≡ b)) ⊎ (c ≡ d)

-- ---- the words that the step writes at its place, and none elsewhere; `found` is the free node that it took
pub data Writes (t : Turn) (found : ℕ) : Word → Type 0 where
  -- "take the lowest-numbered free key node, write its split key"
  i1_key : place_of t ≡ I1 → Writes t found (of_node found split_key)
  i1_taken : place_of t ≡ I1 → Writes t found (of_node found standing)
  -- "take the lowest free dummy node, write its split key"
  b4_key : place_of t ≡ B4 → Writes t found (of_node found split_key)
  b4_taken : place_of t ≡ B4 → Writes t found (of_node found standing)
  -- "Found, for a dummy: the held node is free"
  f3 : place_of t ≡ F3 → Writes t found (of_node t.worker.dummy standing)
  -- "compare-and-swap prev's link", "cur's standing becomes the busy set in this same step"
  f4_link : place_of t ≡ F4 → Writes t found (of_node t.worker.prev link)
  f4_standing : place_of t ≡ F4 → Writes t found (of_node t.worker.cur standing)
  -- "write cur in the held node's link, swap prev's link"
  l2_held : place_of t ≡ L2 → Writes t found (of_node (held_for t.worker) link)
  l2_prev : place_of t ≡ L2 → Writes t found (of_node t.worker.prev link)
  -- "store the dummy in its bucket"
  b8 : place_of t ≡ B8 → Writes t found (of_bucket t.worker.making)
  -- "swap cur's link"
  d4a : place_of t ≡ D4A → Writes t found (of_node t.worker.cur link)
  -- "swap prev's link", "done: cur's standing becomes the busy set"
  d4b_link : place_of t ≡ D4B → Writes t found (of_node t.worker.prev link)
  d4b_standing : place_of t ≡ D4B → Writes t found (of_node t.worker.cur standing)

-- "At any ended answer nodes still held are free" and "the worker's bit leaves each standing"
pub data Closes (h : Header) : Move → Word → Type 0 where
  closes : (a : Answer) (e : Effect) (n : ℕ) → 1 ≤ n → n ≤ nodes_of h → Closes h (Ended a e) (of_node n standing)

-- the decision ends the operation
abbrev pub EndsOperation : Move → Type 0
EndsOperation Damaged = ⊥
EndsOperation (Going x e) = ⊥
EndsOperation (Ended a e) = Unit {0}
