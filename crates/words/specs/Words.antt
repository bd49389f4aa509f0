-- The lent tables: what their words mean, what is read of them and what is stored.
-- A node is three words. Nodes are numbered from 1, and 0 means nothing: it reads 0 and a store to it does nothing.
use Rattle.std.specs.Prelude.{ℕ, zero, suc, ◌+◌, ◌*◌, ◌/◌, ◌%◌, Bool, List, eqb, length, get_or, set}
use Rattle.choice.specs.Choice.{pick}
use Rattle.words.specs.declared.Lengths.{Lengths}
use Rattle.words.specs.declared.Link.{Link}

-- ---- what is lent beside header and records
pub record Tables : Type 0 where
  pub nodes : List ℕ
  pub buckets : List ℕ

abbrev pub tables : List ℕ → List ℕ → Tables
tables ns bs = record { nodes = ns; buckets = bs }

-- how many words each table has
abbrev pub lengths : Tables → Lengths
lengths ts = record { nodes = length ts.nodes; buckets = length ts.buckets }

-- all that a call leaves: what it hands back, and the lent tables
pub record Left (A : Type 0) : Type 0 where
  pub out : A
  pub tables : Tables

abbrev pub left : {A : Type 0} → A → Tables → Left A
left o ts = record { out = o; tables = ts }

-- ---- the three words of a node
abbrev pub SPLIT_KEY : ℕ
SPLIT_KEY = 0

abbrev pub LINK : ℕ
LINK = 1

abbrev pub STANDING : ℕ
STANDING = 2

-- the standing of a free node
abbrev pub FREE : ℕ
FREE = 0

-- the standing that is written for a node that is taken
abbrev pub TAKEN : ℕ
TAKEN = 2147483648

-- the largest standing that is a set of workers waited for
abbrev pub LARGEST_SET : ℕ
LARGEST_SET = 65535

-- word j of node n; 0 past the table's end
unfoldable pub word : List ℕ → ℕ → ℕ → ℕ
word ns zero j = 0
word ns (suc n) j = get_or ns (3 * n + j) 0

-- the nodes once v is stored in word j of node n; past the table's end nothing is
unfoldable pub put : List ℕ → ℕ → ℕ → ℕ → List ℕ
put ns zero j v = ns
put ns (suc n) j v = set ns (3 * n + j) v

-- the word of bucket b; 0 past the table's end
unfoldable pub bucket : List ℕ → ℕ → ℕ
bucket bs b = get_or bs b 0

-- the buckets once v is stored in the word of bucket b; past the table's end nothing is
unfoldable pub store : List ℕ → ℕ → ℕ → List ℕ
store bs b v = set bs b v

-- a link word taken apart: the next node is half of it, and it is marked where the remainder by 2 is 1
abbrev pub link_of : ℕ → Link
link_of word = record { next = word / 2; marked = eqb (word % 2) 1 }

-- a link as one word: twice the number of the next node, and the mark
unfoldable pub link_word : ℕ → ℕ → ℕ
link_word next mark = (next * 2 + mark) % 4294967296

-- the link to node next, marked or not
unfoldable pub link_to : ℕ → Bool → ℕ
link_to next marked = link_word next (pick marked 1 0)

-- the link is unmarked and its next node is n
unfoldable pub is_to : ℕ → ℕ → Bool
is_to link n = eqb link (n * 2)
