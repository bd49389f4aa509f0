-- "Preparing sets size 2, count 0, busy 0, all node words 0 but node 1 (split key 0, link 0, taken), bucket 0 to 1, other buckets 0."
use Rattle.std.specs.Prelude.{ℕ, ◌*◌, ◌≤◌, ◌<◌, ◌≡◌, length, get_or}
use Rattle.words.specs.Words.{Tables, Left, STANDING, TAKEN, word, bucket}
use Rattle.names.specs.declared.Answer.TheVariants.{Going}
use Rattle.header.specs.declared.Header.{Header}
use Rattle.header.specs.Header.{nodes_of}
use Rattle.prepare.specs.declared.Limits.{Limits}
use Rattle.acts.specs.declared.Called.{Called}
use Rattle.prepare.specs.Prepare.{fresh_header, prepared}

-- the fresh register f over the words that were lent
pub record Fresh (l : Limits) (ts : Tables) (f : Left Called) : Type 0 where
  pub header : f.out.header ≡ fresh_header l
  pub first_taken : word f.tables.nodes 1 STANDING ≡ TAKEN
  pub node_words : (n j : ℕ) → j < 3 → n ≤ nodes_of (fresh_header l) → ((n ≡ 1) × (j ≡ STANDING) → ⊥) → word f.tables.nodes n j ≡ 0
  pub first_bucket : bucket f.tables.buckets 0 ≡ 1
  pub bucket_words : (b : ℕ) → b < l.m → (b ≡ 0 → ⊥) → bucket f.tables.buckets b ≡ 0
  -- "Words beyond these are never touched"
  pub past_nodes : (i : ℕ) → nodes_of (fresh_header l) * 3 ≤ i → get_or f.tables.nodes i 0 ≡ get_or ts.nodes i 0
  pub past_buckets : (b : ℕ) → l.m ≤ b → get_or f.tables.buckets b 0 ≡ get_or ts.buckets b 0
  pub nodes_length : length f.tables.nodes ≡ length ts.nodes
  pub buckets_length : length f.tables.buckets ≡ length ts.buckets

abbrev pub PrepareFresh : Type 0
PrepareFresh = (l : Limits) (h : Header) (ts : Tables) → (prepared l h ts).out.answer ≡ Going → Fresh l ts (prepared l h ts)
