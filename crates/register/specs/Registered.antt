-- The chain from node 1, read off the node words, and the keys that are registered on it.
use Rattle.std.specs.Prelude.{ℕ, ◌/◌, ◌%◌, List, ◌≡◌}
use Rattle.split.specs.Split.{regular}
use Rattle.words.specs.Words.{SPLIT_KEY, LINK, STANDING, word}

-- a node's three words
abbrev pub key : List ℕ → ℕ → ℕ
key ns n = word ns n SPLIT_KEY

abbrev pub link : List ℕ → ℕ → ℕ
link ns n = word ns n LINK

abbrev pub standing : List ℕ → ℕ → ℕ
standing ns n = word ns n STANDING

-- a link is twice the number of the next node, and the mark
abbrev pub next_in : List ℕ → ℕ → ℕ
next_in ns n = link ns n / 2

abbrev pub mark : List ℕ → ℕ → ℕ
mark ns n = link ns n % 2

-- "on the chain from node 1"
pub data On (ns : List ℕ) : ℕ → Type 0 where
  first : On ns 1
  then : {n : ℕ} → On ns n → (next_in ns n ≡ 0 → ⊥) → On ns (next_in ns n)

-- "A key is registered if an unmarked node with its regular split key is on the chain from node 1"
pub record Registered (ns : List ℕ) (k : ℕ) : Type 0 where
  pub node : ℕ
  pub on : On ns node
  pub live : mark ns node ≡ 0
  pub has : key ns node ≡ regular k
