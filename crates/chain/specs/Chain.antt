-- The registered keys, counted off the chain in the walk's own order.
use Rattle.std.specs.Prelude.{ℕ, zero, suc, ◌+◌, ◌/◌, ◌%◌, Bool, ◌&&◌, List, eqb}
use Rattle.choice.specs.Choice.{pick}
use Rattle.words.specs.Words.{SPLIT_KEY, LINK, word}

-- the node is unmarked and has a regular split key, which is odd: its key is registered
unfoldable pub is_key : List ℕ → ℕ → Bool
is_key ns n = eqb (word ns n LINK % 2) 0 && eqb (word ns n SPLIT_KEY % 2) 1

-- how many keys are registered on the chain from node n, followed for at most so many nodes
unfoldable pub keys_from : List ℕ → ℕ → ℕ → ℕ
keys_from ns zero n = 0
keys_from ns (suc most) n = pick (eqb n 0) 0 (pick (is_key ns n) 1 0 + keys_from ns most (word ns n LINK / 2))
