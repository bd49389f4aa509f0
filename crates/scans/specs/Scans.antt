-- The loops over the lent words, each in the loop's own order.
use Rattle.std.specs.Prelude.{ℕ, zero, suc, ◌-◌, List, leb, eqb}
use Rattle.choice.specs.Choice.{pick}
use Rattle.sets.specs.Sets.{dropped}
use Rattle.words.specs.Words.{STANDING, FREE, LARGEST_SET, word, put, store}

-- a standing once worker w is waited for no more: a set of workers loses w, and a taken node stays taken
unfoldable pub leave : ℕ → ℕ → ℕ
leave w s = pick (leb s LARGEST_SET) (dropped w s) s

-- the nodes once worker w is waited for no more at nodes 1 to n
unfoldable pub sweep : ℕ → ℕ → List ℕ → List ℕ
sweep w zero ns = ns
sweep w (suc n) ns =
    let m = sweep w n ns in
    put m (suc n) STANDING (leave w (word m (suc n) STANDING))

-- the lowest free node of the d that follow n; 0 where none is free
unfoldable pub free_from : List ℕ → ℕ → ℕ → ℕ
free_from ns n zero = 0
free_from ns n (suc d) = pick (eqb (word ns (suc n) STANDING) FREE) (suc n) (free_from ns (suc n) d)

-- the free node of those from node lo to node hi: the lowest; 0 where none is free
unfoldable pub free_node : List ℕ → ℕ → ℕ → ℕ
free_node ns lo hi = free_from ns (lo - 1) (hi - (lo - 1))

-- the words once the first count of them are 0
unfoldable pub cleared : ℕ → List ℕ → List ℕ
cleared zero ws = ws
cleared (suc k) ws = store (cleared k ws) k 0
