-- The header: a fresh one, one that is changed, how many nodes there are, its faults row by row, and the load test.
use Rattle.std.specs.Prelude.{ℕ, ◌+◌, ◌*◌, ◌/◌, ◌%◌, ◌^◌, Bool, not, ◌&&◌, ◌||◌, nat_le, nat_lt}
use Rattle.tree.specs.Tree.{power_up_to}
use Rattle.choice.specs.Choice.{pick}
use Rattle.sets.specs.Sets.{raised, dropped}
use Rattle.words.specs.declared.Lengths.{Lengths}
use Rattle.names.specs.declared.Answer.{Answer}
use Rattle.names.specs.declared.Answer.TheVariants.{Short, Damaged, NoWorker}
use Rattle.header.specs.declared.Header.{Header}

-- size 2, count 0, nobody busy
abbrev pub fresh : ℕ → ℕ → ℕ → ℕ → Header
fresh m k w l = record { m = m; k = k; w = w; l = l; size = 2; count = 0; busy = 0 }

-- the header with another size, count or set of busy workers; antt has no update of a record
abbrev pub sized : ℕ → Header → Header
sized v h = record { m = h.m; k = h.k; w = h.w; l = h.l; size = v; count = h.count; busy = h.busy }

abbrev pub counted : ℕ → Header → Header
counted v h = record { m = h.m; k = h.k; w = h.w; l = h.l; size = h.size; count = v; busy = h.busy }

abbrev pub busied : ℕ → Header → Header
busied v h = record { m = h.m; k = h.k; w = h.w; l = h.l; size = h.size; count = h.count; busy = v }

-- the count is a 32-bit word that passes below zero on purpose
abbrev pub count_up : ℕ → ℕ
count_up count = (count + 1) % 4294967296

abbrev pub count_down : ℕ → ℕ
count_down count = (count + 4294967295) % 4294967296

-- one key more is counted, one key less
abbrev pub counted_up : Header → Header
counted_up h = counted (count_up h.count) h

abbrev pub counted_down : Header → Header
counted_down h = counted (count_down h.count) h

-- worker w is busy, and no more
abbrev pub busy_with : ℕ → Header → Header
busy_with w h = busied (raised w h.busy) h

abbrev pub busy_without : ℕ → Header → Header
busy_without w h = busied (dropped w h.busy) h

-- N = M + W + K: dummies are nodes 1 to M + W, keys the next K
abbrev pub dummies_of : Header → ℕ
dummies_of h = h.m + h.w

abbrev pub nodes_of : Header → ℕ
nodes_of h = h.m + h.w + h.k

abbrev pub outside : ℕ → ℕ → ℕ → Bool
outside low high x = nat_lt x low || nat_lt high x

-- ---- "a header limit is broken": M a power of two, 2 to 1,024; K, 1 to 4,096; W, 1 to 16; L, 1 to 8
unfoldable pub limit_broken : Header → Bool
limit_broken h = not (power_up_to 1024 h.m) || outside 1 4096 h.k || outside 1 16 h.w || outside 1 8 h.l

-- "size isn't a power of two from 2 to M"
unfoldable pub size_broken : Header → Bool
size_broken h = not (power_up_to h.m h.size)

-- "busy has a bit at W or above"
unfoldable pub busy_beyond : Header → Bool
busy_beyond h = nat_le (2 ^ h.w) h.busy

unfoldable pub header_damaged : Header → Bool
header_damaged h = limit_broken h || size_broken h || busy_beyond h

-- 11: fewer than 3N node words or M bucket words
unfoldable pub is_short : Header → Lengths → Bool
is_short h lengths = nat_lt lengths.nodes (nodes_of h * 3) || nat_lt lengths.buckets h.m

-- a worker or its record that there is not: 12, then 11 where there are too few records or words, then 13
unfoldable pub missing : Header → Bool → Lengths → Answer
missing h few lengths = pick (header_damaged h) Damaged (pick (few || is_short h lengths) Short NoWorker)

-- I9's load test: old is not negative, old / size (rounded down) is above L, and the size read is below M
unfoldable pub doubles : Header → ℕ → ℕ → Bool
doubles h size old = nat_lt old 2147483648 && nat_lt h.l (old / size) && nat_lt size h.m
