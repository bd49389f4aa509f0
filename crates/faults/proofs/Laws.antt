-- The rows in the order in which the code asks them. Rows that speak of other places than the record's are false, and an idle record that is all 0 has none of those that the code leaves out.
-- Assumes nothing.
use Prim.Native.Nat.{ℕ, ◌≤◌, ◌<◌}
use native.Mathlib.Omega.{arith}
use mathlib.Core.Path.{◌≡◌, refl, sym, ap, ◌∙◌}
use mathlib.Core.Bool.{Bool, true, false, true≢false, false≢true, ◌||◌, or-true, or-false, and-false}
use lib.Dec.{leb}
use borrow.Author.Tests.{ne_eqb, le-leb, lt-leb, le-ltb}
use Rattle.names.specs.Names.{IDLE, F1, L2, I9, I10}
use Rattle.names.specs.Places.{searching, bucket_in_making, insert_only, delete_only, size_remembered, searches, remembers_size}
use Rattle.names.proofs.Places.{apart, searches_within, size_within}
use Rattle.header.specs.Header.{nodes_of}
use Rattle.header.specs.declared.Header.{Header}
use Rattle.record.specs.declared.Worker.{Worker}
use Rattle.choice.specs.Choice.{within}
use Rattle.record.specs.Worker.{idle}
use Rattle.faults.specs.Faults.{unknown_name, key_above, bucket_beyond, node_beyond, bit_disagrees, idle_not_zero, kind_misfit, errand_misfit, making_astray, size_misfit, misfits, worker_damaged}
use Rattle.faults.proofs.Idle.{is_idle}

-- a place before or after those from low to high
before : (low high p : ℕ) → p < low → within low high p ≡ false
before low high p l = rw (lt-leb low p l)

after : (low high p : ℕ) → high < p → within low high p ≡ false
after low high p l = rw (lt-leb p high l, and-false (leb low p))

-- the rows of a place that the record does not stand at
no_errand : (x : Worker) → searches x.place ≡ false → errand_misfit x ≡ false
unfolding errand_misfit
no_errand x n = rw (ne_eqb x.place L2 (λ e. true≢false (ap searches (sym e) ∙ n)), n)

no_size : (h : Header) (x : Worker) → remembers_size x.place ≡ false → size_misfit h x ≡ false
unfolding size_misfit
no_size h x n = rw n

no_kind : (x : Worker) → searches x.place ≡ true → kind_misfit x ≡ false
unfolding kind_misfit
no_kind x s = rw (apart searching insert_only refl x.place s, apart searching delete_only refl x.place s)

no_making : (x : Worker) → searches x.place ≡ true → making_astray x ≡ false
unfolding making_astray
no_making x s = rw (apart searching bucket_in_making refl x.place s)

-- before a search's places, at one of them, and after
pub misfits_before : (h : Header) (x : Worker) → x.place < F1 → misfits h x ≡ (kind_misfit x || making_astray x)
misfits_before h x l =
    let p = x.place in
    rw (no_errand x (searches_within p ∙ before F1 L2 p l), no_size h x (size_within p ∙ before I9 I10 p (omega arith)), or-false (kind_misfit x), or-false (kind_misfit x || making_astray x))

pub misfits_within : (h : Header) (x : Worker) → F1 ≤ x.place → x.place ≤ L2 → misfits h x ≡ errand_misfit x
misfits_within h x l u =
    let s : searches x.place ≡ true = searches_within x.place ∙ rw (le-leb F1 x.place l) (le-leb x.place L2 u) in
    rw (no_kind x s, no_making x s, no_size h x (apart searching size_remembered refl x.place s), or-false (errand_misfit x), or-false (errand_misfit x))

pub misfits_after : (h : Header) (x : Worker) → L2 < x.place → misfits h x ≡ (kind_misfit x || making_astray x || size_misfit h x)
misfits_after h x l = rw (no_errand x (searches_within x.place ∙ after F1 L2 x.place l), or-false (kind_misfit x))

-- ---- all ten rows, in the definition's order: name, key, bucket, node, bit, idle, and the four of the place
abbrev rows : Bool → Bool → Bool → Bool → Bool → Bool → Bool → Bool
rows name key bucket node bit idle misfit = name || key || bucket || node || bit || idle || misfit

-- bit or bucket alone
first : (a b c d e f g : Bool) → (e || c) ≡ true → rows a b c d e f g ≡ true
first a b true d e f g t = rw (or-true (a || b))
first a b false d true f g t = rw (or-true (a || b || false || d))
first a b false d false f g t = absurd (false≢true t)

-- neither, and the record is not idle
busy : (a b d g : Bool) → rows a b false d false false g ≡ (a || b || d || g)
busy true b d g = refl
busy false true d g = refl
busy false false true g = refl
busy false false false g = refl

-- an idle record: its own row, since the others that are left are false where that one is
idle_rows : (a b d f g : Bool) → (f ≡ false → rows a b false d false false g ≡ false) → rows a b false d false f g ≡ f
idle_rows a b d true g e = rw (or-true (a || b || false || d || false))
idle_rows a b d false g e = e refl

no_rows : (h : Header) → rows (unknown_name idle) (key_above 0) false (node_beyond (nodes_of h) idle) false false (misfits h idle) ≡ false
unfolding unknown_name node_beyond kind_misfit errand_misfit making_astray size_misfit
no_rows h = rw (le-ltb (nodes_of h) 0 (omega arith))

-- ---- what the code asks, in its order
pub damaged_first : (h : Header) (w : ℕ) (x : Worker) → (bit_disagrees h w x || bucket_beyond h x) ≡ true → worker_damaged h w x ≡ true
unfolding worker_damaged
damaged_first h w x t = first (unknown_name x) (key_above x.key) (bucket_beyond h x) (node_beyond (nodes_of h) x) (bit_disagrees h w x) (idle_not_zero x) (misfits h x) t

neither : (e c : Bool) → (e || c) ≡ false → (e ≡ false) × (c ≡ false)
neither true c t = absurd (true≢false t)
neither false c t = (refl, t)

pub damaged_idle : (h : Header) (w : ℕ) (x : Worker) → (bit_disagrees h w x || bucket_beyond h x) ≡ false → x.place ≡ IDLE → worker_damaged h w x ≡ idle_not_zero x
unfolding worker_damaged
damaged_idle h w x t p =
    let n = neither (bit_disagrees h w x) (bucket_beyond h x) t in
    rw (n.0, n.1)
    (idle_rows (unknown_name x) (key_above x.key) (node_beyond (nodes_of h) x) (idle_not_zero x) (misfits h x)
    (λ e. ap (λ (y : Worker). rows (unknown_name y) (key_above y.key) false (node_beyond (nodes_of h) y) false false (misfits h y)) (is_idle x p e) ∙ no_rows h))

pub damaged_busy : (h : Header) (w : ℕ) (x : Worker) → (bit_disagrees h w x || bucket_beyond h x) ≡ false → (x.place ≡ IDLE → ⊥)
    → worker_damaged h w x ≡ (unknown_name x || key_above x.key || node_beyond (nodes_of h) x || misfits h x)
unfolding worker_damaged idle_not_zero
damaged_busy h w x t p =
    let n = neither (bit_disagrees h w x) (bucket_beyond h x) t in
    rw (n.0, n.1, ne_eqb x.place IDLE p)
    (busy (unknown_name x) (key_above x.key) (node_beyond (nodes_of h) x) (misfits h x))
