-- A loop is taken apart turn by turn: what one more turn does is one store, and a law of the words says what that leaves.
-- Assumes nothing.
use mathlib.Core.Path.{◌≡◌, refl, sym, ap, ◌∙◌}
use mathlib.Core.Logic.{◌≢◌, ⊎_elim}
use mathlib.Core.List.{List, [], ◌∷◌}
use Prim.Native.Nat.{ℕ, zero, suc, ◌+◌, ◌-◌, ◌*◌, ◌/◌, ◌≤◌, ◌<◌, min}
use native.Mathlib.Nat.{add-zero, add-suc}
use native.Mathlib.Numerals.{add-one}
use native.Mathlib.Decide.{ℕ_discrete}
use native.Mathlib.Omega.{arith}
use borrow.Author.Tests.{le-leb, lt-leb}
use lib.Dec.{leb}
use lib.ListN.{length, get_or, set}
use lib.Seq.{get_or-set_other, set-get_or, set_out}
use Rattle.std.proofs.lemmas.Bool.{cases_lt}
use Rattle.choice.proofs.Auto.{pick_true, pick_false}
use Rattle.choice.proofs.Cases.{both}
use Rattle.sets.specs.Sets.{dropped}
use Rattle.sets.proofs.Laws.{dropped_zero, dropped_le}
use Rattle.words.specs.Words.{STANDING, LARGEST_SET, word, put, store}
use Rattle.words.proofs.Laws.{put_length, put_same, put_node, store_length}
use Rattle.scans.specs.Scans.{leave, sweep, free_node, cleared}
use Rattle.scans.proofs.Free.{found_after, none_after, same_after}

-- a standing that is a set loses the worker, and any other stays
pub leave_set : (w s : ℕ) → s ≤ LARGEST_SET → leave w s ≡ dropped w s
unfolding leave
leave_set w s h = pick_true (leb s LARGEST_SET) (dropped w s) s (le-leb s LARGEST_SET h)

pub leave_taken : (w s : ℕ) → LARGEST_SET < s → leave w s ≡ s
unfolding leave
leave_taken w s h = pick_false (leb s LARGEST_SET) (dropped w s) s (lt-leb s LARGEST_SET h)

pub leave_zero : (w : ℕ) → leave w 0 ≡ 0
leave_zero w = leave_set w 0 (omega arith) ∙ dropped_zero w

pub leave_stays : (w s : ℕ) → (1 ≤ s → s ≤ LARGEST_SET → ⊥) → leave w s ≡ s
leave_stays w zero other = leave_zero w
leave_stays w (suc s) other = leave_taken w (suc s) (omega (arith, other))

pub leave_le : (w s : ℕ) → leave w s ≤ s
unfolding leave
leave_le w s = both (λ (x : ℕ). x ≤ s) (leb s LARGEST_SET) (dropped_le w s) (omega arith)

-- the turns of the sweep
pub sweep_none : (w : ℕ) (ns : List ℕ) → sweep w 0 ns ≡ ns
unfolding sweep
sweep_none w ns = refl

-- one turn: a set that is not empty loses the worker, and any other standing stays
module _ (w i : ℕ) (ns : List ℕ) where
  abbrev read : ℕ
  read = get_or (sweep w i ns) (3 * i + 2) 0

  turn : (s : ℕ) → leave w read ≡ s → sweep w (i + 1) ns ≡ set (sweep w i ns) (3 * i + 2) s
  unfolding sweep put word
  turn s e = rw (add-one i) (ap (set (sweep w i ns) (3 * i + 2)) e)

  pub sweep_drops : 1 ≤ read → read ≤ LARGEST_SET → sweep w (i + 1) ns ≡ set (sweep w i ns) (3 * i + 2) (dropped w read)
  sweep_drops a b = turn (dropped w read) (leave_set w read b)

  pub sweep_stays : (1 ≤ read → read ≤ LARGEST_SET → ⊥) → sweep w (i + 1) ns ≡ sweep w i ns
  sweep_stays other = turn read (leave_stays w read other) ∙ set-get_or (sweep w i ns) (3 * i + 2) 0

pub sweep_length : (w n : ℕ) (ns : List ℕ) → length (sweep w n ns) ≡ length ns
unfolding sweep
sweep_length w zero ns = refl
sweep_length w (suc n) ns = put_length (sweep w n ns) (suc n) STANDING (leave w (word (sweep w n ns) (suc n) STANDING)) ∙ sweep_length w n ns

-- nodes past the table change nothing
sweep_out : (w n : ℕ) (ns : List ℕ) → length ns / 3 ≤ n → sweep w (suc n) ns ≡ sweep w n ns
unfolding sweep put
sweep_out w n ns h = set_out (sweep w n ns) (3 * n + 2) _ (omega (arith, sweep_length w n ns))

sweep_stop : (w n d : ℕ) (ns : List ℕ) → length ns / 3 ≤ n → sweep w (n + d) ns ≡ sweep w n ns
sweep_stop w n zero ns h = rw (add-zero n)
sweep_stop w n (suc d) ns h = rw (add-suc n d) (sweep_out w (n + d) ns (omega arith) ∙ sweep_stop w n d ns h)

pub sweep_lent : (w n : ℕ) (ns : List ℕ) → sweep w n ns ≡ sweep w (min n (length ns / 3)) ns
sweep_lent w n ns =
    let m = min n (length ns / 3) in
    let e : m + (n - m) ≡ n = omega arith in
    ⊎_elim
    (λ h. let f : m ≡ n = omega (arith, h) in rw f refl)
    (λ h. ap (λ (k : ℕ). sweep w k ns) (sym e) ∙ sweep_stop w m (n - m) ns (omega (arith, h)))
    (cases_lt n (length ns / 3))

pub ruleset sweeping = (sweep_none, sweep_drops, sweep_stays, sweep_lent)

-- a word that is no standing of the nodes 1 to n stays
pub sweep_index : (w n : ℕ) (ns : List ℕ) (k : ℕ) → ((i : ℕ) → i < n → k ≢ 3 * i + 2) → get_or (sweep w n ns) k 0 ≡ get_or ns k 0
unfolding sweep put
sweep_index w zero ns k ne = refl
sweep_index w (suc n) ns k ne =
    get_or-set_other (sweep w n ns) (3 * n + 2) k (leave w (word (sweep w n ns) (suc n) STANDING)) 0 (ne n (omega arith)) ∙
    sweep_index w n ns k (λ i h. ne i (omega arith))

pub sweep_past : (w n : ℕ) (ns : List ℕ) (k : ℕ) → 3 * n ≤ k → get_or (sweep w n ns) k 0 ≡ get_or ns k 0
sweep_past w n ns k h = sweep_index w n ns k (λ i hi e. omega arith)

pub sweep_word : (w n : ℕ) (ns : List ℕ) (i k : ℕ) → k < 3 → k ≢ STANDING → word (sweep w n ns) i k ≡ word ns i k
unfolding word
sweep_word w n ns zero k hk ne = refl
sweep_word w n ns (suc i) k hk ne = sweep_index w n ns (3 * i + k) (λ m hm e. omega arith)

pub sweep_beyond : (w n : ℕ) (ns : List ℕ) (i : ℕ) → n < i → word (sweep w n ns) i STANDING ≡ word ns i STANDING
unfolding word
sweep_beyond w n ns zero h = refl
sweep_beyond w n ns (suc i) h = sweep_past w n ns (3 * i + 2) (omega arith)

-- the standing of each node 1 to n loses the worker
pub sweep_standing : (w n : ℕ) (ns : List ℕ) (i : ℕ) → 1 ≤ i → i ≤ n → 3 * n ≤ length ns → word (sweep w n ns) i STANDING ≡ leave w (word ns i STANDING)
unfolding sweep
sweep_standing w zero ns i h1 hi hn = absurd (omega arith)
sweep_standing w (suc n) ns i h1 hi hn = by_node (ℕ_discrete i (suc n)) (λ h. sweep_standing w n ns i h1 h (omega arith))
  where
    m : List ℕ
    m = sweep w n ns

    v : ℕ
    v = leave w (word m (suc n) STANDING)

    by_node : Dec (i ≡ suc n) → (i ≤ n → word m i STANDING ≡ leave w (word ns i STANDING)) → word (put m (suc n) STANDING v) i STANDING ≡ leave w (word ns i STANDING)
    by_node (yes e) below =
        rw (e, put_same m (suc n) STANDING v (omega arith) (omega arith) (omega (arith, sweep_length w n ns)))
        (ap (leave w) (sweep_beyond w n ns (suc n) (omega arith)))
    by_node (no ne) below =
        put_node m (suc n) STANDING v i STANDING (omega arith) (omega arith) ne ∙ below (omega arith)

-- ---- a free node: whoever looks for one knows these laws alone
module _ (ns : List ℕ) (lo hi : ℕ) where
  -- the node that is found is one of those asked for, and it is free
  pub free_node_lem : (n : ℕ) → free_node ns lo hi ≡ n → n ≢ 0 → 1 ≤ lo → (lo ≤ n) × (n ≤ hi) × (word ns n STANDING ≡ 0)
  unfolding free_node
  free_node_lem n e ne one = let f = found_after ns (lo - 1) (hi - (lo - 1)) n e ne in (omega (arith, f.low), omega (arith, f.low, f.high), f.free)

  -- 0 says that none is free
  pub free_none : free_node ns lo hi ≡ 0 → 1 ≤ lo → (n : ℕ) → lo ≤ n → n ≤ hi → word ns n STANDING ≢ 0
  unfolding free_node
  free_none e one n a b = none_after ns (lo - 1) (hi - (lo - 1)) e n (omega arith) (omega arith)

  -- the standings of those asked for decide it
  pub free_reads : (ks : List ℕ) → ((n : ℕ) → lo ≤ n → n ≤ hi → word ns n STANDING ≡ word ks n STANDING) → free_node ns lo hi ≡ free_node ks lo hi
  unfolding free_node
  free_reads ks agree = same_after ns ks (lo - 1) (hi - (lo - 1)) (λ n a b. agree n (omega arith) (omega arith))

  -- "the lowest-numbered free": no free node of those asked for is below it
  pub free_lowest : (n : ℕ) → free_node ns lo hi ≡ n → n ≢ 0 → 1 ≤ lo → (m : ℕ) → lo ≤ m → m < n → word ns m STANDING ≢ 0
  unfolding free_node
  free_lowest n e ne one m a b = (found_after ns (lo - 1) (hi - (lo - 1)) n e ne).least m (omega arith) b

-- the clearing
pub cleared_none : (ws : List ℕ) → cleared 0 ws ≡ ws
unfolding cleared
cleared_none ws = refl

pub cleared_length : (count : ℕ) (ws : List ℕ) → length (cleared count ws) ≡ length ws
unfolding cleared
cleared_length zero ws = refl
cleared_length (suc k) ws = store_length (cleared k ws) k 0 ∙ cleared_length k ws

-- a word that is set to 0 reads 0, in the table and past its end
pub zero_at : (ws : List ℕ) (k : ℕ) → get_or (set ws k 0) k 0 ≡ 0
zero_at [] k = refl
zero_at (x ∷ ws) zero = refl
zero_at (x ∷ ws) (suc k) = zero_at ws k

pub cleared_below : (count : ℕ) (ws : List ℕ) (k : ℕ) → k < count → get_or (cleared count ws) k 0 ≡ 0
unfolding cleared store
cleared_below zero ws k h = absurd (omega arith)
cleared_below (suc c) ws k h = by_word (ℕ_discrete k c) (cleared_below c ws k)
  where
    by_word : Dec (k ≡ c) → (k < c → get_or (cleared c ws) k 0 ≡ 0) → get_or (set (cleared c ws) c 0) k 0 ≡ 0
    by_word (yes e) below = rw e (zero_at (cleared c ws) c)
    by_word (no ne) below = get_or-set_other (cleared c ws) c k 0 0 ne ∙ below (omega arith)

pub cleared_beyond : (count : ℕ) (ws : List ℕ) (k : ℕ) → count ≤ k → get_or (cleared count ws) k 0 ≡ get_or ws k 0
unfolding cleared store
cleared_beyond zero ws k h = refl
cleared_beyond (suc c) ws k h = get_or-set_other (cleared c ws) c k 0 0 (omega arith) ∙ cleared_beyond c ws k (omega arith)
