-- A store changes the word that it names and no other, so what a loop of stores changes is read off one turn at a time.
-- Assumes nothing.
use mathlib.Core.Path.{◌≡◌, refl, ap}
use mathlib.Core.Logic.{◌≢◌}
use mathlib.Core.Bool.{true, false}
use mathlib.Core.List.{List}
use Prim.Native.Nat.{ℕ, zero, suc, ◌+◌, ◌-◌, ◌*◌, ◌≤◌, ◌<◌}
use native.Mathlib.Nat.{mod-eq_of_lt}
use native.Mathlib.Omega.{arith}
use borrow.Author.Tests.{eqb-true, eqb-false}
use lib.ListN.{length, get_or, set, length-set}
use lib.Seq.{get_or-set_same, get_or-set_other}
use Rattle.choice.proofs.Auto.{pick_true, pick_false}
use Rattle.words.specs.Words.{word, put, bucket, store, link_word, link_to, is_to}

-- a word of node n, counted from its first
pub word_at : (ns : List ℕ) (n j : ℕ) → 1 ≤ n → word ns n j ≡ get_or ns (3 * (n - 1) + j) 0
unfolding word
word_at ns zero j h = absurd (omega arith)
word_at ns (suc n) j h = ap (λ (i : ℕ). get_or ns (3 * i + j) 0) (omega arith)

pub put_at : (ns : List ℕ) (n j v : ℕ) → 1 ≤ n → put ns n j v ≡ set ns (3 * (n - 1) + j) v
unfolding put
put_at ns zero j v h = absurd (omega arith)
put_at ns (suc n) j v h = ap (λ (i : ℕ). set ns (3 * i + j) v) (omega arith)

-- node 0 means nothing
pub nothing : (ns : List ℕ) (j : ℕ) → word ns 0 j ≡ 0
unfolding word
nothing ns j = refl

pub put_nothing : (ns : List ℕ) (j v : ℕ) → put ns 0 j v ≡ ns
unfolding put
put_nothing ns j v = refl

-- after a store to word j of node n: the length, that word, each other node, each other word
pub put_length : (ns : List ℕ) (n j v : ℕ) → length (put ns n j v) ≡ length ns
unfolding put
put_length ns zero j v = refl
put_length ns (suc n) j v = length-set ns (3 * n + j) v

pub put_same : (ns : List ℕ) (n j v : ℕ) → j < 3 → 1 ≤ n → 3 * n ≤ length ns → word (put ns n j v) n j ≡ v
unfolding put word
put_same ns zero j v hj h1 hn = absurd (omega arith)
put_same ns (suc n) j v hj h1 hn = get_or-set_same ns (3 * n + j) v 0 (omega arith)

pub put_node : (ns : List ℕ) (n j v i k : ℕ) → j < 3 → k < 3 → i ≢ n → word (put ns n j v) i k ≡ word ns i k
unfolding put word
put_node ns zero j v i k hj hk ne = refl
put_node ns (suc n) j v zero k hj hk ne = refl
put_node ns (suc n) j v (suc i) k hj hk ne = get_or-set_other ns (3 * n + j) (3 * i + k) v 0 (omega arith)

pub put_word : (ns : List ℕ) (n j v i k : ℕ) → j < 3 → k < 3 → k ≢ j → word (put ns n j v) i k ≡ word ns i k
unfolding put word
put_word ns zero j v i k hj hk ne = refl
put_word ns (suc n) j v zero k hj hk ne = refl
put_word ns (suc n) j v (suc i) k hj hk ne = get_or-set_other ns (3 * n + j) (3 * i + k) v 0 (omega arith)

-- after a store to the word of bucket b: the length, that word, each other word
pub store_length : (bs : List ℕ) (b v : ℕ) → length (store bs b v) ≡ length bs
unfolding store
store_length bs b v = length-set bs b v

pub store_same : (bs : List ℕ) (b v : ℕ) → b < length bs → bucket (store bs b v) b ≡ v
unfolding store bucket
store_same bs b v h = get_or-set_same bs b v 0 h

pub store_other : (bs : List ℕ) (b v c : ℕ) → c ≢ b → bucket (store bs b v) c ≡ bucket bs c
unfolding store bucket
store_other bs b v c ne = get_or-set_other bs b c v 0 ne

-- a link to a node whose number leaves room for the mark is that number and that mark
pub link_exact : (next mark : ℕ) → next < 2147483648 → mark < 2 → link_word next mark ≡ next * 2 + mark
unfolding link_word
link_exact next mark hn hm = mod-eq_of_lt (omega arith)

pub link_to_unmarked : (next : ℕ) → next < 2147483648 → link_to next false ≡ next * 2
unfolding link_to
link_to_unmarked next h = rw (pick_false {A = ℕ} false 1 0 refl, link_exact next 0 h (omega arith)) (omega arith)

pub link_to_marked : (next : ℕ) → next < 2147483648 → link_to next true ≡ next * 2 + 1
unfolding link_to
link_to_marked next h = rw (pick_true {A = ℕ} true 1 0 refl) (link_exact next 1 h (omega arith))

pub is_to_true : (link n : ℕ) → is_to link n ≡ true → link ≡ n * 2
unfolding is_to
is_to_true link n e = eqb-true link (n * 2) e

pub is_to_false : (link n : ℕ) → is_to link n ≡ false → link ≢ n * 2
unfolding is_to
is_to_false link n e = eqb-false link (n * 2) e
