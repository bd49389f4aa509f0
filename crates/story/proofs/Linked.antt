-- The walk along the chain is sorted, so it meets no node twice, and each law is an induction on where a node stands in it.
-- Assumes nothing.
use mathlib.Core.Path.{◌≡◌, refl, sym, ◌∙◌}
use mathlib.Core.Logic.{◌≢◌}
use mathlib.Core.List.Memᴰ.{head as here}
use mathlib.Core.List.Memᴰ.{tail as there}
use mathlib.Core.List.{List, [], ◌∷◌, Memᴰ as In}
use Prim.Native.Nat.{ℕ, suc, ◌≤◌, ◌<◌}
use native.Mathlib.Omega.{arith}
use Rattle.register.specs.Registered.{key, next_in, On, first, then}

-- the first node of a walk from a whose split keys start at k or above
pub record Cell (m : List ℕ) (k a n : ℕ) (Rest : Type 0) : Type 0 where
  pub is : a ≡ n
  pub some : 1 ≤ n
  pub low : k ≤ key m n
  pub rest : Rest

-- ns is the walk from node a by next until 0, and its split keys rise from k on
abbrev pub Walk : List ℕ → ℕ → ℕ → List ℕ → Type 0
Walk m k a [] = a ≡ 0
Walk m k a (n ∷ ns) = Cell m k a n (Walk m (suc (key m n)) (next_in m n) ns)

-- ns with h put after p, and ns without the node after p
abbrev pub put_after : {p : ℕ} {ns : List ℕ} → In p ns → ℕ → List ℕ
put_after (here {x = n} {xs = ns} e) h = n ∷ h ∷ ns
put_after (there {x = n} i) h = n ∷ put_after i h

abbrev pub tail : List ℕ → List ℕ
tail [] = []
tail (n ∷ ns) = ns

abbrev pub cut_after : {p : ℕ} {ns : List ℕ} → In p ns → List ℕ
cut_after (here {x = n} {xs = ns} e) = n ∷ tail ns
cut_after (there {x = n} i) = n ∷ cut_after i

-- the keys on a walk are at or above its bound
pub above : (m : List ℕ) {x : ℕ} (k a : ℕ) {ns : List ℕ} → In x ns → Walk m k a ns → k ≤ key m x
above m k a (here {x = n} e) w = rw e w.low
above m {x} k a (there {x = n} {xs = ns} i) w =
    let r : suc (key m n) ≤ key m x = above m (suc (key m n)) (next_in m n) i w.rest in
    omega arith

-- a node on a sorted walk is met once
pub once : (m : List ℕ) (k a n : ℕ) (ns : List ℕ) → Walk m k a (n ∷ ns) → In n ns → ⊥
once m k a n ns w i = omega (arith, above m (suc (key m n)) (next_in m n) i w.rest)

pub some_on : (m : List ℕ) {x : ℕ} (k a : ℕ) {ns : List ℕ} → In x ns → Walk m k a ns → 1 ≤ x
some_on m k a (here {x = n} e) w = rw e w.some
some_on m k a (there {x = n} i) w = some_on m (suc (key m n)) (next_in m n) i w.rest

pub root_on : (m : List ℕ) (k a : ℕ) (ns : List ℕ) → a ≢ 0 → Walk m k a ns → In a ns
root_on m k a [] ne w = absurd (ne w)
root_on m k a (n ∷ ns) ne w = here w.is

-- the bound may rise to the first key
pub raise : (m : List ℕ) (k k' a : ℕ) (ns : List ℕ) → (a ≢ 0 → k' ≤ key m a) → Walk m k a ns → Walk m k' a ns
raise m k k' a [] h w = w
raise m k k' a (n ∷ ns) h w =
    let ne : a ≢ 0 = omega (arith, w.is, w.some) in
    record { is = w.is; some = w.some; low = rw w.is at (h ne); rest = w.rest }

pub lower : (m : List ℕ) (k k' a : ℕ) (ns : List ℕ) → k' ≤ k → Walk m k a ns → Walk m k' a ns
lower m k k' a [] h w = w
lower m k k' a (n ∷ ns) h w = record { is = w.is; some = w.some; low = omega (arith, w.low); rest = w.rest }

-- frame: what is not written stays, and a mark is no part of it
pub frame : (m m' : List ℕ) (k a : ℕ) (ns : List ℕ) → ((n : ℕ) → In n ns → key m' n ≡ key m n)
    → ((n : ℕ) → In n ns → next_in m' n ≡ next_in m n) → Walk m k a ns → Walk m' k a ns
frame m m' k a [] hk hn w = w
frame m m' k a (n ∷ ns) hk hn w = record {
  is = w.is;
  some = w.some;
  low = rw (hk n (here refl)) w.low;
  rest = rw (hk n (here refl), hn n (here refl)) (frame m m' (suc (key m n)) (next_in m n) ns (λ x i. hk x (there i)) (λ x i. hn x (there i)) w.rest);
}

module _ (m m' : List ℕ) (p h : ℕ) (h1 : 1 ≤ h) where
  -- after the two stores of an insertion: the chain is ns with h put after p
  pub insert : (k a : ℕ) {ns : List ℕ} (i : In p ns) → ((n : ℕ) → In n ns → key m' n ≡ key m n)
      → ((n : ℕ) → In n ns → n ≢ p → next_in m' n ≡ next_in m n)
      → next_in m' p ≡ h → next_in m' h ≡ next_in m p → key m p < key m' h → (next_in m p ≢ 0 → key m' h < key m (next_in m p))
      → Walk m k a ns → Walk m' k a (put_after i h)
  insert k a (here {x = n} {xs = ns} e) hk hn pn hh lo hi w = record {
    is = w.is;
    some = w.some;
    low = rw (hk n (here refl)) w.low;
    rest = record {
      is = rw (← e) pn;
      some = h1;
      low = rw (hk n (here refl), ← e) lo;
      rest = rw hh (frame m m' (suc (key m' h)) (next_in m p) ns (λ x j. hk x (there j))
          (λ x j. hn x (there j) (λ q. once m k a n ns w (rw (q ∙ e) at j)))
          (raise m (suc (key m n)) (suc (key m' h)) (next_in m p) ns hi (rw e w.rest)));
    };
  }
  insert k a (there {x = n} {xs = ns} i) hk hn pn hh lo hi w = record {
    is = w.is;
    some = w.some;
    low = rw (hk n (here refl)) w.low;
    rest = rw (hk n (here refl), hn n (here refl) (λ q. once m k a n ns w (rw q i)))
        (insert (suc (key m n)) (next_in m n) i (λ x j. hk x (there j)) (λ x j. hn x (there j)) pn hh lo hi w.rest);
  }

-- after the store of an unlinking: the chain is ns without the node after p
module _ (m m' : List ℕ) (p : ℕ) where
  pub unlink : (k a : ℕ) {ns : List ℕ} (i : In p ns) → ((n : ℕ) → In n ns → key m' n ≡ key m n)
      → ((n : ℕ) → In n ns → n ≢ p → next_in m' n ≡ next_in m n)
      → next_in m p ≢ 0 → next_in m' p ≡ next_in m (next_in m p)
      → Walk m k a ns → Walk m' k a (cut_after i)
  unlink k a (here {x = n} {xs = []} e) hk hn some pn w = absurd (some (rw e w.rest))
  unlink k a (here {x = n} {xs = c ∷ ns} e) hk hn some pn w =
      let r : Cell m (suc (key m n)) (next_in m n) c (Walk m (suc (key m c)) (next_in m c) ns) = w.rest in
      record {
        is = w.is;
        some = w.some;
        low = rw (hk n (here refl)) w.low;
        rest = rw (← e, pn, e, r.is, hk n (here refl)) (frame m m' (suc (key m n)) (next_in m c) ns (λ x j. hk x (there (there j)))
            (λ x j. hn x (there (there j)) (λ q. once m k a n (c ∷ ns) w (there (rw (q ∙ e) at j))))
            (lower m (suc (key m c)) (suc (key m n)) (next_in m c) ns (omega (arith, r.low)) r.rest));
      }
  unlink k a (there {x = n} {xs = ns} i) hk hn some pn w = record {
    is = w.is;
    some = w.some;
    low = rw (hk n (here refl)) w.low;
    rest = rw (hk n (here refl), hn n (here refl) (λ q. once m k a n ns w (rw q i)))
        (unlink (suc (key m n)) (next_in m n) i (λ x j. hk x (there j)) (λ x j. hn x (there j)) some pn w.rest);
  }

-- who is on the chain after an insertion, and after an unlinking
pub put_new : {p : ℕ} {ns : List ℕ} (i : In p ns) (h : ℕ) → In h (put_after i h)
put_new (here e) h = there (here refl)
put_new (there i) h = there (put_new i h)

pub put_old : {p : ℕ} {ns : List ℕ} (i : In p ns) (h : ℕ) {x : ℕ} → In x ns → In x (put_after i h)
put_old (here e) h (here q) = here q
put_old (here e) h (there j) = there (there j)
put_old (there i) h (here q) = here q
put_old (there i) h (there j) = there (put_old i h j)

pub put_only : {p : ℕ} {ns : List ℕ} (i : In p ns) (h : ℕ) {x : ℕ} → In x (put_after i h) → x ≢ h → In x ns
put_only (here e) h (here q) ne = here q
put_only (here e) h (there (here q)) ne = absurd (ne q)
put_only (here e) h (there (there j)) ne = there j
put_only (there i) h (here q) ne = here q
put_only (there i) h (there j) ne = there (put_only i h j ne)

pub cut_self : {p : ℕ} {ns : List ℕ} (i : In p ns) → In p (cut_after i)
cut_self (here e) = here e
cut_self (there i) = there (cut_self i)

pub tail_in : (ns : List ℕ) {x : ℕ} → In x (tail ns) → In x ns
tail_in [] j = j
tail_in (n ∷ ns) j = there j

pub cut_only : {p : ℕ} {ns : List ℕ} (i : In p ns) {x : ℕ} → In x (cut_after i) → In x ns
cut_only (here e) (here q) = here q
cut_only (here {xs = ns} e) (there j) = there (tail_in ns j)
cut_only (there i) (here q) = here q
cut_only (there i) (there j) = there (cut_only i j)

module _ (m : List ℕ) (p : ℕ) where
  pub cut_old : (k a : ℕ) {ns : List ℕ} (i : In p ns) {x : ℕ} → Walk m k a ns → x ≢ next_in m p → In x ns → In x (cut_after i)
  cut_old k a (here e) w ne (here q) = here q
  cut_old k a (here {xs = []} e) w ne (there j) = there j
  cut_old k a (here {x = n} {xs = c ∷ ns} e) w ne (there (here q)) = absurd (ne (q ∙ rw (e) (sym w.rest.is)))
  cut_old k a (here {xs = c ∷ ns} e) w ne (there (there j)) = there j
  cut_old k a (there i) w ne (here q) = here q
  cut_old k a (there {x = n} i) w ne (there j) = there (cut_old (suc (key m n)) (next_in m n) i w.rest ne j)

  -- the node after one on the chain is on the chain, and its key is above
  pub succ_in : (k a : ℕ) {ns : List ℕ} (i : In p ns) → Walk m k a ns → next_in m p ≢ 0 → In (next_in m p) ns
  succ_in k a (here {xs = []} e) w ne = absurd (ne (rw e w.rest))
  succ_in k a (here {xs = c ∷ ns} e) w ne = there (here {x = c} (rw e w.rest.is))
  succ_in k a (there {x = n} i) w ne = there (succ_in (suc (key m n)) (next_in m n) i w.rest ne)

  pub cut_gone : (k a : ℕ) {ns : List ℕ} (i : In p ns) → Walk m k a ns → next_in m p ≢ 0 → In (next_in m p) (cut_after i) → ⊥
  cut_gone k a (here {xs = []} e) w ne j = ne (rw e w.rest)
  cut_gone k a (here {x = n} {xs = c ∷ ns} e) w ne (here q) = once m k a n (c ∷ ns) w (here (sym q ∙ rw e w.rest.is))
  cut_gone k a (here {x = n} {xs = c ∷ ns} e) w ne (there j) =
      let q : next_in m p ≡ c = rw e w.rest.is in
      once m (suc (key m n)) (next_in m n) c ns w.rest (rw q at j)
  cut_gone k a (there {x = n} {xs = ns} i) w ne (here q) =
      once m k a n ns w (rw q at (succ_in (suc (key m n)) (next_in m n) i w.rest ne))
  cut_gone k a (there {x = n} i) w ne (there j) = cut_gone (suc (key m n)) (next_in m n) i w.rest ne j

  -- no node has a key between that of p and that of the node after p
  pub between : (k₀ a k : ℕ) {ns : List ℕ} (i : In p ns) {x : ℕ} → In x ns → Walk m k₀ a ns → key m p < k → (next_in m p ≢ 0 → k < key m (next_in m p)) → key m x ≢ k
  between k₀ a k (here {x = n} e) {x} (here q) w lo hi z = omega (arith, rw (q ∙ sym e) at z)
  between k₀ a k (here {x = n} {xs = ns} e) {x} (there j) w lo hi z =
      omega (arith, above m (suc k) (next_in m p) j (raise m (suc (key m n)) (suc k) (next_in m p) ns hi (rw e w.rest)))
  between k₀ a k (there {x = n} i) {x} (here q) w lo hi z = omega (arith, above m (suc (key m n)) (next_in m n) i w.rest, rw q at z)
  between k₀ a k (there {x = n} i) (there j) w lo hi z = between (suc (key m n)) (next_in m n) k i j w.rest lo hi z

-- two nodes of one walk with one key are one node
pub same_key : (m : List ℕ) {x y : ℕ} (k a : ℕ) {ns : List ℕ} → In x ns → In y ns → Walk m k a ns → key m x ≡ key m y → x ≡ y
same_key m k a (here p) (here q) w e = p ∙ sym q
same_key m k a (here {x = n} p) (there j) w e = absurd (omega (arith, above m (suc (key m n)) (next_in m n) j w.rest, rw p at e))
same_key m k a (there {x = n} i) (here q) w e = absurd (omega (arith, above m (suc (key m n)) (next_in m n) i w.rest, rw q at e))
same_key m k a (there {x = n} i) (there j) w e = same_key m (suc (key m n)) (next_in m n) i j w.rest e

-- the nodes of the walk are those that are on the chain
module _ (m : List ℕ) where
  pub on_in : (c : List ℕ) → Walk m 0 1 c → {n : ℕ} → On m n → In n c
  on_in c w first = root_on m 0 1 c (λ e. omega arith) w
  on_in c w (then {n = n} o ne) = succ_in m n 0 1 (on_in c w o) w ne

  from_on : {n : ℕ} (k a : ℕ) {ns : List ℕ} → In n ns → Walk m k a ns → On m a → On m n
  from_on k a (here {x = x} e) w o = rw (e, ← w.is) o
  from_on k a (there {x = x} {xs = ns} i) w o =
      from_on (suc (key m x)) (next_in m x) i w.rest (then (rw w.is at o) (λ z. not_first (next_in m x) ns i z w.rest))
    where
      not_first : (a' : ℕ) (ms : List ℕ) {n : ℕ} → In n ms → a' ≡ 0 → Walk m (suc (key m x)) a' ms → ⊥
      not_first a' [] j z u = elim j [ ]
      not_first a' (y ∷ ms) j z u = omega (arith, u.is, u.some)

  pub in_on : (c : List ℕ) → Walk m 0 1 c → {n : ℕ} → In n c → On m n
  in_on c w i = from_on 0 1 i w first
