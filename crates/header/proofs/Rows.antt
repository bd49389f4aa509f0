-- Each row of the header is a test joined of comparisons, and a number that reaches 2 ^ W has its top set bit at W or above.
-- Assumes nothing.
use Rattle.std.proofs.Common.{◌≡◌, ℕ, zero, suc, ◌/◌, ◌^◌, ◌<◌, ◌≤◌, Bool, true, false, leb, ◌⊎◌, refl, inl, inr, one-mul, pow-suc, arith, pow_pos, pow_mono, leb-false, leb-true}
use native.Mathlib.Nat.{div-eq_of_lt-le}
use mathlib.Core.Bool.{false≢true, or_assoc}
use Rattle.choice.proofs.Exactly.{Tells}
use Rattle.choice.proofs.Telling.{tells_as, tells_eq, tells_le, tells_or, tells_and, tells_broken, Clears, clears_as, clears_lt, clears_le, clears_not, clears_or}
use Rattle.tree.specs.Tree.{power_below, power_of_two, power_up_to}
use Rattle.tree.proofs.Laws.Power.{top_bit}
use Rattle.sets.specs.Sets.{bit}
use Rattle.sets.proofs.Laws.{bit_far}
use Rattle.header.specs.Header.{nodes_of, outside, limit_broken, size_broken, busy_beyond, header_damaged}
use Rattle.header.specs.Rows.{IsPower, PowerFromTo, Limits, LimitBroken, SizeBroken, BusyBeyond, HeaderDamaged}
use Rattle.header.specs.declared.Header.{Header}

-- one of 2 ^ 0, 2 ^ 1, .., up to but without 2 ^ k
PowerBelow : ℕ → ℕ → Type 0
PowerBelow k x = (i : ℕ) × (i < k) × (x ≡ 2 ^ i)

-- the test goes through those powers from the greatest down
power_below_lem : (k x : ℕ) → Tells (power_below k x) (PowerBelow k x)
unfolding power_below PowerBelow
power_below_lem zero x = record { sound = λ e. absurd (false≢true e); complete = λ p. absurd (omega arith) }
power_below_lem (suc k) x = tells_as there back (tells_or (tells_eq x (2 ^ k)) (power_below_lem k x))
  where
    there : (x ≡ 2 ^ k) ⊎ PowerBelow k x → PowerBelow (suc k) x
    there (inl e) = (k, omega arith, e)
    there (inr p) = (p.0, omega arith, p.2)

    back : PowerBelow (suc k) x → (x ≡ 2 ^ k) ⊎ PowerBelow k x
    back p = at (leb k p.0) refl
      where
        at : (t : Bool) → leb k p.0 ≡ t → (x ≡ 2 ^ k) ⊎ PowerBelow k x
        at true e = let s : p.0 ≡ k = omega (arith, leb-true k p.0 e) in inl (rw s at p.2)
        at false e = inr (p.0, leb-false k p.0 e, p.2)

-- "a power of two"
pub is_power : (x : ℕ) → Tells (power_of_two x) (IsPower x)
unfolding power_of_two PowerBelow
is_power x = power_below_lem 32 x

-- "a power of two from 2 to M"
pub power_up_to_lem : (most x : ℕ) → Tells (power_up_to most x) (PowerFromTo 2 most x)
unfolding power_up_to
power_up_to_lem most x =
    tells_as (λ p. (p.0.0, p.0.1, p.1)) (λ p. ((p.0, p.1), p.2))
    (tells_and (tells_and (tells_le 2 x) (tells_le x most)) (is_power x))

-- the limits hold exactly where no test of them says otherwise
pub limits : (h : Header) → Clears (limit_broken h) (Limits h)
unfolding limit_broken
limits h =
    clears_as
    (λ p. record { buckets = p.0.0.0; keys = p.0.0.1; workers = p.0.1; load = p.1 })
    (λ l. (((l.buckets, l.keys), l.workers), l.load))
    (clears_or
    (clears_or
    (clears_or (clears_not (power_up_to_lem 1024 h.m)) (inside 1 4096 h.k))
    (inside 1 16 h.w))
    (inside 1 8 h.l))
  where
    inside : (low high x : ℕ) → Clears (outside low high x) ((low ≤ x) × (x ≤ high))
    inside low high x = clears_or (clears_lt x low) (clears_lt high x)

-- "a header limit is broken"
pub limit_broken_lem : (h : Header) → Tells (limit_broken h) (LimitBroken h)
limit_broken_lem h = tells_broken (limits h)

-- the size is a power of two from 2 to M exactly where its test says nothing
size_clears : (h : Header) → Clears (size_broken h) (PowerFromTo 2 h.m h.size)
unfolding size_broken
size_clears h = clears_not (power_up_to_lem h.m h.size)

-- "size isn't a power of two from 2 to M"
pub size_broken_lem : (h : Header) → Tells (size_broken h) (SizeBroken h)
size_broken_lem h = tells_broken (size_clears h)

-- a number has fewer bits than its own value
below_power : (x : ℕ) → x < 2 ^ x
below_power zero = omega arith
below_power (suc x) = omega (arith, pow-suc 2 x, below_power x)

-- a number from 2 ^ i to below 2 ^ (i + 1) has its top set bit at i
bit_top : (i x : ℕ) → 2 ^ i ≤ x → x < 2 ^ suc i → bit i x ≡ 1
unfolding bit
bit_top i x l u =
    let one : x / 2 ^ i ≡ 1 = div-eq_of_lt-le (2 ^ i) (omega (arith, one-mul (2 ^ i))) (omega (arith, pow-suc 2 i)) in
    rw one

-- a number that reaches 2 ^ w has its top set bit at w or above
busy_sound : (w x : ℕ) → 2 ^ w ≤ x → (v : ℕ) × (w ≤ v) × (bit v x ≡ 1)
busy_sound w x h =
    let top = top_bit x x (omega (arith, pow_pos w)) (below_power x) in
    (top.0, at top.0 top.3 (leb w top.0) refl, bit_top top.0 x top.2 top.3)
  where
    at : (i : ℕ) → x < 2 ^ suc i → (t : Bool) → leb w i ≡ t → w ≤ i
    at i u true e = leb-true w i e
    at i u false e = absurd (omega (arith, pow_mono {i = suc i} {j = w} (leb-false w i e)))

-- and a number below 2 ^ w has no bit there
busy_complete : (w x v : ℕ) → w ≤ v → bit v x ≡ 1 → x < 2 ^ w → ⊥
busy_complete w x v h b l = omega (arith, bit_far v x (omega (arith, pow_mono {i = w} {j = v} h)))

-- "busy has a bit at W or above"
pub busy_beyond_lem : (h : Header) → Tells (busy_beyond h) (BusyBeyond h)
unfolding busy_beyond
busy_beyond_lem h = record { sound = λ e. busy_sound h.w h.busy (leb-true (2 ^ h.w) h.busy e); complete = λ p. at p (leb (2 ^ h.w) h.busy) refl }
  where
    at : BusyBeyond h → (t : Bool) → leb (2 ^ h.w) h.busy ≡ t → leb (2 ^ h.w) h.busy ≡ true
    at p true e = e
    at p false e = absurd (busy_complete h.w h.busy p.0 p.1 p.2 (leb-false (2 ^ h.w) h.busy e))

-- 12, the header's part
pub header_damaged_lem : (h : Header) → Tells (header_damaged h) (HeaderDamaged h)
unfolding header_damaged
header_damaged_lem h = rw (or_assoc (limit_broken h) (size_broken h) (busy_beyond h)) (tells_or (limit_broken_lem h) (tells_or (size_broken_lem h) (busy_beyond_lem h)))

-- all three at once
sound_header : (h : Header) → Clears (header_damaged h) ((Limits h × PowerFromTo 2 h.m h.size) × (h.busy < 2 ^ h.w))
unfolding header_damaged busy_beyond
sound_header h = clears_or (clears_or (limits h) (size_clears h)) (clears_le (2 ^ h.w) h.busy)

-- what holds of a header that is not damaged
module _ (h : Header) (fine : header_damaged h ≡ false) where
  -- the limits are kept
  pub limits_of : Limits h
  limits_of = ((sound_header h).sound fine).0.0

-- limits that hold are small
pub limits_small : (h : Header) → Limits h → nodes_of h ≤ 5136
limits_small h l = omega (arith, l.buckets.1, l.keys.1, l.workers.1)
