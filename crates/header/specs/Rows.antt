-- The header's rows of 12, as the scope paper says them.
use Rattle.std.specs.Prelude.{◌≡◌, ℕ, ◌^◌, ◌<◌, ◌≤◌, ◌⊎◌}
use Rattle.sets.specs.Sets.{bit}
use Rattle.header.specs.declared.Header.{Header}

-- "a power of two": 2 ^ i, with i below 32, since a register's words have 32 bits
abbrev pub IsPower : ℕ → Type 0
IsPower x = (i : ℕ) × (i < 32) × (x ≡ 2 ^ i)

-- "a power of two from 2 to M"
abbrev pub PowerFromTo : ℕ → ℕ → ℕ → Type 0
PowerFromTo low high x = (low ≤ x) × (x ≤ high) × IsPower x

-- the limits: "M a power of two, 2 to 1,024; K 1 to 4,096; W 1 to 16; L 1 to 8"
pub record Limits (h : Header) : Type 0 where
  pub buckets : PowerFromTo 2 1024 h.m
  pub keys : (1 ≤ h.k) × (h.k ≤ 4096)
  pub workers : (1 ≤ h.w) × (h.w ≤ 16)
  pub load : (1 ≤ h.l) × (h.l ≤ 8)

-- "a header limit is broken"
abbrev pub LimitBroken : Header → Type 0
LimitBroken h = Limits h → ⊥

-- "size isn't a power of two from 2 to M"
abbrev pub SizeBroken : Header → Type 0
SizeBroken h = PowerFromTo 2 h.m h.size → ⊥

-- "busy has a bit at W or above"
abbrev pub BusyBeyond : Header → Type 0
BusyBeyond h = (v : ℕ) × (h.w ≤ v) × (bit v h.busy ≡ 1)

-- "12 is given exactly when", the header's part: one of the three
abbrev pub HeaderDamaged : Header → Type 0
HeaderDamaged h = LimitBroken h ⊎ SizeBroken h ⊎ BusyBeyond h
