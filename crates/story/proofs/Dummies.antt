-- A worker with no dummy in hand finds a dummy node free: each one that is not has a slot of its own, a bucket's or another worker's, and the worker's own slot is empty.
-- Assumes nothing.
use mathlib.Core.Path.{◌≡◌, sym, ap, ◌∙◌}
use mathlib.Core.Logic.{◌≢◌, ◌⊎◌, inl, inr, ⊎_elim}
use mathlib.Core.List.{List, Memᴰ as In}
use Prim.Native.Nat.{ℕ, suc, ◌+◌, ◌≤◌, ◌<◌}
use native.Mathlib.Omega.{arith}
use native.Mathlib.Decide.{ℕ_discrete}
use Rattle.split.specs.Split.{dummy}
use Rattle.words.specs.Words.{TAKEN}
use Rattle.scans.specs.Scans.{free_node}
use Rattle.scans.proofs.Laws.{free_none}
use Rattle.header.specs.declared.Header.{Header}
use Rattle.header.specs.Header.{dummies_of}
use Rattle.record.specs.declared.Worker.{Worker}
use Rattle.record.specs.Worker.{held_dummy}
use Rattle.register.specs.Registered.{key, standing}
use Rattle.slots.proofs.Slots.{Slots, fewer}
use Rattle.story.proofs.Linked.{same_key}
use Rattle.story.proofs.Core.{Pasts, record_of, fact_key, Holder, Core}

-- a slot for each bucket and for each worker: 1 to M, then M + 1 to M + W
module _ {h : Header} {ws : List Worker} {Ps : Pasts} {w k d : ℕ} {c m : List ℕ} {β : ℕ → ℕ} (core : Core h ws Ps w k d c m β) where
  -- node n is on the chain for bucket b, or worker v, who is not w, has it in hand
  data Slot (n : ℕ) : ℕ → Type 0 where
    bucket : (b : ℕ) → b < h.m → In n c → key m n ≡ dummy b → Slot n (suc b)
    worker : (v : ℕ) → v < h.w → v ≢ w → held_dummy (record_of ws v) ≡ n → Slot n (suc (h.m + v))

  low : {n s : ℕ} → Slot n s → 1 ≤ s
  low (bucket b r i e) = omega arith
  low (worker v r ne e) = omega arith

  high : {n s : ℕ} → Slot n s → s ≤ dummies_of h
  high (bucket b r i e) = omega arith
  high (worker v r ne e) = omega arith

  -- nobody is in the slot of worker w
  not_mine : {n s : ℕ} → Slot n s → s ≢ suc (h.m + w)
  not_mine (bucket b r i e) q = omega arith
  not_mine (worker v r ne e) q = ne (omega arith)

  -- one node in a slot
  one : {a b s t : ℕ} → Slot a s → Slot b t → s ≡ t → a ≡ b
  one (bucket b r i e) (bucket b' r' i' e') q = let z : b ≡ b' = omega arith in same_key m 0 1 i i' core.of_nodes.walk (e ∙ ap dummy z ∙ sym e')
  one (bucket b r i e) (worker v r' ne e') q = absurd (omega arith)
  one (worker v r ne e) (bucket b r' i e') q = absurd (omega arith)
  one (worker v r ne e) (worker v' r' ne' e') q = let z : v ≡ v' = omega arith in sym e ∙ ap (λ (u : ℕ). held_dummy (record_of ws u)) z ∙ e'

  slots : Slots (dummies_of h) Slot (suc (h.m + w))
  slots = record { low = low; high = high; one = one; nobody = not_mine }

  -- a dummy node that is not free has its slot
  slot : d ≡ 0 → free_node m 1 (dummies_of h) ≡ 0 → (n : ℕ) → 1 ≤ n → n ≤ dummies_of h → (s : ℕ) × Slot n s
  slot none full n lo hi = ⊎_elim waiting taken (core.of_nodes.kinds n (omega arith))
    where
      waiting : standing m n < 65536 → (s : ℕ) × Slot n s
      waiting small = by (ℕ_discrete (standing m n) 0)
        where
          by : Dec (standing m n ≡ 0) → (s : ℕ) × Slot n s
          by (yes e) = absurd (free_none m 1 (dummies_of h) full (omega arith) n lo hi e)
          by (no ne) = absurd (omega (arith, core.keyed n (omega arith) (omega (arith, ne)) small))

      held : Holder h.w ws w n → (s : ℕ) × Slot n s
      held o = ⊎_elim (λ e. absurd (omega (arith, e, (fact_key h o.who c m (Ps o.who) (record_of ws o.who) (core.fact o.who o.real o.other) (λ z. omega (arith, e))).low)))
          (λ e. (_, worker o.who o.real o.other e)) o.has

      mine : (k ≡ n) ⊎ (d ≡ n) → (s : ℕ) × Slot n s
      mine (inl e) = absurd (omega (arith, e, (core.key_held (λ z. omega arith)).low))
      mine (inr e) = absurd (omega arith)

      taken : standing m n ≡ TAKEN → (s : ℕ) × Slot n s
      taken t = ⊎_elim (λ i. let o = core.exact n i hi in (_, bucket o.bucket o.real i o.has)) (⊎_elim mine held) (core.whole n (omega arith) t)

  -- as many nodes as slots, and one slot stands empty
  pub some_free : w < h.w → d ≡ 0 → free_node m 1 (dummies_of h) ≢ 0
  some_free lt none full = omega (arith, fewer slots (dummies_of h) (slot none full) (omega arith) (omega arith))
