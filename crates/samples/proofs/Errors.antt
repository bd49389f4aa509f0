-- Each error's run is closed, so the definitions compute it: its events do not balance, or a node's words say where it is not.
-- Assumes nothing.
use Prim.Native.Nat.{ℕ, zero, suc, ◌+◌}
use mathlib.Core.List.{List}
use mathlib.Core.Logic.{◌⊎◌, inl, inr, ⊎_elim}
use mathlib.Core.Path.{◌≡◌, refl, sym, ap, ◌∙◌}
use native.Mathlib.Omega.{arith}
use Rattle.register.specs.Registered.{key, next_in, On, first, then, Registered}
use Rattle.promises.specs.Wrong.{frees_at_once, stores_early}
use Rattle.story.specs.Run.{State, shared}
use Rattle.story.specs.Story.{Where, free, chained, held, waiting, At}
use Rattle.samples.specs.Played.{run_of, state_by}
use Rattle.samples.specs.Errors.{tiny, early, Errors}
use Rattle.samples.proofs.Computing.{computed}

-- a chain of two nodes
on_two : (ns : List ℕ) (a : ℕ) → next_in ns 1 ≡ a → next_in ns a ≡ 0 → {n : ℕ} → On ns n → (n ≡ 1) ⊎ (n ≡ a)
on_two ns a p q first = inl refl
on_two ns a p q (then {n} o ne) = ⊎_elim (λ e. inr (ap (next_in ns) e ∙ p)) (λ e. absurd (ne (ap (next_in ns) e ∙ q))) (on_two ns a p q o)

-- neither side of the ledger's choice
neither : {A : Type 0} (ins del : ℕ) → (ins ≡ del + 1 → A → ⊥) → (ins ≡ del → (A → ⊥) → ⊥) → (A × (ins ≡ del + 1)) ⊎ ((A → ⊥) × (ins ≡ del)) → ⊥
neither ins del f g (inl p) = f p.1 p.0
neither ins del f g (inr p) = g p.1 p.0

-- the state in which error 3 ends
stored_early : State
unfolding computed stores_early
stored_early = state_by stores_early (run_of tiny refl early) 33

on_chain : {n : ℕ} → On stored_early.tables.nodes n → (n ≡ 1) ⊎ (n ≡ 2)
unfolding computed stores_early stored_early
on_chain o = on_two stored_early.tables.nodes 2 refl refl o

not_registered : Registered stored_early.tables.nodes 1 → ⊥
unfolding computed stores_early stored_early
not_registered r = ⊎_elim
    (λ e. let z : ◌≡◌ {A = ℕ} 0 2147483649 = sym (ap (key stored_early.tables.nodes) e) ∙ r.has in omega arith)
    (λ e. let z : ◌≡◌ {A = ℕ} 2147483648 2147483649 = sym (ap (key stored_early.tables.nodes) e) ∙ r.has in omega arith) (on_chain r.on)

nowhere : (q : Where) → At (shared stored_early) 5 q → ⊥
unfolding computed stores_early stored_early
nowhere free e = let z : ◌≡◌ {A = ℕ} 2147483648 0 = e in omega arith
nowhere chained o = ⊎_elim (λ e. omega arith) (λ e. omega arith) (on_chain o)
nowhere (held zero) h = ⊎_elim (λ e. let z : ◌≡◌ {A = ℕ} 0 5 = e in omega arith) (λ e. let z : ◌≡◌ {A = ℕ} 0 5 = e in omega arith) h.1
nowhere (held (suc zero)) h = ⊎_elim (λ e. let z : ◌≡◌ {A = ℕ} 0 5 = e in omega arith) (λ e. let z : ◌≡◌ {A = ℕ} 0 5 = e in omega arith) h.1
nowhere (held (suc (suc w))) h = omega (arith, h.0)
nowhere (waiting set) w = let z : 2147483648 ≡ set = w.0 in omega (arith, w.2)

pub errors : Errors
unfolding computed frees_at_once stores_early stored_early
errors = record {
  frees = (refl, λ l. neither 1 2 (λ e _. omega arith) (λ e _. omega arith) (l 38 0 (omega arith)));
  frees_prints = refl;
  waits_prints = refl;
  stores = (refl, λ l. neither 1 0 (λ _ r. not_registered r) (λ e _. omega arith) (l 33 1 (omega arith)));
  stores_prints = refl;
  stores_loses = (refl, nowhere);
  finds_prints = refl;
  counts_marked = (refl, λ l. neither 1 1 (λ e _. omega arith) (λ _ f. f (record { node = 5; on = then first (λ e. let z : ◌≡◌ {A = ℕ} 5 0 = e in omega arith); has = let z : ◌≡◌ {A = ℕ} 1 1 = refl in z })) (l 15 0 (omega arith)));
}
