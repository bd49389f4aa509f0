-- A node's standing says which of the four it is, and the chain and the hands of the workers share no node.
-- Assumes nothing.
use mathlib.Core.Path.{◌≡◌, refl, sym, ap, ◌∙◌}
use mathlib.Core.Logic.{⊎_elim}
use mathlib.Core.List.{List, Memᴰ as In}
use Prim.Native.Nat.{ℕ, zero, suc, ◌≤◌, ◌<◌}
use native.Mathlib.Omega.{arith}
use native.Mathlib.Decide.{ℕ_discrete}
use lib.ListN.{get_or, set}
use lib.Seq.{get_or-set_other}
use Rattle.words.specs.Words.{TAKEN}
use Rattle.header.specs.Header.{nodes_of, dummies_of}
use Rattle.record.specs.declared.Worker.{Worker}
use Rattle.record.specs.Worker.{idle, begun, held_key, held_dummy}
use Rattle.register.specs.Registered.{standing, On}
use Rattle.story.specs.Shared.{Shared, worker_of}
use Rattle.story.specs.Story.{Where, free, chained, held, waiting, At, OnePlace, RecordsKept}
use Rattle.story.specs.Trace.{Trace, state, answer_at, event_at, told}
use Rattle.story.proofs.Linked.{on_in, in_on}
use Rattle.story.proofs.Facts.{Held}
use Rattle.story.proofs.Core.{Pasts, fact_key, fact_dummy}
use Rattle.story.proofs.Calls.{InvOf, Tale, refused, begins, goes, ends}
use Rattle.story.proofs.Theorem.{Past, good, made_at}

module _ (s : Shared) (Ps : Pasts) (c : List ℕ) (inv : InvOf s Ps c) (n : ℕ) (low : 1 ≤ n) (high : n ≤ nodes_of s.header) where
  abbrev W : ℕ
  W = s.header.w

  abbrev m : List ℕ
  m = s.nodes

  -- a node in hand: of its sort, taken, off the chain
  in_key : (w : ℕ) → w < W → held_key (worker_of s w) ≡ n → Held (dummies_of s.header) (nodes_of s.header) c m n
  in_key w lt e = rw e at (fact_key s.header w c m (Ps w) (worker_of s w) (inv.fact w lt (omega arith)) (λ z. omega (arith, e)))

  in_dummy : (w : ℕ) → w < W → held_dummy (worker_of s w) ≡ n → Held 0 (dummies_of s.header) c m n
  in_dummy w lt e = rw e at (fact_dummy s.header w c m (Ps w) (worker_of s w) (inv.fact w lt (omega arith)) (λ z. omega (arith, e)))

  taken : {w : ℕ} → At s n (held w) → (standing m n ≡ TAKEN) × (In n c → ⊥)
  taken {w} h = ⊎_elim (λ e. let q = in_key w h.0 e in (q.is, q.off)) (λ e. let q = in_dummy w h.0 e in (q.is, q.off)) h.1

  one_hand : (u v : ℕ) → At s n (held u) → At s n (held v) → Dec (u ≡ v) → u ≡ v
  one_hand u v a b (yes e) = e
  one_hand u v a b (no ne) = absurd (⊎_elim
      (λ e. ⊎_elim (λ f. (inv.apart u v a.0 b.0 (omega (arith, a.0)) (omega (arith, b.0)) ne).0 (λ z. omega (arith, e)) (e ∙ sym f))
      (λ f. omega (arith, (in_key u a.0 e).low, (in_dummy v b.0 f).high)) b.1)
      (λ e. ⊎_elim (λ f. omega (arith, (in_dummy u a.0 e).high, (in_key v b.0 f).low))
      (λ f. (inv.apart u v a.0 b.0 (omega (arith, a.0)) (omega (arith, b.0)) ne).1 (λ z. omega (arith, e)) (e ∙ sym f)) b.1) a.1)

  in_chain : On m n → In n c
  in_chain o = on_in m c inv.of_nodes.walk o

  on_taken : On m n → standing m n ≡ TAKEN
  on_taken o = inv.of_nodes.is n (in_chain o)

  -- a node that is in two places is in one
  same_place : (p q : Where) → At s n p → At s n q → q ≡ p
  same_place free free a b = refl
  same_place free (held w) a b = absurd (omega (arith, (taken b).0))
  same_place free chained a b = absurd (omega (arith, on_taken b))
  same_place free (waiting t) a b = absurd (omega (arith, b.0, b.1))
  same_place (held w) free a b = absurd (omega (arith, (taken a).0))
  same_place (held w) (held v) a b = ap held (one_hand v w b a (ℕ_discrete v w))
  same_place (held w) chained a b = absurd ((taken a).1 (in_chain b))
  same_place (held w) (waiting t) a b = absurd (omega (arith, (taken a).0, b.0, b.2))
  same_place chained free a b = absurd (omega (arith, on_taken a))
  same_place chained (held w) a b = absurd ((taken b).1 (in_chain a))
  same_place chained chained a b = refl
  same_place chained (waiting t) a b = absurd (omega (arith, on_taken a, b.0, b.2))
  same_place (waiting t) free a b = absurd (omega (arith, a.0, a.1))
  same_place (waiting t) (held w) a b = absurd (omega (arith, (taken b).0, a.0, a.2))
  same_place (waiting t) chained a b = absurd (omega (arith, on_taken b, a.0, a.2))
  same_place (waiting t) (waiting u) a b = ap waiting (sym b.0 ∙ a.0)

  somewhere : (p : Where) × At s n p
  somewhere = ⊎_elim (λ l. set l (ℕ_discrete (standing m n) 0)) whole (inv.of_nodes.kinds n high)
    where
      set : standing m n < 65536 → Dec (standing m n ≡ 0) → (p : Where) × At s n p
      set l (yes e) = (free, e)
      set l (no ne) = (waiting (standing m n), (refl, omega (arith, ne), omega arith, λ v b. inv.waits n v high l b))

      whole : standing m n ≡ TAKEN → (p : Where) × At s n p
      whole t = ⊎_elim (λ i. (chained, in_on m c inv.of_nodes.walk i))
          (⊎_elim (⊎_elim (λ e. absurd (omega arith)) (λ e. absurd (omega arith))) (λ h. (held h.who, (h.real, h.has)))) (inv.whole n high t)

  pub exactly_one : (p : Where) × At s n p × ((q : Where) → At s n q → q ≡ p)
  exactly_one = let k = somewhere in (k.0, k.1, λ q b. same_place k.0 q k.1 b)

pub one_place : (r : Trace) → OnePlace (told r)
one_place r i n low high = let g = good r i in exactly_one (state r i) (Past r i) g.chain g.inv n low high

-- a call of worker w changes no record but that of w, which is below W
pub call_record : (r : Trace) (i n : ℕ) → (state r i).header.w ≤ n → worker_of (state r (suc i)) n ≡ worker_of (state r i) n
call_record r i n b = by (made_at r i (good r i)).tale
  where
    other : (w : ℕ) (y : Worker) → w < (state r i).header.w → (state r (suc i)).workers ≡ set (state r i).workers w y → worker_of (state r (suc i)) n ≡ worker_of (state r i) n
    other w y l e = rw e (get_or-set_other (state r i).workers w n y idle (λ q. omega arith))

    by : Tale (state r i) (Past r i) (r.call i) (answer_at r i) (state r (suc i)) (event_at r i) → worker_of (state r (suc i)) n ≡ worker_of (state r i) n
    by (refused ew en rf hc) = ap (λ (ws : List Worker). get_or ws n idle) ew
    by (begins w kind k q l ew en ea hc xi) = other w (begun kind k) l ew
    by (goes w q l y ew ek ey nb tn ea ty) = other w y l ew
    by (ends w q l ew en nb td ty) = other w idle l ew

pub records_kept : (r : Trace) → RecordsKept (told r)
records_kept r zero n b = refl
records_kept r (suc i) n b =
    let s = (made_at r i (good r i)).sizes in
    let b' : (state r i).header.w ≤ n = omega arith in
    call_record r i n b' ∙ records_kept r i n b'
