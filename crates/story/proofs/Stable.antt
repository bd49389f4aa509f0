-- What a worker knows outlives another worker's step: each part of it is shown stable once, and a place is made of parts.
-- Assumes nothing.
use mathlib.Core.Path.{◌≡◌, ◌∙◌}
use mathlib.Core.Logic.{◌≢◌, inl}
use mathlib.Core.Bool.{Bool}
use mathlib.Core.List.{List}
use Prim.Native.Nat.{ℕ, ◌+◌, ◌*◌, ◌≤◌}
use native.Mathlib.Omega.{arith}
use Rattle.header.specs.declared.Header.{Header}
use Rattle.header.specs.Header.{dummies_of, nodes_of}
use Rattle.record.specs.declared.Worker.{Worker}
use Rattle.register.specs.Registered.{key, link}
use Rattle.story.proofs.Facts.{Safe, Own, Root, Start, Prev, Beyond, Read, Spot, i1, sz, tb, b2, b4, f1, f2, f3, f4, l2, b8, i8, i9, i10, d4a, d4b, d6, Passes, At, key_of, dummy_of, Busy, Later}

module _ {D N v g : ℕ} {c m c' m' : List ℕ} (l : Later D N v g c m c' m') where
  pub start : {n most : ℕ} → Start D c m n most → Start D c' m' n most
  start {n} b = record { on = l.root n b.on b.sort; sort = b.sort; low = rw (l.keys n (inl b.on)) b.low }

  pub root : {b n : ℕ} → Root D c m b n → Root D c' m' b n
  root {n = n} b = record { on = l.root n b.on b.sort; sort = b.sort; has = l.keys n (inl b.on) ∙ b.has }

  pub prev : {n most : ℕ} → Prev N v c m n most → Prev N v c' m' n most
  prev {n} b = record { safe = l.safe n b.safe; low = rw (l.keys n b.safe) b.low }

  pub beyond : {n most : ℕ} → Beyond N v c m n most → Beyond N v c' m' n most
  beyond {n} b = record { safe = λ z. l.safe n (b.safe z); high = λ z. rw (l.keys n (b.safe z)) (b.high z) }

  pub dead : {n : ℕ} (x : ℕ) → Safe N v c m n → link m n ≡ x * 2 + 1 → link m' n ≡ x * 2 + 1
  dead {n} x p e = l.dead n p (rw e (omega arith)) ∙ e

  pub own : {lo hi n k : ℕ} → n ≢ g → hi ≤ N → Own lo hi c m n k → Own lo hi c' m' n k
  own {lo} {hi} {n} ne b o = record { held = l.held lo hi n ne b o.held; has = l.has lo hi n ne o.held ∙ o.has }

-- what an own step saw stays seen
abbrev pub Grows : (ℕ → ℕ → ℕ → Type 0) → (ℕ → ℕ → ℕ → Type 0) → Type 0
Grows P Q = (a b k : ℕ) → P a b k → Q a b k

module _ (h : Header) (v g : ℕ) (c m c' m' : List ℕ) (l : Later (dummies_of h) (nodes_of h) v g c m c' m') (P Q : ℕ → ℕ → ℕ → Type 0) (up : Grows P Q) where
  pub read : {cur next : ℕ} {marked : Bool} → Safe (nodes_of h) v c m cur → Read (nodes_of h) v c m P cur next marked → Read (nodes_of h) v c' m' Q cur next marked
  read {cur} {next} p b = record {
    live = λ e z. l.safe next (b.live e z);
    was = λ e. up cur next (key m' cur) (rw (l.keys cur p) (b.was e));
    dead = λ e. dead l next p (b.dead e);
  }

  pub passes : (x : Worker) → Passes h v c m P x → Passes h v c' m' Q x
  passes x b = ((b.0.0, start l b.0.1), prev l b.1)

  -- the one lemma by place
  pub at : (p : Spot) (x : Worker) → At h v c m P p x → At h v c' m' Q p x
  at i1 x b = b
  at sz x b = b
  at tb x b = b
  at b2 x b = b
  at b4 x b = (b.0, b.1, start l b.2)
  at f1 x b = (b.0, start l b.1)
  at f2 x b = (passes x b.0, l.safe x.cur b.1)
  at f3 x b = (passes x b.0, l.safe x.cur b.1, read b.1 b.2)
  at f4 x b = (passes x b.0, l.safe x.cur b.1, dead l x.next b.1 b.2)
  at l2 x b = (passes x b.0, beyond l b.1, b.2)
  at b8 x b = (b.0, b.1, root l b.2)
  at i8 x b = b
  at i9 x b = b
  at i10 x b = b
  at d4a x b = (b.0, b.1, start l b.2, l.safe x.prev b.3, l.safe x.cur b.4, l.keys x.cur b.4 ∙ b.5)
  at d4b x b = (b.0, start l b.1, l.safe x.prev b.2, l.safe x.cur b.3, dead l x.next b.3 b.4)
  at d6 x b = b

  -- the frame for other workers: v's record is as it was, and v does not hold what the stepping worker has in hand
  pub busy : (x : Worker) (b : Busy h v c m P x) → (key_of b.spot x ≢ 0 → key_of b.spot x ≢ g) → (dummy_of b.spot x ≢ 0 → dummy_of b.spot x ≢ g) → Busy h v c' m' Q x
  busy x b nk nd = record {
    spot = b.spot;
    place = b.place;
    sane = b.sane;
    held = λ z. own l (nk z) (omega arith) (b.held z);
    dummy_held = λ z. own l (nd z) (omega arith) (b.dummy_held z);
    at = at b.spot x b.at;
  }
