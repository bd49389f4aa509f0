-- What is to be shown of a step's decision: the invariant after it, the change of the registered keys that it names, and what its answer rests on.
-- Assumes nothing.
use mathlib.Core.Path.{◌≡◌, refl, sym, ◌∙◌}
use mathlib.Core.Logic.{◌≢◌, ◌⊎◌, inr}
use mathlib.Core.Bool.{Bool, true, false, ◌||◌}
use mathlib.Core.List.{List, Memᴰ as In}
use Prim.Native.Nat.{ℕ, ◌+◌, ◌*◌, ◌%◌, ◌≤◌, ◌<◌}
use native.Mathlib.Omega.{arith}
use lib.Dec.{eqb, leb}
use lib.ListN.{set}
use borrow.Author.Tests.{ne_eqb, le-ltb, leb-true, leb-false}
use Rattle.choice.specs.Choice.{pick}
use Rattle.choice.proofs.Auto.{pick_false, pick_true}
use Rattle.split.specs.Split.{regular, dummy}
use Rattle.sets.specs.Sets.{bit, dropped}
use Rattle.names.specs.Names.{EXTRA, INSERT, FIND, DELETE, number_of}
use Rattle.names.specs.declared.Answer.{Answer}
use Rattle.names.specs.declared.Answer.TheVariants.{Yes, No, NoDummy}
use Rattle.header.specs.declared.Header.{Header}
use Rattle.header.specs.Header.{nodes_of, busied}
use Rattle.record.specs.declared.Worker.{Worker}
use Rattle.record.specs.Worker.{idle, ticked, held_key, held_dummy}
use Rattle.moves.specs.declared.Seen.{Seen}
use Rattle.acts.specs.declared.Effect.TheVariants.{Nothing}
use Rattle.acts.specs.declared.Move.{Move}
use Rattle.acts.specs.declared.Move.TheVariants.{Damaged, Going, Ended}
use Rattle.moves.specs.Moves.{bad_link, want_of, on}
use Rattle.writes.specs.Writes.{nodes_after, header_after, stored_by}
use Rattle.writes.specs.Carry.{closed_by}
use Rattle.register.specs.Step.{closed}
use Rattle.crew.specs.One.{turn}
use Rattle.register.specs.Registered.{key, link, Registered}
use Rattle.register.specs.Events.{Event, nothing, added, removed, written, took_effect}
use Rattle.story.proofs.Registers.{Same, Change, unmoved}
use Rattle.story.proofs.Sane.{Sane}
use Rattle.story.proofs.Facts.{Nodes, Spot, i1, sz, tb, b2, b4, f1, f2, f3, f4, l2, b8, i8, i9, i10, d4a, d4b, d6, number, At, want_by, key_of, dummy_of, Busy}
use Rattle.story.proofs.Stable.{Grows}
use Rattle.story.proofs.Hands.{key_is, dummy_is}
use Rattle.story.proofs.Core.{Pasts, record_of, not_idle, Core, Inv, aside, back}
use Rattle.story.proofs.Ends.{headed, valued, ends, ends_same}

-- "took effect", by place and errand
abbrev pub took : Spot → ℕ → Bool
took i1 e = false
took sz e = false
took tb e = false
took b2 e = false
took b4 e = false
took f1 e = eqb e EXTRA
took f2 e = eqb e EXTRA
took f3 e = eqb e EXTRA
took f4 e = eqb e EXTRA
took l2 e = eqb e EXTRA
took b8 e = false
took i8 e = true
took i9 e = true
took i10 e = true
took d4a e = false
took d4b e = true
took d6 e = true

-- the same by the place's number
pub took_is : (p : Spot) (x : Worker) → x.place ≡ number p → took_effect x ≡ took p x.errand
took_is i1 x e = rw e
took_is sz x e = rw e
took_is tb x e = rw e
took_is b2 x e = rw e
took_is b4 x e = rw e
took_is f1 x e = rw e
took_is f2 x e = rw e
took_is f3 x e = rw e
took_is f4 x e = rw e
took_is l2 x e = rw e
took_is b8 x e = rw e
took_is i8 x e = rw e
took_is i9 x e = rw e
took_is i10 x e = rw e
took_is d4a x e = rw e
took_is d4b x e = rw e
took_is d6 x e = rw e

-- a step's effect on that: an event is the operation's own and its first
abbrev pub Turned : Worker → Bool → Bool → Event → Type 0
Turned x before after nothing = after ≡ before
Turned x before after (added k) = (before ≡ false) × (after ≡ true) × (x.kind ≡ INSERT) × (k ≡ x.key)
Turned x before after (removed k) = (before ≡ false) × (after ≡ true) × (x.kind ≡ DELETE) × (k ≡ x.key)

-- at an own step, now or before, the key was registered; or it was not
abbrev pub Presently : List ℕ → (ℕ → ℕ → ℕ → Type 0) → ℕ → Type 0
Presently m P k = Registered m k ⊎ ((n : ℕ) × (nx : ℕ) × P n nx (regular k))

abbrev pub Absently : List ℕ → (ℕ → ℕ → ℕ → Type 0) → ℕ → Type 0
Absently m P k = (Registered m k → ⊥) ⊎ ((n : ℕ) × (s : ℕ) × P n 0 s × (s < regular k))

-- what the answer rests on, of an operation that took effect or did not
pub record ToldBy (m : List ℕ) (P : ℕ → ℕ → ℕ → Type 0) (x : Worker) (tk : Bool) (a : Answer) : Type 0 where
  pub yes : a ≡ Yes → x.kind ≡ FIND → Presently m P x.key
  pub no_there : a ≡ No → x.kind ≡ INSERT → Presently m P x.key
  pub no_absent : a ≡ No → x.kind ≢ INSERT → Absently m P x.key
  pub done : a ≡ Yes → x.kind ≢ FIND → tk ≡ true
  pub undone : a ≢ Yes → tk ≡ false
  pub dummies : number_of a ≢ number_of NoDummy

-- neither yes nor no, of an operation without effect
pub told_neither : {m : List ℕ} {P : ℕ → ℕ → ℕ → Type 0} {x : Worker} {a : Answer} → a ≢ Yes → a ≢ No → number_of a ≢ number_of NoDummy → ToldBy m P x false a
told_neither ny nn b = record { yes = λ a k. absurd (ny a); no_there = λ a k. absurd (nn a); no_absent = λ a k. absurd (nn a); done = λ a k. absurd (ny a); undone = λ a. refl; dummies = b }

-- a step of worker w: the invariant before it, and what is seen of the past afterwards
pub record Ctx (h : Header) (ws : List Worker) (Ps Qs : Pasts) (w : ℕ) (c m : List ℕ) (β : ℕ → ℕ) : Type 0 where
  pub inv : Inv h ws Ps c m β
  pub lt : w < h.w
  pub busy : bit w h.busy ≡ 1
  pub others : (v : ℕ) → v ≢ w → Grows (Ps v) (Qs v)
  pub mine : Grows (Ps w) (Qs w)
  pub see : (n nx : ℕ) → In n c → link m n ≡ nx * 2 → Qs w n nx (key m n)

module _ {h : Header} {ws : List Worker} {Ps Qs : Pasts} {w : ℕ} {c m : List ℕ} {β : ℕ → ℕ} (z : Ctx h ws Ps Qs w c m β) where
  abbrev pub me : Worker
  me = record_of ws w

  pub core : Core h ws Ps w (held_key me) (held_dummy me) c m β
  core = aside z.inv w z.lt

  -- the worker's own part of what follows a step that goes on
  pub record Next (h' : Header) (c' m' : List ℕ) (β' : ℕ → ℕ) (y : Worker) : Type 0 where
    pub k : ℕ
    pub d : ℕ
    pub rest : Core h' ws Ps w k d c' m' β'
    pub spot : Spot
    pub place : y.place ≡ number spot
    pub sane : Sane h' y
    pub key_same : key_of spot y ≡ k
    pub dummy_same : dummy_of spot y ≡ d
    pub key_has : k ≢ 0 → key m' k ≡ regular y.key
    pub dummy_has : d ≢ 0 → key m' d ≡ dummy y.making
    pub at : At h' w c' m' (Qs w) spot y

  pub record Went (tk : Bool) (y : Worker) (h' : Header) (m' : List ℕ) (β' : ℕ → ℕ) (ev : Event) : Type 0 where
    pub chain : List ℕ
    pub next : Next h' chain m' β' (ticked y)
    pub change : Change m m' ev
    pub kind : y.kind ≡ me.kind
    pub same_key : y.key ≡ me.key
    pub turned : Turned me tk (took next.spot y.errand) ev

  abbrev pub Present : ℕ → Type 0
  Present k = Presently m (Ps w) k

  abbrev pub Absent : ℕ → Type 0
  Absent k = Absently m (Ps w) k

  abbrev pub Told : Bool → Answer → Type 0
  Told tk a = ToldBy m (Ps w) me tk a

  pub record Finished (tk : Bool) (a : Answer) (h' : Header) (m' : List ℕ) (β' : ℕ → ℕ) (ev : Event) : Type 0 where
    pub chain : List ℕ
    pub after : Inv (busied (dropped w h'.busy) h') (set ws w idle) Qs chain (closed (turn h w me) m') β'
    pub none : ev ≡ nothing
    pub same : (j : ℕ) → Same m (closed (turn h w me) m') j
    pub told : Told tk a

  abbrev pub Good : Bool → Move → Type 0
  Good tk Damaged = ⊥
  Good tk (Going y e) = Went tk y (header_after e h) (nodes_after e m) (valued (stored_by e) β) (written me e)
  Good tk (Ended a e) = Finished tk a (header_after e h) (nodes_after e m) (valued (stored_by e) β) (written me e)

  -- the worker stands at a place, with what it has in hand there
  pub record Stands (p : Spot) : Type 0 where
    pub place : me.place ≡ number p
    pub sane : Sane h me
    pub hand : held_key me ≡ key_of p me
    pub dummy_hand : held_dummy me ≡ dummy_of p me
    pub key_has : held_key me ≢ 0 → key m (held_key me) ≡ regular me.key
    pub dummy_has : held_dummy me ≢ 0 → key m (held_dummy me) ≡ dummy me.making

  -- the worker goes on and nothing is written, with no dummy in hand
  pub looks : (tk : Bool) (p : Spot) → Stands p → held_dummy me ≡ 0 → (q : Spot) (y : Worker) → y.place ≡ number q → Sane h (ticked y) → key_of q (ticked y) ≡ held_key me → dummy_of q (ticked y) ≡ 0
      → y.kind ≡ me.kind → y.key ≡ me.key → At h w c m (Qs w) q (ticked y) → took q y.errand ≡ tk → Good tk (Going y Nothing)
  looks tk p s d0 q y pl sn ek ed kd ky a t = record {
    chain = c;
    next = record {
      k = held_key me;
      d = held_dummy me;
      rest = core;
      spot = q;
      place = pl;
      sane = sn;
      key_same = ek;
      dummy_same = ed ∙ sym d0;
      key_has = λ n. rw ky (s.key_has n);
      dummy_has = λ n. absurd (n d0);
      at = a;
    };
    change = unmoved;
    kind = kd;
    same_key = ky;
    turned = t;
  }

  -- the invariant after a step that goes on
  pub gone : (y : Worker) (h' : Header) (c' m' : List ℕ) (β' : ℕ → ℕ) → (w < h'.w) → bit w h'.busy ≡ 1 → Next h' c' m' β' y → Inv h' (set ws w y) Qs c' m' β'
  gone y h' c' m' β' lt on n = back n.rest lt y Qs z.others (inr b) (inr (λ e. not_idle n.spot (sym n.place ∙ e), on))
      (key_is h' w c' m' (Qs w) y b ∙ n.key_same) (dummy_is h' w c' m' (Qs w) y b ∙ n.dummy_same)
    where
      b : Busy h' w c' m' (Qs w) y
      b = record {
        spot = n.spot;
        place = n.place;
        sane = n.sane;
        held = λ q. rw n.key_same (record { held = n.rest.key_held (λ e. q (n.key_same ∙ e)); has = n.key_has (λ e. q (n.key_same ∙ e)) });
        dummy_held = λ q. rw n.dummy_same (record { held = n.rest.dummy_held (λ e. q (n.dummy_same ∙ e)); has = n.dummy_has (λ e. q (n.dummy_same ∙ e)) });
        at = n.at;
      }

  -- the invariant after a step that ends
  pub over : (tk : Bool) (a : Answer) (c' m' : List ℕ) → Core h ws Ps w (held_key me) (held_dummy me) c' m' β → ((j : ℕ) → Same m m' j) → Told tk a → Finished tk a h m' β nothing
  unfolding closed_by
  over tk a c' m' k s t = record {
    chain = c';
    after = ends k z.lt Qs z.others;
    none = refl;
    same = λ j. let p = s j in let q = ends_same k j in record { still = λ r. q.still (p.still r); already = λ r. p.already (q.already r) };
    told = t;
  }

  -- the same where the step writes a word of the header
  pub overs : (tk : Bool) (a : Answer) (s n : ℕ) → Core (headed s n h.busy h) ws Ps w (held_key me) (held_dummy me) c m β → Told tk a → Finished tk a (headed s n h.busy h) m β nothing
  unfolding closed_by
  overs tk a s n k t = record { chain = c; after = ends k z.lt Qs z.others; none = refl; same = ends_same k; told = t }

-- ---- tests that the invariant decides
pub past : (P : Move → Type 0) (t : Bool) (a : Move) {b : Move} → t ≡ false → P b → P (pick t a b)
past P t a {b} e g = rw (pick_false t a b e) g

pub upon : (P : Move → Type 0) (t : Bool) {a : Move} (b : Move) → t ≡ true → P a → P (pick t a b)
upon P t {a} b e g = rw (pick_true t a b e) g

abbrev pub seen : Header → Worker → ℕ → ℕ → Seen
seen h x r s = record { header = h; worker = x; word = r; split = s }

pub sound_link : (h : Header) (x : Worker) (n r s : ℕ) → n ≢ 0 → r ≤ nodes_of h * 2 + 1 → (eqb n 0 || bad_link (seen h x r s)) ≡ false
unfolding bad_link
sound_link h x n r s ne b = rw (ne_eqb n 0 ne, le-ltb (nodes_of h * 2 + 1) r b)

pub want_is : (x : Worker) → want_of x ≡ want_by x
unfolding want_of
want_is x = refl

-- a node of the chain is of the sort of its split key
module _ (D N : ℕ) (c m : List ℕ) (g : Nodes D N c m) (n : ℕ) (i : In n c) where
  pub even_sort : key m n % 2 ≡ 0 → n ≤ D
  even_sort e = go (leb n D) refl
    where
      go : (t : Bool) → leb n D ≡ t → n ≤ D
      go true q = leb-true n D q
      go false q = absurd (omega (arith, g.odd n i (leb-false n D q)))

  pub odd_sort : key m n % 2 ≡ 1 → D < n
  odd_sort e = go (leb n D) refl
    where
      go : (t : Bool) → leb n D ≡ t → D < n
      go true q = absurd (omega (arith, g.even n i (leb-true n D q)))
      go false q = leb-false n D q
