-- One call of a run: a refused one leaves the register as it was, a start is private, and a step is what its place decides.
-- Assumes nothing.
use mathlib.Core.Path.{◌≡◌, refl, sym, ap, subst, ◌∙◌}
use mathlib.Core.Logic.{◌≢◌, ◌⊎◌, inl, inr, ⊎_elim}
use mathlib.Core.Bool.{Bool, true, false, true≢false, not, ◌||◌}
use mathlib.Core.List.{List, [], ◌∷◌, Memᴰ as In}
use Prim.Native.Nat.{ℕ, zero, suc, ◌*◌, ◌≤◌, ◌<◌}
use native.Mathlib.Omega.{arith}
use native.Mathlib.Decide.{ℕ_discrete}
use lib.Dec.{eqb, ltb, leb}
use lib.ListN.{get_or, set}
use borrow.Author.Tests.{eqb-true, eqb-false, leb-false, ltb-false, not-false}
use Rattle.std.specs.Prelude.{Ok, Err}
use Rattle.choice.specs.Choice.{pick}
use Rattle.choice.proofs.Cases.{by_bool}
use Rattle.choice.proofs.Telling.{clears_or, clears_lt}
use Rattle.tree.specs.Tree.{parent_of}
use Rattle.words.specs.Words.{SPLIT_KEY, word}
use Rattle.sets.specs.Sets.{bit}
use Rattle.names.specs.Names.{IDLE, TB, B2, F3, L2, KEY, DUMMY, INSERT, DELETE, KEY_LIMIT, number_of, refuses}
use Rattle.names.specs.declared.Answer.{Answer}
use Rattle.names.specs.declared.Answer.TheVariants.{Going as GoingOn, Short, Damaged as IsDamaged, NoWorker, KeyAbove, IsBusy, IsIdle, NoKind, NoDummy}
use Rattle.header.specs.declared.Header.{Header}
use Rattle.header.specs.Header.{header_damaged}
use Rattle.record.specs.declared.Worker.{Worker}
use Rattle.record.specs.Worker.{idle, begun, ticked, held_key, held_dummy}
use Rattle.faults.specs.Faults.{worker_damaged}
use Rattle.moves.specs.declared.Seen.{Seen}
use Rattle.acts.specs.declared.Move.{Move}
use Rattle.acts.specs.declared.Move.TheVariants.{Damaged, Going, Ended}
use Rattle.moves.specs.Moves as moves
use Rattle.moves.specs.Moves.{decided_at, decided}
use Rattle.writes.specs.Writes.{none, header_after, stored_by}
use Rattle.writes.specs.Carry.{store_of}
use Rattle.names.specs.Verdicts.{Verdict}
use Rattle.register.specs.Step.{refused_with, asked_at, asked_bucket, word_given, word_with, split_for, seen_with}
use Rattle.header.specs.Header.{is_short}
use Rattle.register.specs.Calls.{start_verdict, step_verdict}
use Rattle.crew.proofs.Laws.{sized}
use Rattle.crew.specs.One.{turn}
use Rattle.promises.proofs.Shape.{Final, effect_at}
use Rattle.register.specs.Registered.{key, link}
use Rattle.register.specs.Events.{Event, nothing, added, removed, written, taking, took_effect}
use Rattle.story.specs.Shared.{Call, start, step, Shared, worker_of}
use Rattle.story.specs.Trace.{Quiet, Keeps, turn_of, seen_at, all_there, Done, done_by, start_done, move_done, step_done, done, Called, Next, calls, pause}
use Rattle.story.proofs.Registers.{Change, unmoved}
use Rattle.story.proofs.Facts.{Spot, i1, sz, tb, b2, b4, f1, f2, f3, f4, l2, b8, i8, i9, i10, d4a, d4b, d6, number, At, key_of, dummy_of, Busy, Fact}
use Rattle.story.proofs.Stable as st
use Rattle.story.proofs.Hands.{key_is, dummy_is}
use Rattle.story.proofs.Core.{Pasts, record_of, Agrees, grown, Inv, aside, back, not_idle}
use Rattle.story.proofs.Ends.{by_laws, reread, starts}
use Rattle.story.proofs.Steps.{took, took_is, Turned, ToldBy, Ctx, me, Good, Stands, gone, seen}
use Rattle.story.proofs.Search.{f1_good, f2_good, f3_good, f4_good}
use Rattle.story.proofs.Buckets.{sz_good, tb_good, b2_good, b4_good, b8_good}
use Rattle.story.proofs.Operations.{i1_good, i8_good, i9_good, i10_good, l2_good, d4a_good, d4b_good, d6_good}
use Rattle.story.proofs.Tally.{Tally, Ok as IsTallied, tally_at}
use Rattle.story.proofs.Sound.{header_sound, long_enough, worker_sound}

-- ---- the place decides
module _ {h : Header} {ws : List Worker} {Ps Qs : Pasts} {w : ℕ} {c m : List ℕ} {β : ℕ → ℕ} (z : Ctx h ws Ps Qs w c m β) where
  abbrev x : Worker
  x = me z

  -- the value that the step reads
  abbrev v : ℕ
  v = β (asked_bucket (turn h w x))

  asked_tb : x.place ≡ TB → v ≡ β x.wanted
  unfolding asked_bucket asked_at pick
  asked_tb e = rw e refl

  asked_b2 : x.place ≡ B2 → v ≡ β (parent_of x.making)
  unfolding asked_bucket asked_at pick
  asked_b2 e = rw e refl

  abbrev sees : ℕ → Seen
  sees q = record { header = h; worker = x; word = word_given q (turn h w x) m v; split = pick (eqb q F3) (word m x.cur SPLIT_KEY) 0 }

  by_spot : (p : Spot) → Stands z p → At h w c m (Ps w) p x → Good z (took p x.errand) (decided_at (number p) (sees (number p)))
  unfolding decided_at word_given pick
  by_spot i1 s a = i1_good z s a
  by_spot sz s a = sz_good z s a
  by_spot tb s a = subst (λ (u : ℕ). Good z false (moves.tb (seen h x u 0))) (sym (asked_tb s.place)) (tb_good z s a)
  by_spot b2 s a = subst (λ (u : ℕ). Good z false (moves.b2 (seen h x u 0))) (sym (asked_b2 s.place)) (b2_good z s a)
  by_spot b4 s a = b4_good z s a
  by_spot f1 s a = f1_good z f1 s s.hand s.dummy_hand a
  by_spot f2 s a = f2_good z f2 s s.hand s.dummy_hand a
  by_spot f3 s a = f3_good z f3 s s.hand s.dummy_hand a
  by_spot f4 s a = f4_good z f4 s s.hand s.dummy_hand a
  by_spot l2 s a = l2_good z s a
  by_spot b8 s a = b8_good z s a
  by_spot i8 s a = i8_good z s a
  by_spot i9 s a = i9_good z s a
  by_spot i10 s a = i10_good z s a
  by_spot d4a s a = d4a_good z s a
  by_spot d4b s a = d4b_good z s a
  by_spot d6 s a = d6_good z s a

  at_place : (q : ℕ) → x.place ≡ q → decided (seen_with (turn h w x) m v) ≡ decided_at q (sees q)
  unfolding decided word_with split_for
  at_place q e = ap (λ (p : ℕ). decided_at p (sees p)) e

  pub decided_good : (b : Busy h w c m (Ps w) x) → Good z (took b.spot x.errand) (decided (seen_with (turn h w x) m v))
  decided_good b = subst (Good z (took b.spot x.errand)) (sym (at_place (number b.spot) b.place)) (by_spot b.spot stands b.at)
    where
      hand : held_key x ≡ key_of b.spot x
      hand = key_is h w c m (Ps w) x b

      dummy_hand : held_dummy x ≡ dummy_of b.spot x
      dummy_hand = dummy_is h w c m (Ps w) x b

      stands : Stands z b.spot
      stands = record {
        place = b.place;
        sane = b.sane;
        hand = hand;
        dummy_hand = dummy_hand;
        key_has = λ n. rw hand (b.held (λ e. n (hand ∙ e))).has;
        dummy_has = λ n. rw dummy_hand (b.dummy_held (λ e. n (dummy_hand ∙ e))).has;
      }

  -- L2 is on the errand of a dummy or of the key
  why : (p : Spot) → x.place ≡ number p → At h w c m (Ps w) p x → x.place ≡ L2 → (x.errand ≡ DUMMY) ⊎ (x.errand ≡ KEY)
  why l2 e a q = ⊎_elim inl (λ k. inr k.0) a.2
  why i1 e a q = absurd (omega arith)
  why sz e a q = absurd (omega arith)
  why tb e a q = absurd (omega arith)
  why b2 e a q = absurd (omega arith)
  why b4 e a q = absurd (omega arith)
  why f1 e a q = absurd (omega arith)
  why f2 e a q = absurd (omega arith)
  why f3 e a q = absurd (omega arith)
  why f4 e a q = absurd (omega arith)
  why b8 e a q = absurd (omega arith)
  why i8 e a q = absurd (omega arith)
  why i9 e a q = absurd (omega arith)
  why i10 e a q = absurd (omega arith)
  why d4a e a q = absurd (omega arith)
  why d4b e a q = absurd (omega arith)
  why d6 e a q = absurd (omega arith)

  pub tallied : Busy h w c m (Ps w) x → IsTallied h x (decided (seen_with (turn h w x) m v))
  tallied b = subst (IsTallied h x) (sym (at_place (number b.spot) b.place)) (tally_at h x _ _ b.spot b.place (why b.spot b.place b.at))

-- ---- the invariant of a state
abbrev pub InvOf : Shared → Pasts → List ℕ → Type 0
InvOf s Ps c = Inv s.header s.workers Ps c s.nodes s.value

-- what own steps saw may grow
regrown : {h : Header} {ws : List Worker} {Ps : Pasts} {c m : List ℕ} {β : ℕ → ℕ} → Inv h ws Ps c m β → (Qs : Pasts) → ((v : ℕ) → st.Grows (Ps v) (Qs v)) → Inv h ws Qs c m β
regrown {h} {ws} {Ps} {c} {m} inv Qs up = record {
  limits = inv.limits;
  size = inv.size;
  few = inv.few;
  long = inv.long;
  of_nodes = inv.of_nodes;
  key_held = inv.key_held;
  dummy_held = inv.dummy_held;
  fact = λ v l ne. grown h v c m (Ps v) (Qs v) (up v) (record_of ws v) (inv.fact v l ne);
  bits = inv.bits;
  apart = inv.apart;
  key_mine = inv.key_mine;
  dummy_mine = inv.dummy_mine;
  whole = inv.whole;
  waits = inv.waits;
  keyed = inv.keyed;
  exact = inv.exact;
  root₀ = inv.root₀;
  root = inv.root;
}

-- a record stored back as it was
set_back : (ws : List Worker) (w : ℕ) → set ws w (get_or ws w idle) ≡ ws
set_back [] w = refl
set_back (x ∷ ws) zero = refl
set_back (x ∷ ws) (suc w) = ap (λ (l : List Worker). x ∷ l) (set_back ws w)

-- what a call does to the operation of its worker
pub data Tale (s : Shared) (Ps : Pasts) (c : Call) (a : Answer) (s' : Shared) (ev : Event) : Type 0 where
  refused : s'.workers ≡ s.workers → ev ≡ nothing → refuses a ≡ true → s'.header.count ≡ s.header.count → Tale s Ps c a s' ev
  begins : (w kind k : ℕ) → c ≡ start w kind k → w < s.header.w → s'.workers ≡ set s.workers w (begun kind k) → ev ≡ nothing → a ≡ GoingOn → s'.header.count ≡ s.header.count → worker_of s w ≡ idle → Tale s Ps c a s' ev
  goes :
      (w : ℕ) → c ≡ step w → w < s.header.w → (y : Worker) → s'.workers ≡ set s.workers w y → y.kind ≡ (worker_of s w).kind → y.key ≡ (worker_of s w).key → (worker_of s w).place ≢ IDLE
      → Turned (worker_of s w) (took_effect (worker_of s w)) (took_effect y) ev → a ≡ GoingOn → Tally s.header.count s'.header.count (worker_of s w) y ev → Tale s Ps c a s' ev
  ends :
      (w : ℕ) → c ≡ step w → w < s.header.w → s'.workers ≡ set s.workers w idle → ev ≡ nothing → (worker_of s w).place ≢ IDLE
      → ToldBy s.nodes (Ps w) (worker_of s w) (took_effect (worker_of s w)) a → Tally s.header.count s'.header.count (worker_of s w) idle ev → Tale s Ps c a s' ev

-- what a call leaves
pub record Made (s : Shared) (Ps Qs : Pasts) (c : Call) (a : Answer) (s' : Shared) (ev : Event) : Type 0 where
  pub chain : List ℕ
  pub inv : InvOf s' Qs chain
  pub change : Change s.nodes s'.nodes ev
  pub tale : Tale s Ps c a s' ev
  pub sound : a ≢ IsDamaged
  pub long : a ≢ Short
  pub dummies : a ≢ NoDummy
  pub sizes : (s'.header.m ≡ s.header.m) × (s'.header.k ≡ s.header.k) × (s'.header.w ≡ s.header.w)

turns : (x : Worker) (a b a' b' : Bool) (ev : Event) → a' ≡ a → b' ≡ b → Turned x a b ev → Turned x a' b' ev
turns x a b a' b' nothing p q t = q ∙ t ∙ sym p
turns x a b a' b' (added k) p q t = (p ∙ t.0, q ∙ t.1, t.2, t.3)
turns x a b a' b' (removed k) p q t = (p ∙ t.0, q ∙ t.1, t.2, t.3)

-- the state that a call leaves, with these values
abbrev pub laid : Done → (ℕ → ℕ) → Shared
laid d β = record { header = d.header; workers = d.workers; nodes = d.nodes; value = β }

laid_is : (s' : Shared) (d : Done) → s'.header ≡ d.header → s'.workers ≡ d.workers → s'.nodes ≡ d.nodes → s' ≡ laid d s'.value
laid_is s' d p q t = λ i. record { header = p i; workers = q i; nodes = t i; value = s'.value }

-- ---- a pause: a record that is ticked keeps its fact
ticked_at : (h : Header) (u : ℕ) (c m : List ℕ) (P : ℕ → ℕ → ℕ → Type 0) (p : Spot) (y : Worker)
    → At h u c m P p y → At h u c m P p (ticked y) × (key_of p (ticked y) ≡ key_of p y) × (dummy_of p (ticked y) ≡ dummy_of p y)
ticked_at h u c m P i1 y a = (a, refl, refl)
ticked_at h u c m P sz y a = (a, refl, refl)
ticked_at h u c m P tb y a = (a, refl, refl)
ticked_at h u c m P b2 y a = (a, refl, refl)
ticked_at h u c m P b4 y a = (a, refl, refl)
ticked_at h u c m P f1 y a = (a, refl, refl)
ticked_at h u c m P f2 y a = (a, refl, refl)
ticked_at h u c m P f3 y a = (a, refl, refl)
ticked_at h u c m P f4 y a = (a, refl, refl)
ticked_at h u c m P l2 y a = (a, refl, refl)
ticked_at h u c m P b8 y a = (a, refl, refl)
ticked_at h u c m P i8 y a = (a, refl, refl)
ticked_at h u c m P i9 y a = (a, refl, refl)
ticked_at h u c m P i10 y a = (a, refl, refl)
ticked_at h u c m P d4a y a = (a, refl, refl)
ticked_at h u c m P d4b y a = (a, refl, refl)
ticked_at h u c m P d6 y a = (a, refl, refl)

ticked_fact : (h : Header) (u : ℕ) (c m : List ℕ) (P : ℕ → ℕ → ℕ → Type 0) (y : Worker) → y.place ≢ IDLE → Fact h u c m P y → Fact h u c m P (ticked y)
ticked_fact h u c m P y ne (inl e) = absurd (ne (rw e refl))
ticked_fact h u c m P y ne (inr b) =
    let t = ticked_at h u c m P b.spot y b.at in
    inr (record {
      spot = b.spot;
      place = b.place;
      sane = b.sane;
      held = λ z. rw t.1 (b.held (λ e. z (t.1 ∙ e)));
      dummy_held = λ z. rw t.2 (b.dummy_held (λ e. z (t.2 ∙ e)));
      at = t.0;
    })

ticked_hands : (y : Worker) → (held_key (ticked y) ≡ held_key y) × (held_dummy (ticked y) ≡ held_dummy y)
unfolding held_key held_dummy
ticked_hands y = (refl, refl)

busy_bit : (y : Worker) (b : ℕ) → y.place ≢ IDLE → Agrees y b → Agrees (ticked y) b
busy_bit y b ne (inl a) = absurd (ne a.0)
busy_bit y b ne (inr a) = inr a

module _ (s : Shared) (Ps Qs : Pasts) (c : List ℕ) (inv : InvOf s Ps c) where
  abbrev h : Header
  h = s.header

  -- a refusal other than 11 and 12
  abbrev Plainly : Answer → Type 0
  Plainly a = (refuses a ≡ true) × (number_of a ≢ number_of Short) × (number_of a ≢ number_of IsDamaged)

  -- a refused call
  unmade : (cl : Call) (w : ℕ) (a : Answer) (β' : ℕ → ℕ) → Plainly a → ((v : ℕ) → st.Grows (Ps v) (Qs v)) → Quiet h.m s.value β'
      → Made s Ps Qs cl a (laid (done_by s w (refused_with a (turn_of s w)) s.nodes none nothing) β') nothing
  unmade cl w a β' pl up quiet = record {
    chain = c;
    inv = rw (set_back s.workers w) (reread (regrown inv Qs up) quiet);
    change = unmoved;
    tale = refused (set_back s.workers w) refl pl.0 refl;
    sound = λ e. pl.2 (ap number_of e);
    long = λ e. pl.1 (ap number_of e);
    dummies = λ e. true≢false (sym pl.0 ∙ ap refuses e);
    sizes = (refl, refl, refl);
  }

  some_buckets : 0 < h.m
  some_buckets = omega (arith, inv.limits.buckets.0)

  fine : (w : ℕ) → w < h.w → worker_damaged h w (record_of s.workers w) ≡ false
  fine w lt = worker_sound h w c s.nodes (Ps w) (record_of s.workers w) (inv.fact w lt (omega arith)) (inv.bits w lt (omega arith)) some_buckets

  never : {A : Type 0} {t : Bool} → t ≡ false → t ≡ true → A
  never f t = absurd (true≢false (sym t ∙ f))

  -- what a call of a trace left is what the call does
  as_done : (cl : Call) (a : Answer) (ev : Event) (s' : Shared) (k : Called s cl a ev s')
      → Made s Ps Qs cl (done s cl).answer (laid (done s cl) s'.value) (done s cl).event → Made s Ps Qs cl a s' ev
  as_done cl a ev s' k m = rw (k.answer, k.event) (subst (λ (t : Shared). Made s Ps Qs cl (done s cl).answer t (done s cl).event) (sym (laid_is s' (done s cl) k.header k.workers k.nodes)) m)

  -- ---- a step
  module _ (w : ℕ) (up : (v : ℕ) → st.Grows (Ps v) (Qs v))
      (see : w < h.w → (worker_of s w).place ≢ IDLE → (n nx : ℕ) → In n c → link s.nodes n ≡ nx * 2 → Qs w n nx (key s.nodes n)) where
    -- that only counts
    pub paused : w < h.w → (worker_of s w).place ≢ IDLE → (s' : Shared) → s'.header ≡ h → s'.workers ≡ set s.workers w (ticked (worker_of s w)) → s'.nodes ≡ s.nodes
        → Quiet h.m s.value s'.value → Made s Ps Qs (step w) GoingOn s' nothing
    paused lt ne s' eh ew en quiet = record {
      chain = c;
      inv = rw (eh, ew, en) (reread (back (aside inv w lt) lt (ticked x) Qs (λ v _. up v)
          (ticked_fact h w c s.nodes (Qs w) x ne (grown h w c s.nodes (Ps w) (Qs w) (up w) x (inv.fact w lt (omega arith))))
          (busy_bit x (bit w h.busy) ne (inv.bits w lt (omega arith))) (ticked_hands x).0 (ticked_hands x).1) quiet);
      change = rw en unmoved;
      tale = goes w refl lt (ticked x) ew refl refl ne refl refl (inl (ap (λ (g : Header). g.count) eh, omega arith, omega arith));
      sound = λ q. let f : ◌≡◌ {A = ℕ} 0 1 = cc in omega arith;
      long = λ q. let f : ◌≡◌ {A = ℕ} 0 1 = cc in omega arith;
      dummies = λ q. let f : ◌≡◌ {A = ℕ} 0 1 = cc in omega arith;
      sizes = rw eh (refl, refl, refl);
    }
      where
        x : Worker
        x = worker_of s w

    D : Verdict → Done
    D v = step_done s w v

    M : (ℕ → ℕ) → Verdict → Type 0
    M β' v = Keeps h.m (D v).stores s.value β' → Made s Ps Qs (step w) (D v).answer (laid (D v) β') (D v).event

    refuses_step : (β' : ℕ → ℕ) (a : Answer) → Plainly a → M β' (Err a)
    unfolding M D
    refuses_step β' a pl = unmade (step w) w a β' pl up

    passes : (β' : ℕ → ℕ) → w < h.w → (worker_of s w).place ≢ IDLE → M β' (Ok tt)
    unfolding M D
    passes β' lt ne = by_fact (inv.fact w lt (omega arith)) (inv.bits w lt (omega arith))
      where
        by_fact : Fact h w c s.nodes (Ps w) (worker_of s w) → Agrees (worker_of s w) (bit w h.busy) → M β' (Ok tt)
        by_fact (inl e) ag = absurd (ne (rw e refl))
        by_fact (inr b) (inl a) = absurd (ne a.0)
        by_fact (inr b) (inr a) = by_move (decided (seen_at s w)) (decided_good z b)
            (effect_at (turn_of s w) (word_with (turn_of s w) s.nodes (s.value (asked_bucket (turn_of s w)))) (split_for (turn_of s w) s.nodes)).final (tallied z b)
          where
            z : Ctx h s.workers Ps Qs w c s.nodes s.value
            z = record { inv = inv; lt = lt; busy = a.1; others = λ v _. up v; mine = up w; see = see lt ne }

            by_move : (mv : Move) → Good z (took b.spot (worker_of s w).errand) mv → Final mv → IsTallied h (worker_of s w) mv
                → Keeps h.m (store_of mv) s.value β' → Made s Ps Qs (step w) (move_done s w mv).answer (laid (move_done s w mv) β') (taking (worker_of s w) mv)
            by_move Damaged g f ty k = absurd g
            by_move (Going y e) g f ty k = record {
              chain = g.chain;
              inv = reread (gone z (ticked y) (header_after e h) g.chain _ _ (rw (sized e h).2 lt) (rw (sized e h).3 a.1) g.next) (rw (sized e h).0 (by_laws h.m (stored_by e) s.value β' k));
              change = g.change;
              tale = goes w refl lt (ticked y) refl g.kind g.same_key ne
                  (turns (worker_of s w) (took b.spot (worker_of s w).errand) (took g.next.spot y.errand) (took_effect (worker_of s w)) (took_effect (ticked y)) (written (worker_of s w) e)
                  (took_is b.spot (worker_of s w) b.place) (took_is g.next.spot (ticked y) g.next.place) g.turned) refl ty.is;
              sound = λ q. let f : ◌≡◌ {A = ℕ} 0 1 = cc in omega arith;
              long = λ q. let f : ◌≡◌ {A = ℕ} 0 1 = cc in omega arith;
              dummies = λ q. let f : ◌≡◌ {A = ℕ} 0 1 = cc in omega arith;
              sizes = ((sized e h).0, (sized e h).1, (sized e h).2);
            }
            by_move (Ended an e) g f ty k = record {
              chain = g.chain;
              inv = reread g.after (rw (sized e h).0 (by_laws h.m (stored_by e) s.value β' k));
              change = rw g.none g.same;
              tale = ends w refl lt refl g.none ne (rw (took_is b.spot (worker_of s w) b.place) g.told) ty.is;
              sound = λ q. true≢false (sym (ap refuses q) ∙ f);
              long = λ q. true≢false (sym (ap refuses q) ∙ f);
              dummies = λ q. g.told.dummies (ap number_of q);
              sizes = ((sized e h).0, (sized e h).1, (sized e h).2);
            }

    -- whatever values keep the laws
    pub step_done_lem : (β' : ℕ → ℕ) → Keeps h.m (done s (step w)).stores s.value β'
        → Made s Ps Qs (step w) (done s (step w)).answer (laid (done s (step w)) β') (done s (step w)).event
    unfolding step_verdict M D pick
    step_done_lem β' = rw (header_sound inv, long_enough inv)
        (by_bool (M β') (leb h.w w) (λ _. refuses_step β' NoWorker (refl, omega arith, omega arith))
        (λ b. let lt : w < h.w = leb-false h.w w b in
        by_bool (M β') (worker_damaged h w (worker_of s w)) (λ d. never (fine w lt) d)
        (λ _. by_bool (M β') (eqb (worker_of s w).place IDLE)
        (λ _. refuses_step β' IsIdle (refl, omega arith, omega arith))
        (λ e. passes β' lt (eqb-false (worker_of s w).place IDLE e)))))

    pub step_made : (a : Answer) (ev : Event) (s' : Shared) → Next s (step w) a ev s' → Made s Ps Qs (step w) a s' ev
    step_made a ev s' (calls k) = as_done (step w) a ev s' k (step_done_lem s'.value k.values)
    step_made a ev s' (pause p) = rw (p.answer, p.event) (paused (rw same at p.real) (rw same at p.busy) s' p.header (rw same at p.workers) p.nodes p.values)
      where
        same : p.who ≡ w
        same = let q = p.call in cc

  -- ---- a start
  module _ (w kind k : ℕ) (upo : (v : ℕ) → v ≢ w → st.Grows (Ps v) (Qs v)) (upr : (done s (start w kind k)).answer ≢ GoingOn → st.Grows (Ps w) (Qs w)) where
    SD : Verdict → Done
    SD v = start_done s w kind k v

    SM : (ℕ → ℕ) → Verdict → Type 0
    SM β' v = done s (start w kind k) ≡ SD v → Made s Ps Qs (start w kind k) (SD v).answer (laid (SD v) β') nothing

    module _ (β' : ℕ → ℕ) (quiet : Quiet h.m s.value β') where
      refuses_start : (a : Answer) → Plainly a → SM β' (Err a)
      unfolding SM SD
      refuses_start a pl e = unmade (start w kind k) w a β' pl (λ v. grows v (ℕ_discrete v w)) quiet
        where
          grows : (v : ℕ) → Dec (v ≡ w) → st.Grows (Ps v) (Qs v)
          grows v (yes q) = rw q (upr (λ g. true≢false (sym pl.0 ∙ ap refuses (sym (ap (λ (d : Done). d.answer) e) ∙ g))))
          grows v (no ne) = upo v ne

      started : w < h.w → (INSERT ≤ kind) × (kind ≤ DELETE) → k ≤ KEY_LIMIT → (worker_of s w).place ≡ IDLE → SM β' (Ok tt)
      unfolding SM SD
      started lt known low rest e = record {
        chain = c;
        inv = reread (starts inv w kind k lt (by_fact (inv.fact w lt (omega arith))) known low Qs upo) quiet;
        change = unmoved;
        tale = begins w kind k refl lt refl refl refl refl (by_fact (inv.fact w lt (omega arith)));
        sound = λ q. let f : ◌≡◌ {A = ℕ} 0 1 = cc in omega arith;
        long = λ q. let f : ◌≡◌ {A = ℕ} 0 1 = cc in omega arith;
        dummies = λ q. let f : ◌≡◌ {A = ℕ} 0 1 = cc in omega arith;
        sizes = (refl, refl, refl);
      }
        where
          by_fact : Fact h w c s.nodes (Ps w) (worker_of s w) → worker_of s w ≡ idle
          by_fact (inl i) = i
          by_fact (inr b) = absurd (not_idle b.spot (sym b.place ∙ rest))

      verdict : Verdict
      verdict = start_verdict (turn_of s w) kind k (all_there s)

      known : (ltb kind INSERT || ltb DELETE kind) ≡ false → (INSERT ≤ kind) × (kind ≤ DELETE)
      known e = (clears_or (clears_lt kind INSERT) (clears_lt DELETE kind)).sound e

      by_rows : SM β' verdict
      unfolding start_verdict verdict
      by_rows = by_bool (SM β') (header_damaged h) (λ d. never (header_sound inv) d)
          (λ _. by_bool (SM β') (is_short h (all_there s)) (λ d. never (long_enough inv) d)
          (λ _. by_bool (SM β') (leb h.w w) (λ _. refuses_start NoWorker (refl, omega arith, omega arith))
          (λ b. by_bool (SM β') (ltb kind INSERT || ltb DELETE kind) (λ _. refuses_start NoKind (refl, omega arith, omega arith))
          (λ kn. by_bool (SM β') (ltb KEY_LIMIT k) (λ _. refuses_start KeyAbove (refl, omega arith, omega arith))
          (λ kl. let lt : w < h.w = leb-false h.w w b in
          by_bool (SM β') (worker_damaged h w (worker_of s w)) (λ d. never (fine w lt) d)
          (λ _. by_bool (SM β') (not (eqb (worker_of s w).place IDLE)) (λ _. refuses_start IsBusy (refl, omega arith, omega arith))
          (λ e. started lt (known kn) (ltb-false KEY_LIMIT k kl) (eqb-true (worker_of s w).place IDLE (not-false (eqb (worker_of s w).place IDLE) e)))))))))

      pub start_done_lem : Made s Ps Qs (start w kind k) (done s (start w kind k)).answer (laid (done s (start w kind k)) β') nothing
      unfolding SM SD verdict
      start_done_lem = by_rows refl

    pub start_made : (a : Answer) (ev : Event) (s' : Shared) → Next s (start w kind k) a ev s' → Made s Ps Qs (start w kind k) a s' ev
    start_made a ev s' (calls q) = as_done (start w kind k) a ev s' q (start_done_lem s'.value q.values)
    start_made a ev s' (pause p) = let q = p.call in let z : ◌≡◌ {A = ℕ} 0 1 = cc in absurd (omega arith)
