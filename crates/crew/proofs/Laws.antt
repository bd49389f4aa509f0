-- The register's own calls refuse a worker that is W or above, so past the table nothing changes; and a record that is stored back as it came changes nothing.
-- Assumes nothing.
use Prim.Native.Nat.{ℕ, zero, suc, ◌-◌, ◌≤◌, ◌<◌}
use native.Mathlib.Omega.{arith}
use native.Mathlib.Nat.{zero-add}
use native.Mathlib.Numerals.{add-one}
use mathlib.Core.Path.{◌≡◌, refl, sym, ap, ◌∙◌}
use mathlib.Core.Bool.{Bool, true, false}
use mathlib.Core.List.{List, ◌++◌}
use lib.Dec.{ltb}
use lib.ListN.{length, set, take, drop, replicate, length-set, length-replicate}
use lib.Seq.{paste, set-get_or, set-set, get_or-set_same}
use Rattle.std.proofs.lemmas.List.{length-take-le}
use Rattle.std.proofs.lemmas.List.Edits.{paste_all, fill_from_more}
use borrow.Author.Tests.{le-leb, le-ltb, lt-ltb, ltb-false, ne_eqb}
use Rattle.std.specs.Prelude.{Ok, Err}
use Rattle.choice.specs.Choice.{pick}
use Rattle.choice.proofs.Auto.{pick_false, pick_true}
use Rattle.choice.proofs.Cases.{by_bool, both}
use Rattle.words.specs.Words.{Tables, lengths, Left, left}
use Rattle.names.specs.Names.{goes_on}
use Rattle.names.specs.declared.Answer.{Answer}
use Rattle.names.specs.declared.Answer.TheVariants.{Going as GoingOn}
use Rattle.names.specs.Verdicts.{Verdict}
use Rattle.header.specs.declared.Header.{Header}
use Rattle.header.specs.Header.{limit_broken, missing}
use Rattle.record.specs.declared.Worker.{Worker}
use Rattle.record.specs.Worker.{idle}
use Rattle.acts.specs.declared.Called.{Called}
use Rattle.acts.specs.declared.Effect.{Effect}
use Rattle.acts.specs.declared.Effect.TheVariants.{Nothing, TakeKey, TakeDummy, Free, Aim, Place, Mark, Unlink, Store, Count, Size}
use Rattle.acts.specs.declared.Move.{Move}
use Rattle.acts.specs.declared.Move.TheVariants.{Damaged as Hurt, Going, Ended}
use Rattle.acts.specs.declared.Outcome.{Outcome}
use Rattle.acts.specs.Acts.{answered, handed_back}
use Rattle.moves.specs.Moves.{decided}
use Rattle.writes.specs.Writes.{header_after}
use Rattle.prepare.specs.declared.Limits.{Limits}
use Rattle.prepare.specs.Prepare.{fresh_header, too_few_for, prepared}
use Rattle.register.specs.declared.Call.{Call}
use Rattle.register.specs.declared.Call.TheVariants.{Start, Step}
use Rattle.register.specs.declared.Turn.{Turn}
use Rattle.register.specs.Step.{refused_with, seen_by, carried}
use Rattle.register.specs.Calls.{stepped_by, step_verdict, step_of}
use Rattle.register.proofs.Laws.{past_asked}
use Rattle.crew.specs.Crew.{Crew, crew, turn_at, one_call, stored, call_at, most_at, serve_at, filled, wants, prepare_one, made, prepare_at}
use Rattle.crew.specs.One.{turn, past_of, most_of, serve_one}

-- a write leaves the limits and the busy set as they are
pub sized : (e : Effect) (h : Header) → ((header_after e h).m ≡ h.m) × ((header_after e h).k ≡ h.k) × ((header_after e h).w ≡ h.w) × ((header_after e h).busy ≡ h.busy)
sized Nothing h = (refl, refl, refl, refl)
sized (TakeKey n split) h = (refl, refl, refl, refl)
sized (TakeDummy n split) h = (refl, refl, refl, refl)
sized (Free n) h = (refl, refl, refl, refl)
sized (Aim n next) h = (refl, refl, refl, refl)
sized (Place n next prev) h = (refl, refl, refl, refl)
sized (Mark n next) h = (refl, refl, refl, refl)
sized (Unlink prev next n busy) h = (refl, refl, refl, refl)
sized (Store b n) h = (refl, refl, refl, refl)
sized (Count v) h = (refl, refl, refl, refl)
sized (Size v) h = (refl, refl, refl, refl)

-- so a step leaves W
step_width : (t : Turn) (ts : Tables) → (step_of t ts).out.called.header.w ≡ t.header.w
unfolding step_of
step_width t ts = by_verdict (step_verdict t (lengths ts))
  where
    by_move : (d : Move) → (carried t d ts).out.called.header.w ≡ t.header.w
    by_move Hurt = refl
    by_move (Going y e) = (sized e t.header).2
    by_move (Ended a e) = (sized e t.header).2

    by_verdict : (v : Verdict) → (stepped_by t ts v).out.called.header.w ≡ t.header.w
    by_verdict (Err a) = refl
    by_verdict (Ok _) = by_move (decided (seen_by t ts))

call_width : (t : Turn) (few : Bool) (ts : Tables) → (one_call t few Step ts).out.called.header.w ≡ t.header.w
unfolding one_call
call_width t few ts = both (λ (l : Left Outcome). l.out.called.header.w ≡ t.header.w) few refl (step_width t ts)

-- ---- several steps: while a worker goes on its record is in the table, so one store at the end is enough
-- one turn of the loop, and its end: the last answer isn't 0, or no step is left
pub most_on : (w : ℕ) (few : Bool) (left : ℕ) (l : Left Outcome) → 0 < left → goes_on l.out.called.answer ≡ true
    → most_of w few left l ≡ most_of w few (left - 1) (one_call (turn l.out.called.header w l.out.worker) few Step l.tables)
unfolding most_of
most_on w few zero l h e = absurd (omega arith)
most_on w few (suc left) l h e =
    let one : suc left - 1 ≡ left = omega arith in
    pick_true _ _ _ e ∙ rw one

pub most_over : (w : ℕ) (few : Bool) (left : ℕ) (l : Left Outcome) → goes_on l.out.called.answer ≡ false → most_of w few left l ≡ l
unfolding most_of
most_over w few zero l e = refl
most_over w few (suc left) l e = pick_false _ _ _ e

pub most_none : (w : ℕ) (few : Bool) (l : Left Outcome) → most_of w few 0 l ≡ l
unfolding most_of
most_none w few l = refl

most_stop : (w most : ℕ) (l : Left Crew) → goes_on l.out.called.answer ≡ false → most_at w most l ≡ l
unfolding most_at
most_stop w zero l e = refl
most_stop w (suc most) l e = pick_false _ _ _ e

module _ (ws : List Worker) (w : ℕ) (within : w < length ws) (few : Bool) where
  -- the next step finds the record that was stored
  next_stored : (l : Left Outcome) → ltb (length ws) l.out.called.header.w ≡ few
      → call_at l.out.called.header (set ws w l.out.worker) w Step l.tables ≡ stored ws w (one_call (turn l.out.called.header w l.out.worker) few Step l.tables)
  next_stored l e =
      let x = l.out.worker in
      let b = one_call (turn l.out.called.header w x) few Step l.tables in
      rw (length-set ws w x, e, get_or-set_same ws w x idle within) (ap (λ (zs : List Worker). left (crew b.out.called zs) b.tables) (set-set ws w x b.out.worker))

  most_stored : (most : ℕ) (l : Left Outcome) → ltb (length ws) l.out.called.header.w ≡ few → stored ws w (most_of w few most l) ≡ most_at w most (stored ws w l)
  unfolding most_of most_at pick
  most_stored zero l e = refl
  most_stored (suc most) l e =
      by_test (goes_on l.out.called.answer) (most_stored most b (ap (ltb (length ws)) (call_width (turn l.out.called.header w l.out.worker) few l.tables) ∙ e))
    where
      b : Left Outcome
      b = one_call (turn l.out.called.header w l.out.worker) few Step l.tables

      by_test :
          (t : Bool) → stored ws w (most_of w few most b) ≡ most_at w most (stored ws w b)
          → stored ws w (pick t (most_of w few most b) l)
          ≡ pick t (most_at w most (call_at l.out.called.header (set ws w l.out.worker) w Step l.tables)) (stored ws w l)
      by_test true ih = ih ∙ ap (most_at w most) (sym (next_stored l e))
      by_test false ih = refl

-- a worker or its record that there is not ends what was asked for
missing_stops : (h : Header) (few : Bool) (ts : Tables) → goes_on (missing h few (lengths ts)) ≡ false
unfolding missing
missing_stops h few ts = both (λ (a : Answer). goes_on a ≡ false) _ refl (both (λ (a : Answer). goes_on a ≡ false) _ refl refl)

module _ (h : Header) (ws : List Worker) (w : ℕ) (ts : Tables) where
  abbrev t : Turn
  t = turn_at h ws w

  abbrev few : Bool
  few = ltb (length ws) h.w

  -- a record that is stored back as it came changes nothing
  as_it_was : (a : Answer) → stored ws w (left (refused_with a t) ts) ≡ left (crew (answered a h) ws) ts
  as_it_was a = ap (λ (zs : List Worker). left (crew (answered a h) zs) ts) (set-get_or ws w idle)

  -- a worker past the table
  far_call : (c : Call) → length ws ≤ w → one_call t few c ts ≡ left (refused_with (missing h few (lengths ts)) t) ts
  unfolding one_call
  far_call c l = by_bool (λ (z : Left Outcome). z ≡ left (refused_with (missing h few (lengths ts)) t) ts) few (λ _. refl)
      (λ e. past_asked t c ts (le-leb h.w w (omega (arith, l, ltb-false (length ws) h.w e))) ∙ ap (λ (b : Bool). left (refused_with (missing h b (lengths ts)) t) ts) (sym e))

  call_past : (c : Call) → length ws ≤ w → left (crew (answered (missing h few (lengths ts)) h) ws) ts ≡ call_at h ws w c ts
  call_past c l = sym (as_it_was (missing h few (lengths ts))) ∙ ap (stored ws w) (sym (far_call c l))

  pub serve_past : (c : Call) (most : ℕ) → length ws ≤ w → left (crew (past_of h c most (length ws) (lengths ts)) ws) ts ≡ serve_at h ws w c most ts
  unfolding past_of most_at pick
  serve_past (Start kind key) most l = call_past (Start kind key) l
  serve_past Step zero l = refl
  serve_past Step (suc most) l = rw (ne_eqb (suc most) 0 (λ e. omega arith)) (sym (most_stop w most _ (missing_stops h few ts)) ∙ ap (most_at w most) (call_past Step l))

  -- the record is in the table: what is done with it in hand, stored back
  pub serve_in : (c : Call) (most : ℕ) → w < length ws → (o : Outcome) (us : Tables) → left o us ≡ serve_one t (length ws) c most ts
      → left (crew o.called (set ws w o.worker)) us ≡ serve_at h ws w c most ts
  serve_in (Start kind key) most l o us e = ap (stored ws w) e
  serve_in Step most l o us e =
      ap (stored ws w) e ∙ most_stored ws w l few most (left (handed_back GoingOn h t.worker) ts) refl ∙ ap (most_at w most) (as_it_was GoingOn)

-- filling keeps the length, and filling none changes nothing
pub filled_length : (n : ℕ) (x : Worker) (ws : List Worker) → length (filled n x ws) ≡ length ws
unfolding filled
filled_length zero x ws = refl
filled_length (suc n) x ws = length-set (filled n x ws) n x ∙ filled_length n x ws

pub filled_none : (x : Worker) (ws : List Worker) → filled 0 x ws ≡ ws
unfolding filled
filled_none x ws = refl

pub none_for : (l : Limits) → goes_on (too_few_for l) ≡ false
unfolding too_few_for
none_for l = both (λ (a : Answer). goes_on a ≡ false) (limit_broken (fresh_header l)) refl refl

-- filled, the first n are x and the others as they were
filled_paste : (n : ℕ) (x : Worker) (ws : List Worker) → n ≤ length ws → filled n x ws ≡ paste ws 0 (replicate n x) n
unfolding filled
filled_paste zero x ws h = refl
filled_paste (suc n) x ws h =
    rw (filled_paste n x ws (omega arith))
    (ap (λ (k : ℕ). set (paste ws 0 (replicate n x) n) k x) (sym (zero-add n)) ∙ fill_from_more ws 0 n x (omega arith) ∙
    ap (λ (k : ℕ). paste ws 0 (replicate k x) k) (add-one n))

pub filled_front : (n : ℕ) (x : Worker) (ws : List Worker) → n ≤ length ws → filled n x ws ≡ replicate n x ++ drop n ws
filled_front n x ws h = filled_paste n x ws h ∙ paste_all ws 0 (replicate n x) n (sym (length-replicate n x)) ∙ rw (zero-add n) refl

-- none is wanted where what preparing answers isn't 0, and else W idle ones
none_wanted : (w : ℕ) (ws : List Worker) (c : Called) (us : Tables) → goes_on c.answer ≡ false → left (crew c ws) us ≡ made ws (left (wants w c) us)
none_wanted w ws c us g = ap (λ (zs : List Worker). left (crew c zs) us) (sym (filled_none idle ws) ∙ ap (λ (n : ℕ). filled n idle ws) (sym (pick_false _ w 0 g)))

all_wanted : (w : ℕ) (ws : List Worker) (c : Called) (us : Tables) → w ≤ length ws → goes_on c.answer ≡ true
    → left (crew c (replicate w idle ++ drop w ws)) us ≡ made ws (left (wants w c) us)
all_wanted w ws c us enough g =
    ap (λ (zs : List Worker). left (crew c zs) us) (sym (filled_front w idle ws enough) ∙ ap (λ (n : ℕ). filled n idle ws) (sym (pick_true _ w 0 g)))

module _ (l : Limits) (h : Header) (ws : List Worker) (ts : Tables) where
  -- fewer records than W
  pub prepare_few : length ws < l.w → left (crew (answered (too_few_for l) h) ws) ts ≡ prepare_at l h ws ts
  unfolding prepare_one
  prepare_few f = none_wanted l.w ws (answered (too_few_for l) h) ts (none_for l) ∙ ap (made ws) (sym (pick_true _ _ _ (lt-ltb (length ws) l.w f)))

  -- enough of them
  module _ (enough : l.w ≤ length ws) (c : Called) (us : Tables) (e : left c us ≡ prepared l h ts) where
    wanted : made ws (left (wants l.w c) us) ≡ prepare_at l h ws ts
    unfolding prepare_one
    wanted =
        ap (λ (p : Left Called). made ws (left (wants l.w p.out) p.tables)) e ∙ ap (made ws) (sym (pick_false _ _ _ (le-ltb (length ws) l.w enough)))

    -- the first W records are idle, as many as there are of them
    pub prepare_done : goes_on c.answer ≡ true → left (crew c (replicate (length (take l.w ws)) idle ++ drop l.w ws)) us ≡ prepare_at l h ws ts
    prepare_done g = rw (length-take-le l.w ws enough) (all_wanted l.w ws c us enough g ∙ wanted)

    pub prepare_none : goes_on c.answer ≡ false → left (crew c ws) us ≡ prepare_at l h ws ts
    prepare_none g = none_wanted l.w ws c us g ∙ wanted
