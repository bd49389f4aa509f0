-- Two runs that decide alike store the same values in the same words, and closing makes of the same standings the same standings.
-- Assumes nothing.
use Prim.Native.Nat.{ℕ, zero, suc, ◌≤◌}
use mathlib.Core.Logic.{inl, inr, ◌≢◌}
use mathlib.Core.Path.{◌≡◌, refl}
use native.Mathlib.Decide.{dec_le, dec_lt}
use native.Mathlib.Omega.{arith}
use Rattle.std.specs.Prelude.{Ok, Err}
use Rattle.names.specs.declared.Answer.{Answer}
use Rattle.header.specs.declared.Header.{Header}
use Rattle.header.specs.Header.{nodes_of}
use Rattle.acts.specs.declared.Effect.{Effect}
use Rattle.acts.specs.declared.Move.{Move}
use Rattle.acts.specs.declared.Move.TheVariants.{Damaged, Going, Ended}
use Rattle.moves.specs.Moves.{decided}
use Rattle.register.specs.declared.Turn.{Turn}
use Rattle.names.specs.Verdicts.{Verdict}
use Rattle.words.specs.Words.{Tables, lengths, Left}
use Rattle.acts.specs.declared.Outcome.{Outcome}
use Rattle.writes.specs.Writes.{tables_after}
use Rattle.register.specs.Step.{seen_by, carried}
use Rattle.register.specs.Calls.{stepped_by, step_verdict, step_of}
use Rattle.promises.specs.Access.{Word, of_node, of_bucket, split_key, link, standing, value, Lent, Long, Alike, Agree, Reads, SameStandings, EndsOperation}
use Rattle.promises.specs.OneAccess.{value_in, SameStep, WritesSame}
use Rattle.promises.proofs.Stores.{stores, effect_stores}
use Rattle.promises.proofs.InRange.{InRange, pass_range}
use Rattle.promises.proofs.Effects.{AlikeAt, effect_length, all_alike, agreed, closed_apart, closed_same}
use Rattle.promises.proofs.ReadsOnly.{reads_only}
use Rattle.promises.proofs.WritesOnly.{beyond}

effect_long : (h : Header) (e : Effect) (ts : Tables) → Long h ts → Long h (tables_after e ts)
effect_long h e ts l =
    let k = effect_length e ts in
    record { nodes = omega arith; buckets = omega arith }

is_lent : (h : Header) (v : Word) → Dec (Lent h v)
is_lent h (of_node n p) = dec_le n (nodes_of h)
is_lent h (of_bucket b) = dec_lt b h.m

module _ (t : Turn) (ts us : Tables) (l : Long t.header ts) (m : Long t.header us) where
  -- the word is alike once the two runs have left these tables
  abbrev Same : Word → Left Outcome → Left Outcome → Type 0
  Same v a b = Alike (value v ts) (value v us) (value_in v a) (value_in v b)

  effect_alike :
      (e : Effect) (v : Word) → Lent t.header v
      → AlikeAt v ts us (tables_after e ts) (tables_after e us)
  effect_alike e v lent =
      rw (effect_stores e ts, effect_stores e us)
      (all_alike t.header (stores e) v ts us lent l m)

  -- closing leaves a word that is no standing
  kept_alike :
      InRange t.header t.worker → (a : Answer) (e : Effect) (v : Word) → Lent t.header v → ((i : ℕ) → 1 ≤ i → v ≢ of_node i standing)
      → Same v (carried t (Ended a e) ts) (carried t (Ended a e) us)
  kept_alike r a e v lent far = rw (kept ts, kept us) (effect_alike e v lent)
    where
      kept : (vs : Tables) → value_in v (carried t (Ended a e) vs) ≡ value v (tables_after e vs)
      kept vs = closed_apart t r v (tables_after e vs) (λ i low high. far i low)

  -- and makes of the same standings the same
  ended_alike :
      SameStandings t.header ts us → InRange t.header t.worker → (a : Answer) (e : Effect) (v : Word) → Lent t.header v
      → Same v (carried t (Ended a e) ts) (carried t (Ended a e) us)
  ended_alike same r a e (of_node n split_key) lent = kept_alike r a e (of_node n split_key) lent (λ i low q. let z : ◌≡◌ {A = ℕ} 0 1 = cc in omega arith)
  ended_alike same r a e (of_node n link) lent = kept_alike r a e (of_node n link) lent (λ i low q. let z : ◌≡◌ {A = ℕ} 0 1 = cc in omega arith)
  ended_alike same r a e (of_node zero standing) lent = kept_alike r a e (of_node zero standing) lent (λ i low q. let z : zero ≡ i = cc in omega arith)
  ended_alike same r a e (of_node (suc n) standing) lent =
      inr
      (closed_same t (suc n) (tables_after e ts) (tables_after e us) (omega arith) lent
      (effect_long t.header e ts l) (effect_long t.header e us m)
      (agreed _ _ _ _ (same (suc n) (omega arith) lent) (effect_alike e (of_node (suc n) standing) lent)))
  ended_alike same r a e (of_bucket b) lent = kept_alike r a e (of_bucket b) lent (λ i low q. let z : ◌≡◌ {A = ℕ} 0 1 = cc in omega arith)

  carried_alike :
      InRange t.header t.worker → (d : Move) → (EndsOperation d → SameStandings t.header ts us) → (v : Word) → Lent t.header v
      → Same v (carried t d ts) (carried t d us)
  carried_alike r Damaged same v lent = inl (refl, refl)
  carried_alike r (Going x e) same v lent = effect_alike e v lent
  carried_alike r (Ended a e) same v lent = ended_alike (same tt) r a e v lent

  lent_alike :
      Agree (Reads t) t.header ts us → (EndsOperation (decided (seen_by t ts)) → SameStandings t.header ts us) → (v : Word) → Lent t.header v
      → Same v (step_of t ts) (step_of t us)
  unfolding step_of
  lent_alike agree same v lent = rw (← runs.verdict) (go (step_verdict t (lengths ts)) refl)
    where
      runs : SameStep t ts us
      runs = reads_only t ts us agree

      go : (d : Verdict) → step_verdict t (lengths ts) ≡ d → Same v (stepped_by t ts d) (stepped_by t us d)
      go (Err a) e = inl (refl, refl)
      go (Ok _) e = rw (← runs.decision) (carried_alike (pass_range t (lengths ts) e) (decided (seen_by t ts)) same v lent)

pub writes_same : WritesSame
writes_same t ts us agree l m same v = by_lent (is_lent t.header v)
  where
    by_lent : Dec (Lent t.header v) → Same t ts us l m v (step_of t ts) (step_of t us)
    by_lent (yes lent) = lent_alike t ts us l m agree same v lent
    by_lent (no past) = inl (beyond t ts v past, beyond t us v past)
