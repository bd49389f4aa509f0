-- Each contract says its result as one definition of the arguments, so two results that meet it are equal; of a returned part of the input it says the bytes.
-- Assumes nothing.
use Prim.Native.Nat.{ℕ}
use mathlib.Core.Path.{◌≡◌, sym, ap, ◌∙◌}
use mathlib.Core.List.{List}
use seplogic.Ra.Ura.{Ura}
use base.Logic.{SProp, ent, ex_e, snd∗}
use base.Fml.{Lft}
use prog.Memory.{Memory}
use prog.Routine.{Routine}
use types.Logic.{Logic, sem}
use contract.Monad.{Fun, fact}
use denote.Ref.{Bor}
use denote.Triple.Clauses.{ensured, lasts}
use Rattle.choice.proofs.Same.{Determined}
use Rattle.script.specs.declared.Reader.{Reader}
use Rattle.script.specs.Script.{body_at}
use Rattle.script.proofs.record_at.Reads as record-at
use Rattle.script.proofs.record_at.Kinds as record-at-kinds
use Rattle.script.proofs.KindTryFromU8.try_from.Reads as try_from
use Rattle.script.proofs.KindTryFromU8.try_from.Kinds as try_from-kinds
use Rattle.script.specs.contracts.Reader.at as reader_at
use Rattle.script.specs.contracts.Reader.body as body
use Rattle.script.specs.contracts.body_of as body_of

pub try_from_same : Determined 0 try_from-kinds.ps try_from-kinds.r try_from.Post
try_from_same κs a x y e f p q = p ∙ sym q

pub record_at_same : Determined 1 record-at-kinds.ps record-at-kinds.r record-at.Post
record_at_same κs a x y e f p q = p ∙ sym q

-- ---- what each contract says of its result, read off the contract itself
module _ {M : Type 1} {𝓤 : Ura M} (𝓛 : Logic 𝓤) (mem : Memory → SProp 𝓤) (run : Routine → Fun 𝓤) (κ : Lft) where
  pub at_says : (s : Bor (List ℕ)) (n : ℕ) (r : Reader) → ent 𝓤 (ensured 𝓛 reader_at.ended (reader_at.clauses 𝓛 mem run) (κ, tt) (s, (n, tt)) tt r) (fact 𝓤 ((r.input ≡ s) × (r.at ≡ n)))
  at_says s n r = ex_e 𝓤 _ (λ ws. snd∗ 𝓤 (sem 𝓛 (lasts reader_at.ended (κ, tt) (s, (n, tt)) ws)) (fact 𝓤 ((r.input ≡ s) × (r.at ≡ n))))

  pub body_says : (d : Reader) (r : Bor (List ℕ)) → ent 𝓤 (ensured 𝓛 body.ended (body.clauses 𝓛 mem run) (κ, tt) (d, tt) tt r) (fact 𝓤 (r.now ≡ body_at d.input.now d.at))
  body_says d r = ex_e 𝓤 _ (λ ws. snd∗ 𝓤 (sem 𝓛 (lasts body.ended (κ, tt) (d, tt) ws)) (fact 𝓤 (r.now ≡ body_at d.input.now d.at)))

  pub body_of_says : (s : Bor (List ℕ)) (n : ℕ) (r : Bor (List ℕ)) → ent 𝓤 (ensured 𝓛 body_of.ended (body_of.clauses 𝓛 mem run) (κ, tt) (s, (n, tt)) tt r) (fact 𝓤 (r.now ≡ body_at s.now n))
  body_of_says s n r = ex_e 𝓤 _ (λ ws. snd∗ 𝓤 (sem 𝓛 (lasts body_of.ended (κ, tt) (s, (n, tt)) ws)) (fact 𝓤 (r.now ≡ body_at s.now n)))

-- ---- two results of which that is said
-- a reader of its fields
abbrev reader : Bor (List ℕ) → ℕ → Reader
reader i n = record { input = i; at = n }

-- two readers with the same fields
one_reader : (x y : Reader) → x.input ≡ y.input → x.at ≡ y.at → x ≡ y
one_reader x y e f = ap (λ (i : Bor (List ℕ)). reader i x.at) e ∙ ap (reader y.input) f

pub at_same : (s : Bor (List ℕ)) (n : ℕ) (x y : Reader) → (x.input ≡ s) × (x.at ≡ n) → (y.input ≡ s) × (y.at ≡ n) → x ≡ y
at_same s n x y p q = one_reader x y (p.0 ∙ sym q.0) (p.1 ∙ sym q.1)

pub body_same : (d : Reader) (x y : Bor (List ℕ)) → x.now ≡ body_at d.input.now d.at → y.now ≡ body_at d.input.now d.at → x.now ≡ y.now
body_same d x y p q = p ∙ sym q

pub body_of_same : (s : Bor (List ℕ)) (n : ℕ) (x y : Bor (List ℕ)) → x.now ≡ body_at s.now n → y.now ≡ body_at s.now n → x.now ≡ y.now
body_of_same s n x y p q = p ∙ sym q
