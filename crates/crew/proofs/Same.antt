-- Each contract says what is handed back and what the three lent tables hold at exit as one definition of what was handed in, so two runs that meet it agree in all of it.
-- Assumes nothing.
use Prim.Native.Nat.{ℕ}
use mathlib.Core.Path.{◌≡◌, refl, sym, ap, ◌∙◌}
use mathlib.Core.List.{List}
use lib.Dec.{ltb}
use lib.ListN.{length}
use seplogic.Ra.Ura.{Ura}
use base.Logic.{SProp, ent, ex, ex_e, ex_i, via, snd∗}
use base.Fml.{Lft}
use prog.Memory.{Memory}
use prog.Routine.{Routine}
use types.Logic.{Logic, sem}
use contract.Monad.{Fun, fact}
use Rattle.std.proofs.Common.{MutBor}
use denote.Triple.Clauses.{ensured, lasts}
use Rattle.choice.proofs.Cases.{both}
use Rattle.header.specs.declared.Header.{Header}
use Rattle.record.specs.declared.Worker.{Worker}
use Rattle.prepare.specs.declared.Limits.{Limits}
use Rattle.words.specs.Words.{Tables, tables, Left, left}
use Rattle.acts.specs.declared.Called.{Called}
use Rattle.acts.specs.declared.Outcome.{Outcome}
use Rattle.register.specs.declared.Call.{Call}
use Rattle.register.specs.declared.Call.TheVariants.{Start}
use Rattle.crew.specs.contracts.prepare as prepare
use Rattle.crew.specs.contracts.serve as serve
use Rattle.crew.specs.Crew.{Crew, crew, one_call, call_at, serve_at, prepare_at}

-- ---- what each contract says, read off the contract itself: it leaves lists that the definition names
module _ {M : Type 1} {𝓤 : Ura M} (𝓛 : Logic 𝓤) (mem : Memory → SProp 𝓤) (run : Routine → Fun 𝓤) (κ κ₁ κ₂ : Lft) (x : MutBor (List Worker)) (x₁ x₂ : MutBor (List ℕ)) (header : Header) (r : Called) where
  abbrev Lists : Left Crew → List Worker × (List ℕ × List ℕ) → SProp 𝓤
  Lists l zs = fact 𝓤 (left (crew r zs.0) (tables zs.1.0 zs.1.1) ≡ l)

  abbrev Leaves : Left Crew → SProp 𝓤
  Leaves l = ex 𝓤 (Lists l)

  abbrev ts : Tables
  ts = tables x₁.now x₂.now

  pub serve_says : (w : ℕ) (call : Call) (most : ℕ) → ent 𝓤 (ensured 𝓛 serve.ended (serve.clauses 𝓛 mem run) (κ, (κ₁, (κ₂, tt))) (x, (w, (header, (call, (most, (x₁, (x₂, tt))))))) tt r) (Leaves (serve_at header x.now w call most ts))
  serve_says w call most = ex_e 𝓤 _ (λ zs. via 𝓤 _ (snd∗ 𝓤 (sem 𝓛 (lasts serve.ended (κ, (κ₁, (κ₂, tt))) (x, (w, (header, (call, (most, (x₁, (x₂, tt))))))) zs)) _) (ex_i 𝓤 (Lists (serve_at header x.now w call most ts)) (zs.0, (zs.1.1.1.1.1.0, zs.1.1.1.1.1.1.0))))

  pub prepare_says : (limits : Limits) → ent 𝓤 (ensured 𝓛 prepare.ended (prepare.clauses 𝓛 mem run) (κ, (κ₁, (κ₂, tt))) (x, (limits, (header, (x₁, (x₂, tt))))) tt r) (Leaves (prepare_at limits header x.now ts))
  prepare_says limits = ex_e 𝓤 _ (λ zs. via 𝓤 _ (snd∗ 𝓤 (sem 𝓛 (lasts prepare.ended (κ, (κ₁, (κ₂, tt))) (x, (limits, (header, (x₁, (x₂, tt))))) zs)) _) (ex_i 𝓤 (Lists (prepare_at limits header x.now ts)) (zs.0, (zs.1.1.1.0, zs.1.1.1.1.0))))

-- two calls over a lent table that leave the same: the same answer, steps and header, the same records, and the same words
abbrev pub Agree : Called → List Worker → Tables → Called → List Worker → Tables → Type 0
Agree r ws ts r' ws' ts' = (r ≡ r') × (ws ≡ ws') × (ts ≡ ts')

same : (l : Left Crew) (r r' : Called) (ws ws' : List Worker) (ts ts' : Tables) → left (crew r ws) ts ≡ l → left (crew r' ws') ts' ≡ l → Agree r ws ts r' ws' ts'
same l r r' ws ws' ts ts' p q =
    let e = p ∙ sym q in
    (ap (λ (k : Left Crew). k.out.called) e, ap (λ (k : Left Crew). k.out.workers) e, ap (λ (k : Left Crew). k.tables) e)

-- what is handed back and the tables at exit, where `prepare` meets its contract twice on the same arguments
pub prepare_same : (limits : Limits) (header : Header) (workers : List Worker) (lent : Tables) (r r' : Called) (ws ws' : List Worker) (ts ts' : Tables)
    → left (crew r ws) ts ≡ prepare_at limits header workers lent → left (crew r' ws') ts' ≡ prepare_at limits header workers lent → Agree r ws ts r' ws' ts'
prepare_same limits header workers lent = same (prepare_at limits header workers lent)

pub serve_same : (header : Header) (workers : List Worker) (w : ℕ) (call : Call) (most : ℕ) (lent : Tables) (r r' : Called) (ws ws' : List Worker) (ts ts' : Tables)
    → left (crew r ws) ts ≡ serve_at header workers w call most lent → left (crew r' ws') ts' ≡ serve_at header workers w call most lent → Agree r ws ts r' ws' ts'
serve_same header workers w call most lent = same (serve_at header workers w call most lent)

-- a start writes no lent word but those of the records
pub start_keeps : (header : Header) (workers : List Worker) (w kind key : ℕ) (lent : Tables) → (call_at header workers w (Start kind key) lent).tables ≡ lent
unfolding one_call
start_keeps header workers w kind key lent = both (λ (l : Left Outcome). l.tables ≡ lent) (ltb (length workers) header.w) refl refl
