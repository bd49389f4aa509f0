-- The run is that of the program: what a call that met its contract handed back, and left in the lent words, is the run's next state.
-- Assumes nothing.
use Prim.Native.Nat.{ℕ}
use mathlib.Core.List.{List}
use mathlib.Core.Path.{◌≡◌, refl, sym, ap, ◌∙◌}
use contract.Lifetimes.{Lfts}
use denote.Triple.Clauses.{AtExit}
use borrow.Fn.Kinds.{Dens, res_t, ended_of}
use Rattle.names.specs.declared.Answer.TheVariants.{Going}
use Rattle.header.specs.declared.Header.{Header}
use Rattle.record.specs.declared.Worker.{Worker}
use Rattle.prepare.specs.declared.Limits.{Limits}
use Rattle.choice.specs.Choice.{pick}
use Rattle.words.specs.Words.{Tables, tables, Left, left}
use Rattle.acts.specs.declared.Called.{Called}
use Rattle.register.specs.declared.Call.{Call as Asked}
use Rattle.register.specs.declared.Call.TheVariants.{Start, Step}
use Rattle.crew.specs.Crew.{Crew, crew, most_at, serve_at}
use Rattle.bank.proofs.prepare.Reads as prepare
use Rattle.bank.proofs.prepare.Kinds as prepare-kinds
use Rattle.bank.proofs.serve.Reads as serve
use Rattle.bank.proofs.serve.Kinds as serve-kinds
use Rattle.story.specs.Shared.{Call, start, step}
use Rattle.story.specs.Run.{State, state_of, leaves, prepares, answer, state}

-- the state that a call leaves, of what it handed back and the tables at exit
abbrev pub handed : Called → List Worker → Tables → State
handed r ws ts = state_of (left (crew r ws) ts)

-- the run's answer, and the run's next state
abbrev pub IsNext : State → Call → Called → List Worker → Tables → Type 0
IsNext s c r ws ts = (r.answer ≡ answer s c) × (handed r ws ts ≡ state_of (leaves s c))

-- whatever meets the equation of a call's contract gives them
pub is_next : (s : State) (c : Call) (r : Called) (ws : List Worker) (ts : Tables) → left (crew r ws) ts ≡ leaves s c → IsNext s c r ws ts
is_next s c r ws ts p = (ap (λ (l : Left Crew). l.out.called.answer) p, ap state_of p)

-- what a call was lent
abbrev pub lent : Header → List Worker → Tables → State
lent h ws ts = record { header = h; workers = ws; tables = ts }

-- the first state of every run with these calls, over these limits and what was lent
abbrev pub IsFirst : Limits → State → State → Type 0
IsFirst l s t = (fresh : (prepares l s).out.called.answer ≡ Going) × ((call : ℕ → Call) → t ≡ state (record { limits = l; lent = s; fresh = fresh; call = call }) 0)

-- a preparing that met its contract and answered Going leaves the first state of a run
pub prepare_is_first : (κs : Lfts 2) (a : Dens κs prepare-kinds.ps) (x : (res_t prepare-kinds.r κs).Denot) (e : AtExit (ended_of 2 prepare-kinds.ps prepare-kinds.r) κs)
    → prepare.Post κs a x e → x.called.answer ≡ Going
    → IsFirst a.1.0 (lent a.1.1.0 a.0 (tables a.1.1.1.0.now a.1.1.1.1.0.now)) (handed x.called x.workers (tables e.1.1.1.0.now e.1.1.1.1.0.now))
prepare_is_first κs a x e p g = (sym (ap (λ (l : Left Crew). l.out.called.answer) p) ∙ g, λ call. ap state_of p)

-- the worker of a call, and what it is called for
abbrev pub served : Call → ℕ
served (start w kind key) = w
served (step w) = w

abbrev pub asked : Call → Asked
asked (start w kind key) = Start kind key
asked (step w) = Step

-- serving the worker, a step once, leaves what the run's call leaves
serve_leaves : (s : State) (c : Call) → serve_at s.header s.workers (served c) (asked c) 1 s.tables ≡ leaves s c
unfolding most_at pick
serve_leaves s (start w kind key) = refl
serve_leaves s (step w) = refl

-- a call that met its contract, a start or a step
pub serve_is_next : (κs : Lfts 2) (a : Dens κs serve-kinds.ps) (x : (res_t serve-kinds.r κs).Denot) (e : AtExit (ended_of 2 serve-kinds.ps serve-kinds.r) κs) (c : Call)
    → a.1.0 ≡ served c → a.1.1.1.0 ≡ asked c → a.1.1.1.1.0 ≡ 1 → serve.Post κs a x e
    → IsNext (lent a.1.1.0 a.0 (tables a.1.1.1.1.1.0.now a.1.1.1.1.1.1.0.now)) c x.called x.workers (tables e.1.1.1.1.1.0.now e.1.1.1.1.1.1.0.now)
serve_is_next κs a x e c who what once p =
    let before = tables a.1.1.1.1.1.0.now a.1.1.1.1.1.1.0.now in
    is_next _ c x.called x.workers (tables e.1.1.1.1.1.0.now e.1.1.1.1.1.1.0.now)
    (p ∙ rw (who, what, once) (serve_leaves (lent a.1.1.0 a.0 before) c))
