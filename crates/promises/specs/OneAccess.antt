-- "One step is one shared access with the private work that follows": what that says of the step.
use Rattle.std.specs.Prelude.{ℕ, ◌*◌, ◌≤◌, ◌≡◌, length, get_or}
use Rattle.header.specs.Header.{nodes_of}
use Rattle.moves.specs.Moves.{decided}
use Rattle.register.specs.declared.Turn.{Turn}
use Rattle.words.specs.Words.{Tables, lengths, Left}
use Rattle.acts.specs.declared.Outcome.{Outcome}
use Rattle.register.specs.Step.{word_for, seen_by}
use Rattle.register.specs.Calls.{step_verdict, step_of}
use Rattle.promises.specs.Access.{Word, value, Reads, Agree, Long, Alike, SameStandings, EndsOperation, Writes, Closes}

-- what stands in the word after a step
abbrev pub value_in : Word → Left Outcome → ℕ
value_in v l = value v l.tables

-- two runs are refused alike, decide alike, and give the same answer, steps, header and record
pub record SameStep (t : Turn) (ts us : Tables) : Type 0 where
  pub verdict : step_verdict t (lengths ts) ≡ step_verdict t (lengths us)
  pub decision : decided (seen_by t ts) ≡ decided (seen_by t us)
  pub out : (step_of t ts).out ≡ (step_of t us).out

-- a step reads the words of its place alone: where two pairs of tables agree on them, the runs are the same
abbrev pub ReadsOnly : Type 0
ReadsOnly = (t : Turn) (ts us : Tables) → Agree (Reads t) t.header ts us → SameStep t ts us

-- and they store the same; where the operation ends, closing reads the standings of the nodes 1 to N as well
abbrev pub WritesSame : Type 0
WritesSame =
    (t : Turn) (ts us : Tables) → Agree (Reads t) t.header ts us → Long t.header ts → Long t.header us
    → (EndsOperation (decided (seen_by t ts)) → SameStandings t.header ts us)
    → (v : Word) → Alike (value v ts) (value v us) (value_in v (step_of t ts)) (value_in v (step_of t us))

-- a step writes the words of its place alone, and where the operation ends standings of the nodes 1 to N
abbrev pub WritesOnly : Type 0
WritesOnly =
    (t : Turn) (ts : Tables) (v : Word) → (Writes t (word_for t ts) v → ⊥) → (Closes t.header (decided (seen_by t ts)) v → ⊥)
    → value_in v (step_of t ts) ≡ value v ts

-- "Words beyond these are never touched": past 3N node words and M bucket words, and no table grows or shrinks
pub record BeyondKept (t : Turn) (ts : Tables) : Type 0 where
  pub nodes : (i : ℕ) → nodes_of t.header * 3 ≤ i → get_or (step_of t ts).tables.nodes i 0 ≡ get_or ts.nodes i 0
  pub buckets : (b : ℕ) → t.header.m ≤ b → get_or (step_of t ts).tables.buckets b 0 ≡ get_or ts.buckets b 0
  pub nodes_length : length (step_of t ts).tables.nodes ≡ length ts.nodes
  pub buckets_length : length (step_of t ts).tables.buckets ≡ length ts.buckets
