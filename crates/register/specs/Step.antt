-- One step: look at one shared word, decide, and carry the decision out. What is shared by every layout of the buckets is handed the value of the bucket
-- that the place asks for, and says what is to be stored; over a table of bucket words the value is read there, and stored there.
use Rattle.std.specs.Prelude.{ℕ, ◌+◌, ◌<◌, List, eqb}
use Rattle.choice.specs.Choice.{pick}
use Rattle.tree.specs.Tree.{parent_of}
use Rattle.words.specs.Words.{Tables, Left, SPLIT_KEY, LINK, word, bucket}
use Rattle.scans.specs.Scans.{free_node}
use Rattle.names.specs.Names.{I1, TB, B2, B4, F1, F2, F3, F4, L2, D4A, D4B}
use Rattle.names.specs.declared.Answer.{Answer}
use Rattle.header.specs.declared.Header.{Header}
use Rattle.header.specs.Header.{nodes_of, dummies_of}
use Rattle.moves.specs.declared.Seen.{Seen}
use Rattle.record.specs.declared.Worker.{Worker}
use Rattle.acts.specs.declared.Move.{Move}
use Rattle.acts.specs.declared.Outcome.{Outcome}
use Rattle.acts.specs.Acts.{handed_back}
use Rattle.writes.specs.Carry.{closed_by, outcome_of, nodes_left, carried_by}
use Rattle.register.specs.declared.Turn.{Turn}

-- the header's numbers are small enough to add
pub record Small (h : Header) : Type 0 where
  pub sum : nodes_of h + 1 < 4294967296

-- a refused call hands header and record back as they came
abbrev pub refused_with : Answer → Turn → Outcome
refused_with a t = handed_back a t.header t.worker

-- ---- look: the shared word that the step reads at its place, or the free node of the sort (0 is none); v is the value of the bucket asked for
unfoldable pub word_given : ℕ → Turn → List ℕ → ℕ → ℕ
word_given p t ns v =
    let h = t.header in
    let x = t.worker in
    pick (eqb p I1) (free_node ns (dummies_of h + 1) (nodes_of h))
    (pick (eqb p TB) v
    (pick (eqb p B2) v
    (pick (eqb p B4) (free_node ns 1 (dummies_of h))
    (pick (eqb p F1) (word ns x.start LINK)
    (pick (eqb p F2) (word ns x.cur LINK)
    (pick (eqb p F3) (word ns x.prev LINK)
    (pick (eqb p F4) (word ns x.prev LINK)
    (pick (eqb p L2) (word ns x.prev LINK)
    (pick (eqb p D4A) (word ns x.cur LINK)
    (pick (eqb p D4B) (word ns x.prev LINK)
    0))))))))))

unfoldable pub word_with : Turn → List ℕ → ℕ → ℕ
word_with t ns v = word_given t.worker.place t ns v

-- at F3 the split key of cur is read in the same step
unfoldable pub split_for : Turn → List ℕ → ℕ
split_for t ns = pick (eqb t.worker.place F3) (word ns t.worker.cur SPLIT_KEY) 0

abbrev pub seen_with : Turn → List ℕ → ℕ → Seen
seen_with t ns v = record { header = t.header; worker = t.worker; word = word_with t ns v; split = split_for t ns }

-- the bucket whose value the place asks for: TB and B2 alone ask for one
unfoldable pub asked_at : ℕ → Worker → ℕ
asked_at p x = pick (eqb p TB) x.wanted (pick (eqb p B2) (parent_of x.making) 0)

unfoldable pub asked_bucket : Turn → ℕ
asked_bucket t = asked_at t.worker.place t.worker

-- ---- the worker's decision carried out: what it hands back, and what it leaves in the nodes, its operation closed up to the last node
abbrev pub hands_back : Turn → Move → Outcome
hands_back t d = outcome_of t.number t.header t.worker d

abbrev pub leaves_nodes : Turn → Move → List ℕ → List ℕ
leaves_nodes t d ns = nodes_left (nodes_of t.header) t.number t.worker d ns

abbrev pub closed : Turn → List ℕ → List ℕ
closed t ns = closed_by (nodes_of t.header) t.number t.worker ns

-- ---- over a table of bucket words: a bucket's value is its word
unfoldable pub word_at : ℕ → Turn → Tables → ℕ
word_at p t ts = word_given p t ts.nodes (bucket ts.buckets (asked_at p t.worker))

unfoldable pub word_for : Turn → Tables → ℕ
word_for t ts = word_at t.worker.place t ts

abbrev pub seen_by : Turn → Tables → Seen
seen_by t ts = record { header = t.header; worker = t.worker; word = word_for t ts; split = split_for t ts.nodes }

abbrev pub carried : Turn → Move → Tables → Left Outcome
carried t d ts = carried_by (nodes_of t.header) t.number t.header t.worker d ts
