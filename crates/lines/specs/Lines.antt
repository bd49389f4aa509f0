-- The lines that a schedule prints: words with one space between them, and one newline at the end.
use Rattle.std.specs.Prelude.{ℕ, Bool, ◌&&◌, ◌||◌, List, [], ◌∷◌, ◌++◌, eqb}
use Rattle.choice.specs.Choice.{pick}
use Rattle.names.specs.Names.{INSERT, FIND, DELETE, ends}
use Rattle.names.specs.declared.Answer.{Answer}
use Rattle.names.specs.declared.Answer.TheVariants.{Going, Yes, No, Limit, Short, Damaged, NoWorker, KeyAbove, IsBusy, IsIdle, NoKind, NoKeyNode, NoDummy}
use Rattle.lines.specs.declared.Line.{Line}
use Rattle.lines.specs.declared.Line.TheVariants.{Register, Ended, Refused, End}
use Rattle.lines.specs.Decimal.{decimal, signed}

-- words with one space between them, and a newline
abbrev pub line : List (List ℕ) → List ℕ
line [] = 10 ∷ []
line (w ∷ []) = w ++ (10 ∷ [])
line (w ∷ (v ∷ ws)) = w ++ (32 ∷ line (v ∷ ws))

-- `register`
abbrev pub REGISTER : List ℕ
REGISTER = 114 ∷ 101 ∷ 103 ∷ 105 ∷ 115 ∷ 116 ∷ 101 ∷ 114 ∷ []

-- `refused`
abbrev pub REFUSED : List ℕ
REFUSED = 114 ∷ 101 ∷ 102 ∷ 117 ∷ 115 ∷ 101 ∷ 100 ∷ []

-- `end`
abbrev pub END : List ℕ
END = 101 ∷ 110 ∷ 100 ∷ []

-- the kinds: `insert`, `find`, `delete`; another number has no word
unfoldable pub kind_word : ℕ → List ℕ
kind_word kind =
    pick (eqb kind INSERT) (105 ∷ 110 ∷ 115 ∷ 101 ∷ 114 ∷ 116 ∷ [])
    (pick (eqb kind FIND) (102 ∷ 105 ∷ 110 ∷ 100 ∷ [])
    (pick (eqb kind DELETE) (100 ∷ 101 ∷ 108 ∷ 101 ∷ 116 ∷ 101 ∷ []) []))

-- the answers of an ended operation: `yes`, `no`, `full` (18), `dummy` (19); another has no word
unfoldable pub answer_word : Answer → List ℕ
answer_word Going = []
answer_word Yes = 121 ∷ 101 ∷ 115 ∷ []
answer_word No = 110 ∷ 111 ∷ []
answer_word Limit = []
answer_word Short = []
answer_word Damaged = []
answer_word NoWorker = []
answer_word KeyAbove = []
answer_word IsBusy = []
answer_word IsIdle = []
answer_word NoKind = []
answer_word NoKeyNode = 102 ∷ 117 ∷ 108 ∷ 108 ∷ []
answer_word NoDummy = 100 ∷ 117 ∷ 109 ∷ 109 ∷ 121 ∷ []

-- the kind has a word
abbrev pub kind_named : ℕ → Bool
kind_named kind = eqb kind INSERT || (eqb kind FIND || eqb kind DELETE)

-- `register M K W L`
unfoldable pub register_line : ℕ → ℕ → ℕ → ℕ → List ℕ
register_line m k w l = line (REGISTER ∷ decimal m ∷ decimal k ∷ decimal w ∷ decimal l ∷ [])

-- `worker kind key answer steps`; nothing where the kind has no word or no operation ended
unfoldable pub ended_line : ℕ → ℕ → ℕ → Answer → ℕ → List ℕ
ended_line worker kind key answer steps =
    pick (kind_named kind && ends answer)
    (line (decimal worker ∷ kind_word kind ∷ decimal key ∷ answer_word answer ∷ decimal steps ∷ []))
    []

-- `refused number offset`
unfoldable pub refused_line : ℕ → ℕ → List ℕ
refused_line number offset = line (REFUSED ∷ decimal number ∷ decimal offset ∷ [])

-- `end keys count size`, the count signed
unfoldable pub end_line : ℕ → ℕ → ℕ → List ℕ
end_line keys count size = line (END ∷ decimal keys ∷ signed count ∷ decimal size ∷ [])

-- a line's text
abbrev pub line_text : Line → List ℕ
line_text (Register m k w l) = register_line m k w l
line_text (Ended worker kind key answer steps) = ended_line worker kind key answer steps
line_text (Refused number offset) = refused_line number offset
line_text (End keys count size) = end_line keys count size
