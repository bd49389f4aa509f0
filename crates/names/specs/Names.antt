-- The scope paper's names: places, errands, kinds, and the number and the class of each answer.
use Rattle.std.specs.Prelude.{ℕ, ◌≤◌, Bool, true, false, not, ◌||◌, ◌⊎◌, ◌↔◌, ◌≡◌}
use Rattle.names.specs.declared.Answer.{Answer}
use Rattle.names.specs.declared.Answer.TheVariants.{Going, Yes, No, Limit, Short, Damaged, NoWorker, KeyAbove, IsBusy, IsIdle, NoKind, NoKeyNode, NoDummy}

-- ---- places, by the labels of the paper's steps
abbrev pub IDLE : ℕ
IDLE = 0

abbrev pub I1 : ℕ
I1 = 1

abbrev pub SZ : ℕ
SZ = 2

abbrev pub TB : ℕ
TB = 3

abbrev pub B2 : ℕ
B2 = 4

abbrev pub B4 : ℕ
B4 = 5

abbrev pub F1 : ℕ
F1 = 6

abbrev pub F2 : ℕ
F2 = 7

abbrev pub F3 : ℕ
F3 = 8

abbrev pub F4 : ℕ
F4 = 9

abbrev pub L2 : ℕ
L2 = 10

abbrev pub B8 : ℕ
B8 = 11

abbrev pub I8 : ℕ
I8 = 12

abbrev pub I9 : ℕ
I9 = 13

abbrev pub I10 : ℕ
I10 = 14

abbrev pub D4A : ℕ
D4A = 15

abbrev pub D4B : ℕ
D4B = 16

abbrev pub D6 : ℕ
D6 = 17

-- ---- errands: the operation's own key, a dummy that is being made, a delete's one search more
abbrev pub KEY : ℕ
KEY = 0

abbrev pub DUMMY : ℕ
DUMMY = 1

abbrev pub EXTRA : ℕ
EXTRA = 2

-- ---- kinds of operation
abbrev pub INSERT : ℕ
INSERT = 1

abbrev pub FIND : ℕ
FIND = 2

abbrev pub DELETE : ℕ
DELETE = 3

-- ---- the largest key: figure 2 sets bit 31
abbrev pub KEY_LIMIT : ℕ
KEY_LIMIT = 2147483647

-- ---- the ceiling of a record's steps
abbrev pub CEILING : ℕ
CEILING = 4294967295

-- ---- the number of each answer, in the paper's table
abbrev pub number_of : Answer → ℕ
number_of Going = 0
number_of Yes = 1
number_of No = 2
number_of Limit = 10
number_of Short = 11
number_of Damaged = 12
number_of NoWorker = 13
number_of KeyAbove = 14
number_of IsBusy = 15
number_of IsIdle = 16
number_of NoKind = 17
number_of NoKeyNode = 18
number_of NoDummy = 19

-- ---- the class of each answer
-- "All the others from 10 on change no word and return header and record as they came"
abbrev pub refuses : Answer → Bool
refuses Going = false
refuses Yes = false
refuses No = false
refuses Limit = true
refuses Short = true
refuses Damaged = true
refuses NoWorker = true
refuses KeyAbove = true
refuses IsBusy = true
refuses IsIdle = true
refuses NoKind = true
refuses NoKeyNode = false
refuses NoDummy = false

-- an operation ends with yes or no, and "18 and 19 end the operation as above"
abbrev pub ends : Answer → Bool
ends Going = false
ends Yes = true
ends No = true
ends Limit = false
ends Short = false
ends Damaged = false
ends NoWorker = false
ends KeyAbove = false
ends IsBusy = false
ends IsIdle = false
ends NoKind = false
ends NoKeyNode = true
ends NoDummy = true

-- "going on; started, stepped or prepared"
abbrev pub goes_on : Answer → Bool
goes_on a = not (refuses a || ends a)

-- an answer with a row of its own, said exactly when: each that refuses, and 18 and 19, which end an operation for want of a node
abbrev pub has_row : Answer → Bool
has_row Going = false
has_row Yes = false
has_row No = false
has_row Limit = true
has_row Short = true
has_row Damaged = true
has_row NoWorker = true
has_row KeyAbove = true
has_row IsBusy = true
has_row IsIdle = true
has_row NoKind = true
has_row NoKeyNode = true
has_row NoDummy = true

-- the classes by the paper's numbers
abbrev pub ClassesByNumber : Type 0
ClassesByNumber =
    (a : Answer) →
    let n = number_of a in
    ((refuses a ≡ true) ↔ ((10 ≤ n) × (n ≤ 17)))
    × ((ends a ≡ true) ↔ ((n ≡ 1) ⊎ (n ≡ 2) ⊎ (n ≡ 18) ⊎ (n ≡ 19)))
    × ((goes_on a ≡ true) ↔ (n ≡ 0))
    × ((has_row a ≡ true) ↔ (10 ≤ n))
