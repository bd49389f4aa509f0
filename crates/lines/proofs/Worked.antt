-- The scope paper's worked lines, byte for byte: the definitions compute to them.
-- Assumes nothing.
use mathlib.Core.Path.{◌≡◌, refl}
use mathlib.Core.List.{[], ◌∷◌}
use Rattle.choice.specs.Choice.{pick}
use Rattle.names.specs.declared.Answer.TheVariants.{Yes}
use Rattle.lines.specs.Decimal.{digits_in, decimal, signed}
use Rattle.lines.specs.Lines.{kind_word, answer_word, register_line, ended_line, refused_line, end_line}

-- `register 4 4 1 1`
pub register_4_4_1_1 : register_line 4 4 1 1 ≡ 114 ∷ 101 ∷ 103 ∷ 105 ∷ 115 ∷ 116 ∷ 101 ∷ 114 ∷ 32 ∷ 52 ∷ 32 ∷ 52 ∷ 32 ∷ 49 ∷ 32 ∷ 49 ∷ 10 ∷ []
unfolding register_line decimal digits_in pick
register_4_4_1_1 = refl

-- `0 insert 2 yes 7`
pub insert_2_yes_7 : ended_line 0 1 2 Yes 7 ≡ 48 ∷ 32 ∷ 105 ∷ 110 ∷ 115 ∷ 101 ∷ 114 ∷ 116 ∷ 32 ∷ 50 ∷ 32 ∷ 121 ∷ 101 ∷ 115 ∷ 32 ∷ 55 ∷ 10 ∷ []
unfolding ended_line kind_word answer_word decimal digits_in pick
insert_2_yes_7 = refl

-- `refused 14 6`
pub refused_14_6 : refused_line 14 6 ≡ 114 ∷ 101 ∷ 102 ∷ 117 ∷ 115 ∷ 101 ∷ 100 ∷ 32 ∷ 49 ∷ 52 ∷ 32 ∷ 54 ∷ 10 ∷ []
unfolding refused_line decimal digits_in pick
refused_14_6 = refl

-- `end 0 0 2`
pub end_0_0_2 : end_line 0 0 2 ≡ 101 ∷ 110 ∷ 100 ∷ 32 ∷ 48 ∷ 32 ∷ 48 ∷ 32 ∷ 50 ∷ 10 ∷ []
unfolding end_line signed decimal digits_in pick
end_0_0_2 = refl

-- `end 0 -1 2`: the count below zero
pub end_0_less_1_2 : end_line 0 4294967295 2 ≡ 101 ∷ 110 ∷ 100 ∷ 32 ∷ 48 ∷ 32 ∷ 45 ∷ 49 ∷ 32 ∷ 50 ∷ 10 ∷ []
unfolding end_line signed decimal digits_in pick
end_0_less_1_2 = refl
