-- A number below 2 ^ 32 has at most ten digits, so each line of such numbers has at most 64 bytes.
-- Assumes nothing.
use Prim.Native.Nat.{ℕ, ◌-◌, ◌^◌, ◌≤◌, ◌<◌}
use mathlib.Core.Bool.{Bool, true, false, false≢true, ◌&&◌}
use mathlib.Core.Path.{◌≡◌}
use mathlib.Core.List.{List}
use native.Mathlib.Omega.{arith}
use lib.ListN.{length, length-append}
use Rattle.choice.proofs.Cases.{by_bool, both, by_lt}
use Rattle.names.specs.Names.{ends}
use Rattle.names.specs.declared.Answer.{Answer}
use Rattle.names.proofs.Classes.{by_ending}
use Rattle.lines.specs.Decimal.{decimal, signed}
use Rattle.lines.specs.Lines.{kind_word, answer_word, kind_named, register_line, ended_line, refused_line, end_line}
use Rattle.lines.proofs.Digits.{decimal_length}

-- the digits of a 32-bit number
pub word_length : (n : ℕ) → n < 2 ^ 32 → length (decimal n) ≤ 10
word_length n h = decimal_length 10 n (omega arith) (omega arith)

-- the digits of a 64-bit number
pub long_length : (n : ℕ) → n < 2 ^ 64 → length (decimal n) ≤ 20
long_length n h = decimal_length 20 n (omega arith) (omega arith)

-- a signed 32-bit number
pub signed_length : (n : ℕ) → n < 2 ^ 32 → length (signed n) ≤ 11
unfolding signed
signed_length n h =
    by_lt (λ (ds : List ℕ). length ds ≤ 11) n 2147483648
    (λ _. omega (arith, word_length n h))
    (λ g. omega (arith, word_length (4294967296 - n) (omega arith)))

-- the words of kinds
kind_length : (kind : ℕ) → length (kind_word kind) ≤ 6
unfolding kind_word
kind_length kind = both (λ (w : List ℕ). length w ≤ 6) _ (omega arith) (both (λ (w : List ℕ). length w ≤ 6) _ (omega arith) (both (λ (w : List ℕ). length w ≤ 6) _ (omega arith) (omega arith)))

-- the words of answers that end an operation
answer_length : (a : Answer) → ends a ≡ true → length (answer_word a) ≤ 5
unfolding answer_word
answer_length = by_ending (λ (a : Answer). length (answer_word a) ≤ 5) (omega arith) (omega arith) (omega arith) (omega arith)

second : (s t : Bool) → s && t ≡ true → t ≡ true
second true t e = e
second false t e = absurd (false≢true e)

pub register_length : (m k w l : ℕ) → m < 2 ^ 32 → k < 2 ^ 32 → w < 2 ^ 32 → l < 2 ^ 32 → length (register_line m k w l) ≤ 53
unfolding register_line
register_length m k w l hm hk hw hl = simp length-append (omega (arith, word_length m hm, word_length k hk, word_length w hw, word_length l hl))

pub ended_length : (worker kind key : ℕ) (answer : Answer) (steps : ℕ) → worker < 2 ^ 32 → key < 2 ^ 32 → steps < 2 ^ 32 → length (ended_line worker kind key answer steps) ≤ 46
unfolding ended_line
ended_length worker kind key answer steps hw hk hs =
    by_bool (λ (text : List ℕ). length text ≤ 46) (kind_named kind && ends answer)
    (λ e. simp length-append (omega (arith, word_length worker hw, kind_length kind, word_length key hk, answer_length answer (second (kind_named kind) (ends answer) e), word_length steps hs)))
    (λ _. omega arith)

pub refused_length : (number offset : ℕ) → number < 2 ^ 32 → offset < 2 ^ 64 → length (refused_line number offset) ≤ 40
unfolding refused_line
refused_length number offset hn ho = simp length-append (omega (arith, word_length number hn, long_length offset ho))

pub end_length : (keys count size : ℕ) → keys < 2 ^ 32 → count < 2 ^ 32 → size < 2 ^ 32 → length (end_line keys count size) ≤ 38
unfolding end_line
end_length keys count size hk hc hs = simp length-append (omega (arith, word_length keys hk, signed_length count hc, word_length size hs))
