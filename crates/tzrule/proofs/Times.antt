-- A number, by its digits. Assumes nothing.
use Rattle.numbers.proofs.Prelude.{ℕ, ◌+◌, ◌≤◌, ◌<◌, lt-ltb, le-ltb, length, List, ◌≡◌, ap, ◌∙◌, arith}
use Rattle.tzrule.proofs.Numbers.{past_end}
use Rattle.tzrule.specs.{Answer.{read, fault}, Grammar.{ranged, number_of}, Text.{byte_at, digits_of}, declared.number.{Digits.{Digits}, Shape.{Shape}}}

-- the four ways of a number
module _ (shape : Shape) (text : List ℕ) (at : ℕ) {digits : Digits} (e : digits ≡ digits_of shape.most text at 0) where
  plain : ranged shape at digits ≡ number_of shape text at
  unfolding number_of
  plain = ap (ranged shape at) e

  pub number_short : digits.next < at + shape.least → fault digits.next ≡ number_of shape text at
  unfolding ranged
  number_short h = (let s : fault digits.next ≡ ranged shape at digits = simp (lt-ltb digits.next (at + shape.least) h) in s) ∙ plain

  pub number_low : at + shape.least ≤ digits.next → digits.value < shape.low → fault at ≡ number_of shape text at
  unfolding ranged
  number_low h k = (let s : fault at ≡ ranged shape at digits = simp (le-ltb digits.next (at + shape.least) h, lt-ltb digits.value shape.low k) in s) ∙ plain

  pub number_high : at + shape.least ≤ digits.next → shape.low ≤ digits.value → shape.high < digits.value → fault at ≡ number_of shape text at
  unfolding ranged
  number_high h k l = (let s : fault at ≡ ranged shape at digits = simp
      (le-ltb digits.next (at + shape.least) h, le-ltb digits.value shape.low k, lt-ltb shape.high digits.value l) in s) ∙ plain

  pub number_read : at + shape.least ≤ digits.next → shape.low ≤ digits.value → digits.value ≤ shape.high → read digits.value digits.next ≡ number_of shape text at
  unfolding ranged
  number_read h k l = (let s : read digits.value digits.next ≡ ranged shape at digits = simp
      (le-ltb digits.next (at + shape.least) h, le-ltb digits.value shape.low k, le-ltb shape.high digits.value l) in s) ∙ plain

-- where a byte stands that is not 0, the text goes on
pub byte_inside : (text : List ℕ) (at : ℕ) → 0 < byte_at text at → at + 1 ≤ length text
byte_inside text at b = let past : length text ≤ at → ⊥ = λ h. omega (arith, past_end text at h) in omega arith
