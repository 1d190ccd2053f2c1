-- How the date and time of day of an instant go over to C.
use Rattle.std.specs.Prelude.{Option, Some, None, ◌∷◌, ◌≡◌}
use Rattle.numbers.specs.Prelude.{ℕ, ℤ, List, []}
use Rattle.calendar.specs.{Civil.{CivilOf}, declared.civil.Reading.{Reading}}

-- 0, or 61 outside the years 1 to 9999
unfoldable pub civil_number : Option Reading → ℕ
civil_number (Some reading) = 0
civil_number None = 61

-- seven words, zeros where it is refused
unfoldable pub civil_words : Option Reading → List ℕ
civil_words (Some reading) = reading.year ∷ reading.month ∷ reading.day ∷ reading.hour ∷ reading.minute ∷ reading.second ∷ reading.weekday ∷ []
civil_words None = 0 ∷ 0 ∷ 0 ∷ 0 ∷ 0 ∷ 0 ∷ 0 ∷ []

-- what the call leaves is what a clock shows
pub record CivilSpoken (instant offset : ℤ) (number : ℕ) (words : List ℕ) : Type 0 where
  pub civil : Option Reading
  pub is : CivilOf instant offset civil
  pub number_is : number ≡ civil_number civil
  pub words_are : words ≡ civil_words civil
