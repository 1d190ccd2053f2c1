-- The two readings of a number, plain and strict, by what the plain one finds. Assumes nothing.
use Rattle.numbers.proofs.{Prelude.{ℕ, ◌≤◌, le-leb, length, Bool, true, false, List, ◌≡◌, sym, ap}, varint.Reading.{none_there}}
use Rattle.numbers.specs.{Answer.{Answer, found, failed, refused}, Varint.{Numeral, numeral, forward_at, is_complete, whole_of, reading_of}}

-- a number that was found, as the strict reading has it
module _ (file : List ℕ) {answer : Answer Numeral} {number : Numeral} (is : answer ≡ found number) where
  pub kept : is_complete file number ≡ true → found number ≡ whole_of file answer
  unfolding whole_of
  kept e = rw (is, e)

  pub cut : is_complete file number ≡ false → refused 31 ≡ whole_of file answer
  unfolding whole_of
  cut e = rw (is, e)

module _ (file : List ℕ) (place : ℕ) where
  pub by_strict : {strict : Bool} {answer : Answer Numeral} → strict ≡ true → answer ≡ whole_of file (forward_at file place) → answer ≡ reading_of strict file place
  unfolding reading_of
  by_strict e a = rw e a

  pub by_plain : {strict : Bool} {answer : Answer Numeral} → strict ≡ false → answer ≡ forward_at file place → answer ≡ reading_of strict file place
  unfolding reading_of
  by_plain e a = rw e a

  -- no number is none in both
  pub none_read : (strict : Bool) → length file ≤ place → failed ≡ reading_of strict file place
  unfolding reading_of whole_of
  none_read true h = sym (ap (whole_of file) (none_there file place h))
  none_read false h = sym (none_there file place h)

  -- and a number that the file holds is the same in both
  pub read_both : (strict : Bool) {value next : ℕ} → numeral value next ≡ forward_at file place → next ≤ length file → numeral value next ≡ reading_of strict file place
  unfolding reading_of whole_of
  read_both true {value} {next} e h = rw (← e, le-leb next (length file) h)
  read_both false e h = e
