-- Document 03's example sentence and plain lines, and a request for each refusal and rule of places, worked by computation.
use Rattle.numbers.{proofs.Prelude.{ℕ, binary32, ℤ, pos, List, [], ◌∷◌, map, ◌≡◌, refl}, specs.Reply.{Reply, given, refused}}
use lib.Ieee.{to_bits, round}
use Rattle.calendar.specs.{Calendar.{is_leap, year_length, days_of_years, month_length, days_of_months, day_number}, Moments.{seconds_to, instant_of}}
use Rattle.request.specs.{Clock.{is_date, is_time, time_of, full_year, date_of, moment_of, seconds_of, when_of, instant_at}, Number.{spelled, value_from, part_of, has_form, angle_of, side_of}}
use Rattle.request.specs.{Number.{decimal_of, degrees_of, nearest_to}, Request.{is_sealed, is_mode, turned, fix_of, fields_of, sentence_of, plain_of, spelt_of, meaning, request_of}}
use Rattle.request.specs.{Text.{formed, until, behind, unblanked}, declared.read.Fix.{Fix}}

-- latitude and longitude as bits, and the instant; or number and detail
pub data Worked : Type 0 where
  fix : ℕ → ℕ → ℤ → Worked
  not : ℕ → ℕ → Worked

shown_as : Reply Fix → Worked
shown_as (given f) = fix (to_bits binary32 f.lat) (to_bits binary32 f.lon) f.instant
shown_as (refused why) = not why.number why.detail

-- a request and what document 03 says of it
pub record Row : Type 0 where
  pub text : List ℕ
  pub says : Worked

pub computed : Row → Row
computed row = record { text = row.text; says = shown_as (request_of row.text) }

row : List ℕ → Worked → Row
row text says = record { text = text; says = says }

pub worked : List Row
worked =
    -- the sentence of document 03
    row (36 ∷ 71 ∷ 78 ∷ 82 ∷ 77 ∷ 67 ∷ 44 ∷ 49 ∷ 49 ∷ 53 ∷ 57 ∷ 53 ∷ 57 ∷ 46 ∷ 48 ∷ 48 ∷ 44 ∷ 65 ∷ 44 ∷ 53 ∷ 50 ∷ 51 ∷ 49 ∷ 46 ∷ 50 ∷ 48 ∷ 48 ∷ 48 ∷ 48 ∷ 48 ∷ 44 ∷ 78 ∷ 44 ∷ 48 ∷ 49 ∷ 51 ∷
    50 ∷ 52 ∷ 46 ∷ 48 ∷ 48 ∷ 48 ∷ 48 ∷ 48 ∷ 48 ∷ 44 ∷ 69 ∷ 44 ∷ 48 ∷ 46 ∷ 48 ∷ 44 ∷ 48 ∷ 46 ∷ 48 ∷ 44 ∷ 48 ∷ 49 ∷ 48 ∷ 55 ∷ 50 ∷ 54 ∷ 44 ∷ 44 ∷ 44 ∷ 65 ∷ 42 ∷ 52 ∷ 49 ∷ [])
    (fix 1112675451 1096181350 (pos 1782907199))
    -- its plain lines
    ∷ row (53 ∷ 50 ∷ 46 ∷ 53 ∷ 50 ∷ 32 ∷ 49 ∷ 51 ∷ 46 ∷ 52 ∷ 48 ∷ 32 ∷ 50 ∷ 48 ∷ 50 ∷ 54 ∷ 45 ∷ 48 ∷ 55 ∷ 45 ∷ 48 ∷ 49 ∷ 84 ∷ 49 ∷ 49 ∷ 58 ∷ 53 ∷ 57 ∷ 58 ∷ 53 ∷ 57 ∷ 90 ∷ [])
    (fix 1112675451 1096181350 (pos 1782907199))
    ∷ row (53 ∷ 50 ∷ 46 ∷ 53 ∷ 50 ∷ 32 ∷ 49 ∷ 51 ∷ 46 ∷ 52 ∷ 48 ∷ 32 ∷ 49 ∷ 55 ∷ 56 ∷ 50 ∷ 57 ∷ 48 ∷ 55 ∷ 49 ∷ 57 ∷ 57 ∷ []) (fix 1112675451 1096181350 (pos 1782907199))
    -- south and west are below zero, and a line end is not part of it
    ∷ row (36 ∷ 71 ∷ 80 ∷ 82 ∷ 77 ∷ 67 ∷ 44 ∷ 48 ∷ 48 ∷ 48 ∷ 48 ∷ 48 ∷ 48 ∷ 44 ∷ 65 ∷ 44 ∷ 48 ∷ 48 ∷ 48 ∷ 48 ∷ 46 ∷ 53 ∷ 44 ∷ 83 ∷ 44 ∷ 48 ∷ 48 ∷ 48 ∷ 48 ∷ 48 ∷ 46 ∷ 53 ∷ 44 ∷ 87 ∷ 44 ∷ 44 ∷
    44 ∷ 48 ∷ 49 ∷ 48 ∷ 49 ∷ 56 ∷ 48 ∷ 42 ∷ 49 ∷ 65 ∷ 13 ∷ 10 ∷ []) (fix 3154675849 3154675849 (pos 315532800))
    -- of zero it is +0
    ∷ row (45 ∷ 48 ∷ 32 ∷ 43 ∷ 48 ∷ 46 ∷ 48 ∷ 32 ∷ 48 ∷ []) (fix 0 0 (pos 0))
    -- an empty request
    ∷ row (13 ∷ 10 ∷ []) (not 80 0)
    -- a wrong digit of the checksum
    ∷ row (36 ∷ 71 ∷ 78 ∷ 82 ∷ 77 ∷ 67 ∷ 44 ∷ 49 ∷ 49 ∷ 53 ∷ 57 ∷ 53 ∷ 57 ∷ 46 ∷ 48 ∷ 48 ∷ 44 ∷ 65 ∷ 44 ∷ 53 ∷ 50 ∷ 51 ∷ 49 ∷ 46 ∷ 50 ∷ 48 ∷ 48 ∷ 48 ∷ 48 ∷ 48 ∷ 44 ∷ 78 ∷ 44 ∷ 48 ∷ 49 ∷ 51 ∷
    50 ∷ 52 ∷ 46 ∷ 48 ∷ 48 ∷ 48 ∷ 48 ∷ 48 ∷ 48 ∷ 44 ∷ 69 ∷ 44 ∷ 48 ∷ 46 ∷ 48 ∷ 44 ∷ 48 ∷ 46 ∷ 48 ∷ 44 ∷ 48 ∷ 49 ∷ 48 ∷ 55 ∷ 50 ∷ 54 ∷ 44 ∷ 44 ∷ 44 ∷ 65 ∷ 42 ∷ 52 ∷ 50 ∷ []) (not 82 66)
    -- another sentence
    ∷ row (36 ∷ 71 ∷ 80 ∷ 71 ∷ 71 ∷ 65 ∷ 44 ∷ 49 ∷ 49 ∷ 53 ∷ 57 ∷ 53 ∷ 57 ∷ 42 ∷ 55 ∷ 65 ∷ []) (not 83 0)
    -- too few fields: the place of the star
    ∷ row (36 ∷ 71 ∷ 80 ∷ 82 ∷ 77 ∷ 67 ∷ 44 ∷ 49 ∷ 49 ∷ 53 ∷ 57 ∷ 53 ∷ 57 ∷ 44 ∷ 65 ∷ 42 ∷ 48 ∷ 65 ∷ []) (not 80 15)
    -- status V
    ∷ row (36 ∷ 71 ∷ 80 ∷ 82 ∷ 77 ∷ 67 ∷ 44 ∷ 44 ∷ 86 ∷ 44 ∷ 44 ∷ 44 ∷ 44 ∷ 44 ∷ 44 ∷ 44 ∷ 48 ∷ 49 ∷ 48 ∷ 55 ∷ 50 ∷ 54 ∷ 42 ∷ 51 ∷ 51 ∷ []) (not 81 0)
    -- a mode that is no fix
    ∷ row (36 ∷ 71 ∷ 80 ∷ 82 ∷ 77 ∷ 67 ∷ 44 ∷ 49 ∷ 49 ∷ 53 ∷ 57 ∷ 53 ∷ 57 ∷ 44 ∷ 65 ∷ 44 ∷ 53 ∷ 50 ∷ 51 ∷ 49 ∷ 44 ∷ 78 ∷ 44 ∷ 48 ∷ 49 ∷ 51 ∷ 50 ∷ 52 ∷ 44 ∷ 69 ∷ 44 ∷ 44 ∷ 44 ∷ 48 ∷ 49 ∷ 48 ∷
    55 ∷ 50 ∷ 54 ∷ 44 ∷ 44 ∷ 44 ∷ 83 ∷ 42 ∷ 54 ∷ 49 ∷ []) (not 81 0)
    -- a leap second is out of range: the place of its field
    ∷ row (36 ∷ 71 ∷ 80 ∷ 82 ∷ 77 ∷ 67 ∷ 44 ∷ 50 ∷ 51 ∷ 53 ∷ 57 ∷ 54 ∷ 48 ∷ 44 ∷ 65 ∷ 44 ∷ 53 ∷ 50 ∷ 51 ∷ 49 ∷ 44 ∷ 78 ∷ 44 ∷ 48 ∷ 49 ∷ 51 ∷ 50 ∷ 52 ∷ 44 ∷ 69 ∷ 44 ∷ 44 ∷ 44 ∷ 48 ∷ 49 ∷ 48 ∷
    55 ∷ 50 ∷ 54 ∷ 42 ∷ 49 ∷ 53 ∷ []) (not 84 7)
    -- a letter that is no side
    ∷ row (36 ∷ 71 ∷ 80 ∷ 82 ∷ 77 ∷ 67 ∷ 44 ∷ 49 ∷ 49 ∷ 53 ∷ 57 ∷ 53 ∷ 57 ∷ 44 ∷ 65 ∷ 44 ∷ 53 ∷ 50 ∷ 51 ∷ 49 ∷ 44 ∷ 69 ∷ 44 ∷ 48 ∷ 49 ∷ 51 ∷ 50 ∷ 52 ∷ 44 ∷ 69 ∷ 44 ∷ 44 ∷ 44 ∷ 48 ∷ 49 ∷ 48 ∷
    55 ∷ 50 ∷ 54 ∷ 42 ∷ 49 ∷ 53 ∷ []) (not 80 21)
    -- past the pole
    ∷ row (57 ∷ 48 ∷ 46 ∷ 48 ∷ 48 ∷ 48 ∷ 48 ∷ 48 ∷ 48 ∷ 48 ∷ 48 ∷ 49 ∷ 32 ∷ 48 ∷ 32 ∷ 48 ∷ []) (not 84 0)
    -- a missing word: the line's end
    ∷ row (49 ∷ 32 ∷ 50 ∷ []) (not 80 3)
    -- a fourth word: its place
    ∷ row (49 ∷ 32 ∷ 50 ∷ 32 ∷ 51 ∷ 32 ∷ 32 ∷ 52 ∷ []) (not 80 7)
    -- blanks behind the third word: the line's end
    ∷ row (49 ∷ 32 ∷ 50 ∷ 32 ∷ 51 ∷ 32 ∷ []) (not 80 6)
    ∷ []

-- the definitions and the document agree on every row
pub worked_hold : map computed worked ≡ worked
unfolding worked computed row is_time shown_as formed until behind unblanked spelled value_from part_of has_form angle_of side_of decimal_of degrees_of
    nearest_to is_date time_of full_year date_of moment_of seconds_of when_of instant_at is_sealed is_mode turned fix_of fields_of sentence_of plain_of
    spelt_of meaning request_of is_leap year_length days_of_years month_length days_of_months day_number seconds_to instant_of to_bits round
worked_hold = refl
