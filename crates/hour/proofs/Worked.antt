-- A line, computed. Assumes nothing.
use Rattle.numbers.proofs.Prelude.{pos, negsuc, [], ◌∷◌, ◌≡◌, refl}
use Rattle.hour.specs.Line.{clock_text, signed_text, hour_line, refused_line}
use Rattle.line.specs.{Clock.{date_text, time_text, shown}, Put.{decimal, decimal_of}}
use Rattle.tzif.specs.Reply.{refusal}

-- "hour 2026-07-01 13:59:59 3 7200 1 CEST"
pub worked_line : hour_line (record { year = 2026; month = 7; day = 1; hour = 13; minute = 59; second = 59; weekday = 3 }) (record { offset = pos 7200; daylight = 1; length = 4 })
    (67 ∷ 69 ∷ 83 ∷ 84 ∷ []) ≡ 104 ∷ 111 ∷ 117 ∷ 114 ∷ 32 ∷ 50 ∷ 48 ∷ 50 ∷ 54 ∷ 45 ∷ 48 ∷ 55 ∷ 45 ∷ 48 ∷ 49 ∷ 32 ∷ 49 ∷ 51 ∷ 58 ∷ 53 ∷ 57 ∷ 58 ∷ 53 ∷ 57 ∷ 32 ∷
    51 ∷ 32 ∷ 55 ∷ 50 ∷ 48 ∷ 48 ∷ 32 ∷ 49 ∷ 32 ∷ 67 ∷ 69 ∷ 83 ∷ 84 ∷ 10 ∷ []
unfolding hour_line clock_text date_text time_text signed_text shown decimal decimal_of
worked_line = refl

-- "-18000"
pub worked_west : signed_text (negsuc 17999) ≡ 45 ∷ 49 ∷ 56 ∷ 48 ∷ 48 ∷ 48 ∷ []
unfolding signed_text decimal decimal_of
worked_west = refl

-- "refused 60 685"
pub worked_refusal : refused_line (refusal 60 685) ≡ 114 ∷ 101 ∷ 102 ∷ 117 ∷ 115 ∷ 101 ∷ 100 ∷ 32 ∷ 54 ∷ 48 ∷ 32 ∷ 54 ∷ 56 ∷ 53 ∷ 10 ∷ []
unfolding refused_line decimal decimal_of
worked_refusal = refl
