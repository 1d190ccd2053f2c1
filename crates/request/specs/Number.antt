-- Numbers that digits spell, degrees as exact fractions, and the f32 nearest to one.
use Rattle.std.specs.Prelude.{◌+◌, ◌-◌, ◌*◌, ◌^◌, ◌&&◌, ◌||◌, ◌∷◌, if◌then◌else◌}
use Rattle.numbers.specs.Prelude.{ℕ, eqb, leb, Float, binary32, fin, pos, length, take, drop, get_or, Bool, true, false, List, []}
use Rattle.numbers.specs.Answer.{Answer, found, failed, refused, ◌>>=◌}
use Rattle.std.specs.Float.Ieee.{round}
pub use Rattle.request.specs.declared.degrees.Ratio.{Ratio as Size}
use Rattle.request.specs.Text.{is_digit, digits, formed, until}

-- what bytes spell: nothing where they have not the form, 84 where they have it but are out of range
unfoldable pub spelled : {A : Type 0} → Bool → Bool → A → Answer A
spelled form range a = if form then (if range then found a else refused 84) else failed

-- ---- digits
-- what a digit counts; any other byte counts nothing
abbrev pub digit_of : ℕ → ℕ
digit_of byte = if is_digit byte then byte - 48 else 0

-- the decimal number of the digits, behind those that made a number
unfoldable pub value_from : ℕ → List ℕ → ℕ
value_from n [] = n
value_from n (byte ∷ more) = value_from (10 * n + digit_of byte) more

abbrev pub value_of : List ℕ → ℕ
value_of = value_from 0

-- the number of so many digits from a place on
unfoldable pub part_of : ℕ → ℕ → List ℕ → ℕ
part_of from n text = value_of (take n (drop from text))

-- nothing, or a point and one digit to so many
abbrev pub is_tail : ℕ → List ℕ → Bool
is_tail most text = eqb (length text) 0 || (eqb (get_or text 0 0) 46 && leb 2 (length text) && leb (length text - 1) most && digits (drop 1 text))

-- so many digits, and behind them nothing, or a point and one digit to so many
unfoldable pub has_form : ℕ → ℕ → List ℕ → Bool
has_form width most text = leb width (length text) && digits (take width text) && is_tail most (drop width text)

-- ---- degrees
-- a size is num / den; with its sign it is a fraction
pub record Fraction : Type 0 where
  pub minus : Bool
  pub size : Size

-- degrees of so many digits and minutes of two, or those, a point and one digit to nine: minutes below 60, and at most so many degrees
unfoldable pub angle_of : ℕ → ℕ → List ℕ → Answer Size
angle_of width limit text =
    let decimals = drop (width + 3) text in
    let den = 60 * 10 ^ length decimals in
    let num = part_of 0 width text * den + value_from (part_of width 2 text) decimals in
    spelled (has_form (width + 2) 9 text) (leb (part_of width 2 text) 59 && leb num (limit * den)) (record { num = num; den = den })

-- the letter of one side or of the other: is it the minus side?
unfoldable pub side_of : ℕ → ℕ → List ℕ → Answer Bool
side_of plus minus text = if formed (plus ∷ []) text then found false else if formed (minus ∷ []) text then found true else failed

-- one digit to three, and optionally a point and one digit to nine; at most so many
unfoldable pub decimal_of : ℕ → List ℕ → Answer Size
decimal_of limit text =
    let whole = length (until 46 46 text) in
    let decimals = drop (whole + 1) text in
    let den = 10 ^ length decimals in
    let num = value_from (part_of 0 whole text) decimals in
    spelled (leb 1 whole && leb whole 3 && has_form whole 9 text) (leb num (limit * den)) (record { num = num; den = den })

-- an optional sign: what is behind it, and whether it is a minus
abbrev pub is_sign : ℕ → Bool
is_sign byte = eqb byte 43 || eqb byte 45

abbrev pub unsigned : List ℕ → List ℕ
unsigned text = if is_sign (get_or text 0 0) then drop 1 text else text

abbrev pub is_minus : List ℕ → Bool
is_minus text = eqb (get_or text 0 0) 45

-- a word of a plain line: an optional sign, and a decimal number
unfoldable pub degrees_of : ℕ → List ℕ → Answer Fraction
degrees_of limit text = decimal_of limit (unsigned text) >>= λ size. found (record { minus = is_minus text; size = size })

-- the f32 nearest to it, ties to even, rounded once; of zero +0, whatever its sign
unfoldable pub nearest_to : Fraction → Float
nearest_to fraction =
    if eqb fraction.size.num 0 then fin false 0 (pos 0) else round binary32 fraction.minus fraction.size.num fraction.size.den
