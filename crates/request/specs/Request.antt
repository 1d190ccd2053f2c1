-- S-1, the request: a sentence of a receiver or a plain line, its refusals in their order, and what it means.
use Rattle.std.specs.Prelude.{◌+◌, ◌-◌, ◌/◌, ◌%◌, ◌&&◌, ◌||◌, ◌∷◌, if◌then◌else◌}
use Rattle.numbers.specs.Prelude.{ℕ, eqb, ltb, leb, length, take, drop, get_or, Bool, true, false, not, List, []}
use Rattle.numbers.specs.{Answer.{Answer, found, failed}, Reply.{Reply, given, refused, refusal, plain, demand, ◌>>=◌, ◌>>◌}}
use Rattle.request.specs.{Clock.{When, utc, time_of, date_of, when_of, instant_at}, Number.{Fraction, angle_of, side_of, degrees_of, nearest_to}}
use Rattle.request.specs.{Text.{every, formed, count, xors, behind, field, word, past_word, next_word, line_of}, declared.read.Fix.{Fix}}
use Rattle.numbers.specs.Answer as A

-- what a request spells
pub record Spelt : Type 0 where
  pub lat : Fraction
  pub lon : Fraction
  pub when : When

-- what has not the form is 80, what is out of its range 84, each with the place of its field or word
abbrev pub at : {A : Type 0} → ℕ → Answer A → Reply A
at place (found a) = given a
at place failed = refused (refusal 80 0 place)
at place (A.refused number) = refused (refusal number 0 place)

-- ---- a sentence
-- the `*` is looked for three bytes before the line's end; the body stands between it and the `$`
abbrev pub star_of : List ℕ → ℕ
star_of line = length line - 3

abbrev pub body_of : List ℕ → List ℕ
body_of line = take (star_of line - 1) (drop 1 line)

-- a hexadecimal digit, of either case
abbrev pub is_hex : ℕ → ℕ → Bool
is_hex n byte = if ltb n 10 then eqb byte (48 + n) else (eqb byte (65 + (n - 10)) || eqb byte (97 + (n - 10)))

-- 1: the last three bytes are `*` and two hexadecimal digits that are the exclusive or of the body; no other `*` stands in the line
unfoldable pub is_sealed : List ℕ → Bool
is_sealed line =
    let star = star_of line in
    let sum = xors (body_of line) in
    eqb (get_or line star 0) 42 && eqb (count 42 line) 1 && is_hex (sum / 16) (get_or line (star + 1) 0) && is_hex (sum % 16) (get_or line (star + 2) 0)

-- 2: two to eight letters A to Z and digits; two bytes and then RMC
abbrev pub is_address : List ℕ → Bool
is_address text = leb 2 (length text) && leb (length text) 8 && every true text

abbrev pub is_rmc : List ℕ → Bool
is_rmc text = formed (82 ∷ 77 ∷ 67 ∷ []) (drop 2 text)

-- A, D, F, P, R
abbrev pub is_known : ℕ → Bool
is_known byte = eqb byte 65 || eqb byte 68 || eqb byte 70 || eqb byte 80 || eqb byte 82

-- 4: empty, or one of these
unfoldable pub is_mode : List ℕ → Bool
is_mode [] = true
is_mode (byte ∷ []) = is_known byte
is_mode (byte ∷ other ∷ more) = false

-- the place of a field in the line, behind the `$`
abbrev pub place_of : ℕ → List ℕ → ℕ
place_of n body = 1 + (length body - length (behind n body))

-- what a field of the body spells
abbrev pub in_field : {A : Type 0} → ℕ → List ℕ → (List ℕ → Answer A) → Reply A
in_field n body reading = at (place_of n body) (reading (field n body))

-- 6 and 7: a size in one field and its side in the next
unfoldable pub turned : ℕ → ℕ → ℕ → ℕ → ℕ → List ℕ → Reply Fraction
turned n width limit plus minus body = do
  size ← in_field n body (angle_of width limit)
  side ← in_field (n + 1) body (side_of plus minus)
  given (record { minus = side; size = size })

-- 5 to 8: time, latitude, longitude, date
unfoldable pub fix_of : List ℕ → Reply Spelt
fix_of body = do
  time ← in_field 1 body time_of
  lat ← turned 3 2 90 78 83 body
  lon ← turned 5 3 180 69 87 body
  date ← in_field 9 body date_of
  given (record { lat = lat; lon = lon; when = utc date time })

-- 2 to 4: address, at least ten fields, status and mode
unfoldable pub fields_of : List ℕ → ℕ → Reply Spelt
fields_of body star = do
  demand (is_address (field 0 body)) (refusal 80 0 1)
  demand (is_rmc (field 0 body)) (plain 83)
  demand (leb 9 (count 44 body)) (refusal 80 0 star)
  demand (not (formed (86 ∷ []) (field 2 body))) (plain 81)
  demand (formed (65 ∷ []) (field 2 body)) (refusal 80 0 (place_of 2 body))
  demand (is_mode (field 12 body)) (plain 81)
  fix_of body

unfoldable pub sentence_of : List ℕ → Reply Spelt
sentence_of line = do
  demand (is_sealed line) (refusal 82 0 (star_of line))
  fields_of (body_of line) (star_of line)

-- ---- a plain line
-- the place in a line where what is left of it begins
abbrev pub place_in : List ℕ → List ℕ → ℕ
place_in line left = length line - length left

-- what the first word there spells
abbrev pub in_word : {A : Type 0} → List ℕ → List ℕ → (List ℕ → Answer A) → Reply A
in_word line left reading = at (place_in line left) (reading (word left))

-- three words, from left to right, each in form and range before the next; what stands behind the third is asked last
unfoldable pub plain_of : List ℕ → Reply Spelt
plain_of line = let second = next_word line in let third = next_word second in do
  lat ← in_word line line (degrees_of 90)
  lon ← in_word line second (degrees_of 180)
  when ← in_word line third when_of
  demand (eqb (length (past_word third)) 0) (refusal 80 0 (place_in line (next_word third)))
  given (record { lat = lat; lon = lon; when = when })

-- ---- the request
-- at most 255 bytes; a sentence begins with `$`
unfoldable pub spelt_of : List ℕ → Reply Spelt
spelt_of line = do
  demand (leb (length line) 255) (refusal 80 0 255)
  if eqb (get_or line 0 0) 36 then sentence_of line else plain_of line

-- what it means: the f32 nearest to each fraction, and the instant
unfoldable pub meaning : Spelt → Fix
meaning spelt = record { lat = nearest_to spelt.lat; lon = nearest_to spelt.lon; instant = instant_at spelt.when }

unfoldable pub request_of : List ℕ → Reply Fix
request_of text = spelt_of (line_of text) >>= λ spelt. given (meaning spelt)
