-- What a request that is read spells: its fractions, date and time are in their ranges. Assumes nothing.
use Rattle.numbers.proofs.Prelude.{ℕ, ◌+◌, ◌*◌, ◌/◌, ◌^◌, ◌≤◌, ◌<◌, leb-true, eqb, leb, length, drop, get_or, Bool, true, false, not, List, [], ◌∷◌, ◌≡◌, refl, sym, ap, subst, ◌∙◌, arith}
use Rattle.numbers.{proofs.{Replies.{given_from, demanded}, Tests.{both}}, specs.{Answer.{Answer, found, failed, if◌then◌else◌, ◌>>=◌}, Reply.{Reply, given, refusal, plain}}}
use Rattle.request.proofs.Numerals.{ten_some, small_size}
use Rattle.request.specs.{Clock.{Date, Time, When, utc, since, is_date, is_time, time_of, date_of, moment_form, moment_date, moment_time, moment_of, seconds_of, when_of}, Number.{Size, Fraction}}
use Rattle.request.specs.{Number.{spelled, part_of, angle_of, side_of, decimal_of, unsigned, is_minus, degrees_of}, Request.{Spelt, at, star_of, body_of, is_sealed, is_address, is_rmc, is_mode, place_of}}
use Rattle.request.specs.{Request.{place_in, in_field, in_word, turned, fix_of, fields_of, sentence_of, plain_of, spelt_of}, Text.{formed, until, count, field, word, past_word, next_word}}
use Rattle.numbers.specs.Answer as A

-- what was given was found
pub at_found : {A : Type 0} {a : A} (place : ℕ) (answer : Answer A) → given a ≡ at place answer → found a ≡ answer
at_found place (found a) e = cc
at_found place failed e = absurd (let z : ◌≡◌ {A = ℕ} 0 1 = cc in omega arith)
at_found place (A.refused n) e = absurd (let z : ◌≡◌ {A = ℕ} 0 1 = cc in omega arith)

-- what was found is in its range
pub in_range : {A : Type 0} {a : A} (form range : Bool) (b : A) → found a ≡ spelled form range b → (range ≡ true) × (a ≡ b)
unfolding spelled
in_range true true b e = (refl, cc)
in_range true false b e = absurd (let z : ◌≡◌ {A = ℕ} 0 1 = cc in omega arith)
in_range false range b e = absurd (let z : ◌≡◌ {A = ℕ} 0 1 = cc in omega arith)

time_found : (text : List ℕ) {t : Time} → found t ≡ time_of text → is_time t ≡ true
unfolding time_of
time_found text e = let r = in_range _ _ _ e in ap is_time r.1 ∙ r.0

date_found : (text : List ℕ) {d : Date} → found d ≡ date_of text → is_date d ≡ true
unfolding date_of
date_found text e = let r = in_range _ _ _ e in ap is_date r.1 ∙ r.0

-- an instant that is said by a date and a time has them in range
pub record Ranged (date : Date) (time : Time) : Type 0 where
  pub date_is : is_date date ≡ true
  pub time_is : is_time time ≡ true

unfoldable pub Civilly : When → Type 0
Civilly (utc date time) = Ranged date time
Civilly (since z) = Unit {0}

-- a fraction that rounds as it should: it is one, and no f32 of its size is left out
pub record Fair (fraction : Fraction) : Type 0 where
  pub some : 0 < fraction.size.den
  pub small : fraction.size.num / fraction.size.den < 16777216

pub record Meant (s : Spelt) : Type 0 where
  pub lat_fair : Fair s.lat
  pub lon_fair : Fair s.lon
  pub civil : Civilly s.when

angle_fair : (width limit : ℕ) (text : List ℕ) {size : Size} (minus : Bool) → limit ≤ 180 → found size ≡ angle_of width limit text → Fair (record { minus = minus; size = size })
unfolding angle_of
angle_fair width limit text minus l e = let r = in_range _ _ _ e in let b = both (leb (part_of width 2 text) 59) _ r.0 in
    let d : 1 ≤ 60 * 10 ^ length (drop (width + 3) text) = omega (arith, ten_some (length (drop (width + 3) text))) in
    subst (λ (x : Size). Fair (record { minus = minus; size = x })) (sym r.1) (record { some = d; small = small_size limit _ _ d l (leb-true _ _ b.1) })

turned_fair : (n width limit plus minus : ℕ) (body : List ℕ) {f : Fraction} → limit ≤ 180 → given f ≡ turned n width limit plus minus body → Fair f
unfolding turned
turned_fair n width limit plus minus body {f = f} l e = let a = given_from (in_field n body (angle_of width limit)) _ e in
    let b = given_from (in_field (n + 1) body (side_of plus minus)) _ a.onto in
    let same : f ≡ record { minus = b.it; size = a.it } = (let g = b.onto in cc) in
    subst Fair (sym same) (angle_fair width limit (field n body) b.it l (at_found _ _ a.is))

decimal_fair : (limit : ℕ) (text : List ℕ) {size : Size} (minus : Bool) → limit ≤ 180 → found size ≡ decimal_of limit text → Fair (record { minus = minus; size = size })
unfolding decimal_of
decimal_fair limit text minus l e = let r = in_range _ _ _ e in let d = ten_some (length (drop (length (until 46 46 text) + 1) text)) in
    subst (λ (x : Size). Fair (record { minus = minus; size = x })) (sym r.1) (record { some = d; small = small_size limit _ _ d l (leb-true _ _ r.0) })

degrees_fair : (limit : ℕ) (text : List ℕ) {f : Fraction} → limit ≤ 180 → found f ≡ degrees_of limit text → Fair f
unfolding degrees_of
degrees_fair limit text l e = go (decimal_of limit (unsigned text)) refl e where
  go : (a : Answer Size) {f : Fraction} → a ≡ decimal_of limit (unsigned text) → found f ≡ (a >>= λ size. found (record { minus = is_minus text; size = size })) → Fair f
  go (found size) {f = f} p e = let same : f ≡ record { minus = is_minus text; size = size } = cc in subst Fair (sym same) (decimal_fair limit (unsigned text) (is_minus text) l p)
  go failed p e = absurd (let z : ◌≡◌ {A = ℕ} 0 1 = cc in omega arith)
  go (A.refused n) p e = absurd (let z : ◌≡◌ {A = ℕ} 0 1 = cc in omega arith)

-- what was spelt last
whens : {lat lon : Fraction} (when : When) {s : Spelt} → Fair lat → Fair lon → Civilly when → ◌≡◌ {A = Reply Spelt} (given s) (given (record { lat = lat; lon = lon; when = when })) → Meant s
whens {lat = lat} {lon = lon} when {s = s} f g h e = let same : s ≡ record { lat = lat; lon = lon; when = when } = cc in
    subst Meant (sym same) (record { lat_fair = f; lon_fair = g; civil = h })

moment_found : (text : List ℕ) {w : When} → found w ≡ moment_of text → Civilly w
unfolding moment_of Civilly
moment_found text e = let r = in_range _ _ _ e in let b = both (is_date (moment_date text)) (is_time (moment_time text)) r.0 in
    subst Civilly (sym r.1) (record { date_is = b.0; time_is = b.1 })

seconds_found : (text : List ℕ) {w : When} → found w ≡ seconds_of text → Civilly w
unfolding seconds_of Civilly
seconds_found text e = subst Civilly (sym (in_range _ _ _ e).1) tt

when_found : (text : List ℕ) {w : When} → found w ≡ when_of text → Civilly w
unfolding when_of
when_found text e = go (formed moment_form text) e where
  go : (b : Bool) {w : When} → found w ≡ (if b then moment_of text else seconds_of text) → Civilly w
  go true e = moment_found text e
  go false e = seconds_found text e

fix_meant : (body : List ℕ) {s : Spelt} → given s ≡ fix_of body → Meant s
unfolding fix_of Civilly
fix_meant body e = let a = given_from (in_field 1 body time_of) _ e in let b = given_from (turned 3 2 90 78 83 body) _ a.onto in
    let c = given_from (turned 5 3 180 69 87 body) _ b.onto in let d = given_from (in_field 9 body date_of) _ c.onto in
    let ranged : Civilly (utc d.it a.it) = record { date_is = date_found (field 9 body) (at_found _ _ d.is); time_is = time_found (field 1 body) (at_found _ _ a.is) } in
    whens {lat = b.it} {lon = c.it} (utc d.it a.it) (turned_fair 3 2 90 78 83 body (omega arith) b.is) (turned_fair 5 3 180 69 87 body (omega arith) c.is) ranged d.onto

fields_meant : (body : List ℕ) (star : ℕ) {s : Spelt} → given s ≡ fields_of body star → Meant s
unfolding fields_of
fields_meant body star e = let b = demanded (is_rmc (field 0 body)) (plain 83) (demanded (is_address (field 0 body)) (refusal 80 0 1) e).1 in
    let d = demanded (not (formed (86 ∷ []) (field 2 body))) (plain 81) (demanded (leb 9 (count 44 body)) (refusal 80 0 star) b.1).1 in
    fix_meant body (demanded (is_mode (field 12 body)) (plain 81) (demanded (formed (65 ∷ []) (field 2 body)) (refusal 80 0 (place_of 2 body)) d.1).1).1

sentence_meant : (line : List ℕ) {s : Spelt} → given s ≡ sentence_of line → Meant s
unfolding sentence_of
sentence_meant line e = fields_meant (body_of line) (star_of line) (demanded (is_sealed line) (refusal 82 0 (star_of line)) e).1

plain_meant : (line : List ℕ) {s : Spelt} → given s ≡ plain_of line → Meant s
unfolding plain_of
plain_meant line e = let a = given_from (in_word line line (degrees_of 90)) _ e in let b = given_from (in_word line (next_word line) (degrees_of 180)) _ a.onto in
    let c = given_from (in_word line (next_word (next_word line)) when_of) _ b.onto in
    let d = demanded (eqb (length (past_word (next_word (next_word line)))) 0) (refusal 80 0 (place_in line (next_word (next_word (next_word line))))) c.onto in
    whens {lat = a.it} {lon = b.it} c.it (degrees_fair 90 (word line) (omega arith) (at_found _ _ a.is)) (degrees_fair 180 (word (next_word line)) (omega arith) (at_found _ _ b.is))
    (when_found (word (next_word (next_word line))) (at_found _ _ c.is)) d.1

pub spelt_meant : (line : List ℕ) {s : Spelt} → given s ≡ spelt_of line → Meant s
unfolding spelt_of
spelt_meant line e = go (eqb (get_or line 0 0) 36) (demanded (leb (length line) 255) (refusal 80 0 255) e).1 where
  go : (b : Bool) {s : Spelt} → given s ≡ (if b then sentence_of line else plain_of line) → Meant s
  go true e = sentence_meant line e
  go false e = plain_meant line e
