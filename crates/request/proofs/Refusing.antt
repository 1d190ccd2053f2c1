-- Which numbers a request can be refused with: 80 to 84 alone. Assumes nothing.
use Rattle.numbers.proofs.{Prelude.{ℕ, eqb, leb, length, get_or, Bool, true, false, not, List, [], ◌∷◌, refl}, Refusals.{Listed, Numbered, as_found, as_failed, as_refused, either, then_numbered}}
use Rattle.numbers.{proofs.Replies.{NumberedReply, answers, refuses, then_reply, and_then, demands}, specs.{Answer.{Answer, found, failed}, Reply.{Reply, refusal, plain}}}
use Rattle.request.specs.{Clock.{time_of, date_of, moment_form, moment_of, seconds_of, when_of}, Number.{spelled, angle_of, side_of, decimal_of, degrees_of}}
use Rattle.request.specs.Request.{at, star_of, body_of, place_of, place_in, is_sealed, is_address, is_rmc, is_mode, turned, fix_of, fields_of, sentence_of, plain_of, spelt_of, request_of}
use Rattle.request.specs.Text.{formed, count, field, past_word, next_word, line_of}
use Rattle.numbers.specs.Answer as A

abbrev pub five_numbers : List ℕ
five_numbers = 80 ∷ 81 ∷ 82 ∷ 83 ∷ 84 ∷ []

abbrev Told : {A : Type 0} → Reply A → Type 0
Told = NumberedReply (Listed five_numbers)

abbrev Says : {A : Type 0} → Answer A → Type 0
Says = Numbered (Listed five_numbers)

spelled_says : {A : Type 0} (form range : Bool) (a : A) → Says (spelled form range a)
unfolding spelled
spelled_says true true a = as_found
spelled_says true false a = as_refused refl
spelled_says false range a = as_failed

at_told : {A : Type 0} (place : ℕ) (answer : Answer A) → Says answer → Told (at place answer)
at_told place (found a) h = answers
at_told place failed h = refuses refl
at_told place (A.refused n) (as_refused h) = refuses h

time_says : (text : List ℕ) → Says (time_of text)
unfolding time_of
time_says text = spelled_says _ _ _

date_says : (text : List ℕ) → Says (date_of text)
unfolding date_of
date_says text = spelled_says _ _ _

angle_says : (width limit : ℕ) (text : List ℕ) → Says (angle_of width limit text)
unfolding angle_of
angle_says width limit text = spelled_says _ _ _

side_says : (plus minus : ℕ) (text : List ℕ) → Says (side_of plus minus text)
unfolding side_of
side_says plus minus text = either Says (formed (plus ∷ []) text) as_found (either Says (formed (minus ∷ []) text) as_found as_failed)

degrees_says : (limit : ℕ) (text : List ℕ) → Says (degrees_of limit text)
unfolding degrees_of decimal_of
degrees_says limit text = then_numbered (spelled_says _ _ _) (λ size. as_found)

when_says : (text : List ℕ) → Says (when_of text)
unfolding when_of moment_of seconds_of
when_says text = either Says (formed moment_form text) (spelled_says _ _ _) (spelled_says _ _ _)

turned_told : (n width limit plus minus : ℕ) (body : List ℕ) → Told (turned n width limit plus minus body)
unfolding turned
turned_told n width limit plus minus body = then_reply (at_told _ _ (angle_says width limit _)) (λ size. then_reply (at_told _ _ (side_says plus minus _)) (λ side. answers))

fix_told : (body : List ℕ) → Told (fix_of body)
unfolding fix_of
fix_told body =
    then_reply (at_told _ _ (time_says _)) (λ time. then_reply (turned_told 3 2 90 78 83 body) (λ lat. then_reply (turned_told 5 3 180 69 87 body) (λ lon. then_reply (at_told _ _ (date_says _))
    (λ date. answers))))

fields_told : (body : List ℕ) (star : ℕ) → Told (fields_of body star)
unfolding fields_of
fields_told body star =
    and_then (demands (is_address (field 0 body)) (refusal 80 0 1) refl) (and_then (demands (is_rmc (field 0 body)) (plain 83) refl)
    (and_then (demands (leb 9 (count 44 body)) (refusal 80 0 star) refl) (and_then (demands (not (formed (86 ∷ []) (field 2 body))) (plain 81) refl)
    (and_then (demands (formed (65 ∷ []) (field 2 body)) (refusal 80 0 (place_of 2 body)) refl) (and_then (demands (is_mode (field 12 body)) (plain 81) refl) (fix_told body))))))

sentence_told : (line : List ℕ) → Told (sentence_of line)
unfolding sentence_of
sentence_told line = and_then (demands (is_sealed line) (refusal 82 0 (star_of line)) refl) (fields_told (body_of line) (star_of line))

plain_told : (line : List ℕ) → Told (plain_of line)
unfolding plain_of
plain_told line =
    then_reply (at_told _ _ (degrees_says 90 _)) (λ lat. then_reply (at_told _ _ (degrees_says 180 _)) (λ lon. then_reply (at_told _ _ (when_says _)) (λ when. and_then (demands (eqb (length
    (past_word (next_word (next_word line)))) 0) (refusal 80 0 (place_in line (next_word (next_word (next_word line))))) refl) answers)))

pub request_told : (text : List ℕ) → NumberedReply (Listed five_numbers) (request_of text)
unfolding request_of spelt_of
request_told text =
    then_reply (and_then (demands (leb (length (line_of text)) 255) (refusal 80 0 255) refl) (either Told (eqb (get_or (line_of text) 0 0) 36) (sentence_told (line_of text)) (plain_told
    (line_of text)))) (λ spelt. answers)
