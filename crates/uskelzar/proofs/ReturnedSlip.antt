-- What a slip's returned 0 means to firmware: the lent output is that of a stamped slip, of which slip's theorems speak. Assumes nothing.
use Rattle.numbers.proofs.Prelude.{ℕ, eqb, true, false, ◌||◌, List, [], ◌∷◌, ◌↔◌, ◌≡◌, refl, sym, ap, ◌∙◌, arith}
use Rattle.numbers.{proofs.Saying.{Answered, never_zero, zero_said}, specs.{Reply.{Reply, refused}, Spoken.{Spoken, said_of, spoken}, declared.refusal.Refusal.{Refusal}}}
use Rattle.bundle.{proofs.Theorems.{found_refusals}, specs.Bundle.{find_of}}
use Rattle.request.{proofs.{Refusing.{five_numbers}, Theorems.{request_refusals}}, specs.{Request.{request_of}, declared.read.Fix.{Fix}}}
use Rattle.slip.{proofs.{Theorems.{slip_beside_refusals, slip_at_beside_refusals}, Worked.{sentence, square, berlin, texts, line, stamped}}, specs.Says.{is_at_number, is_slip_number}}
use Rattle.slip.specs.{Slip.{Replied, replied, slipped_at, slipped}, declared.slip.Stamped.{Stamped}}
use Rattle.uskelzar.specs.Slips.{Printed, fix_values, file_values, stamped_values, reply_spoken, slip_spoken}

-- the reply is refused, and so all of it
whole : (left : Replied) {why : Refusal} → left.reply ≡ refused why → replied (refused why) left.hits left.text left.out ≡ left
whole left is = λ i. replied (sym is i) left.hits left.text left.out

-- 0 is no slip's number
not_slip : (number : ℕ) → (is_slip_number number || eqb number 36) ≡ true → number ≡ 0 → ⊥
unfolding is_slip_number
not_slip number is e = let none : false ≡ true = ap (λ (n : ℕ). is_slip_number n || eqb n 36) (sym e) ∙ is in let z : ◌≡◌ {A = ℕ} 0 1 = cc in absurd (omega arith)

not_at : (number : ℕ) → (is_at_number number || eqb number 36) ≡ true → number ≡ 0 → ⊥
unfolding is_at_number
not_at number is e = let none : false ≡ true = ap (λ (n : ℕ). is_at_number n || eqb n 36) (sym e) ∙ is in let z : ◌≡◌ {A = ℕ} 0 1 = cc in absurd (omega arith)

-- `uskelzar_request`
pub request_zero : (text : List ℕ) → ((reply_spoken fix_values (request_of text)).said.number ≡ 0) ↔ Answered (request_of text)
request_zero text = zero_said fix_values (request_of text) (λ why is. never_zero five_numbers (λ z. z) why.number (request_refusals text (sym is)))

-- `uskelzar_bundle_find`
pub bundle_find_zero : (bundle name : List ℕ) → ((reply_spoken file_values (find_of bundle name)).said.number ≡ 0) ↔ Answered (find_of bundle name)
bundle_find_zero bundle name = zero_said file_values (find_of bundle name) (λ why is. never_zero (88 ∷ 89 ∷ []) (λ z. z) why.number (found_refusals bundle name (sym is)))

-- `uskelzar_slip`, and `uskelzar_slip_atlas` with any words
pub slip_zero : (request map atlas zones : List ℕ) (n room size : ℕ)
    → ((slip_spoken (slipped request map atlas zones n room size)).said.number ≡ 0) ↔ Answered (slipped request map atlas zones n room size).reply
slip_zero request map atlas zones n room size = let left = slipped request map atlas zones n room size in
    zero_said stamped_values left.reply (λ why is. not_slip why.number (slip_beside_refusals request map atlas zones n room size why left.hits left.text left.out (whole left is)))

-- `uskelzar_slip_at`, and `uskelzar_slip_at_atlas` alike
pub slip_at_zero : (fix : Fix) (map atlas zones : List ℕ) (n room size : ℕ)
    → ((slip_spoken (slipped_at fix map atlas zones n room size)).said.number ≡ 0) ↔ Answered (slipped_at fix map atlas zones n room size).reply
slip_at_zero fix map atlas zones n room size = let left = slipped_at fix map atlas zones n room size in
    zero_said stamped_values left.reply (λ why is. not_at why.number (slip_at_beside_refusals fix map atlas zones n room size why left.hits left.text left.out (whole left is)))

-- what was answered was printed
printed : (left : Replied) {number : ℕ} {words hits text out : List ℕ} → spoken number words (hits ∷ text ∷ out ∷ []) ≡ slip_spoken left → Answered left.reply → Printed left words hits text out
unfolding said_of
printed left {number} {words} {hits} {text} {out} e (stamped, is) = record {
  stamped = stamped;
  left_so = (λ i. replied (sym is i) (ap (λ (s : Spoken). first s.lent) e i) (ap (λ (s : Spoken). second s.lent) e i) (ap (λ (s : Spoken). third s.lent) e i));
  words_are = ap (λ (s : Spoken). s.said.words) e ∙ ap (λ (r : Reply Stamped). (said_of stamped_values r).words) is;
} where
  first : List (List ℕ) → List ℕ
  first [] = []
  first (l ∷ ls) = l

  second : List (List ℕ) → List ℕ
  second [] = []
  second (l ∷ ls) = first ls

  third : List (List ℕ) → List ℕ
  third [] = []
  third (l ∷ ls) = second ls

-- A call of `uskelzar_slip`, or of `uskelzar_slip_atlas` with any words, that returned 0 left a stamped slip, and its length, matches and offset in the reply's words;
pub returned_slip : (request map atlas zones : List ℕ) (n room size : ℕ) {number : ℕ} {words hits text out : List ℕ}
    → spoken number words (hits ∷ text ∷ out ∷ []) ≡ slip_spoken (slipped request map atlas zones n room size) → number ≡ 0 → Printed (slipped request map atlas zones n room size) words hits text out
returned_slip request map atlas zones n room size e z =
    printed (slipped request map atlas zones n room size) e ((slip_zero request map atlas zones n room size).0 (sym (ap (λ (s : Spoken). s.said.number) e) ∙ z))

-- and so one of `uskelzar_slip_at` and `uskelzar_slip_at_atlas`.
pub returned_slip_at : (fix : Fix) (map atlas zones : List ℕ) (n room size : ℕ) {number : ℕ} {words hits text out : List ℕ}
    → spoken number words (hits ∷ text ∷ out ∷ []) ≡ slip_spoken (slipped_at fix map atlas zones n room size) → number ≡ 0 → Printed (slipped_at fix map atlas zones n room size) words hits text out
returned_slip_at fix map atlas zones n room size e z =
    printed (slipped_at fix map atlas zones n room size) e ((slip_at_zero fix map atlas zones n room size).0 (sym (ap (λ (s : Spoken). s.said.number) e) ∙ z))

-- Document 03's example sentence on a map of one square: returned with a 0, with its length, matches and offset in the reply, and the line in what was lent.
pub one_printed : Printed (slipped sentence square [] berlin 4 19 49) (49 ∷ 1 ∷ 7200 ∷ 0 ∷ 0 ∷ []) (0 ∷ 0 ∷ 1 ∷ 39 ∷ []) texts line
unfolding said_of
one_printed = returned_slip sentence square [] berlin 4 19 49 (ap slip_spoken (sym stamped)) refl
