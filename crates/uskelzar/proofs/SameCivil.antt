-- What the promise of `uskelzar_civil_time` fixes. Assumes nothing.
use Rattle.numbers.proofs.Prelude.{ℕ, ℤ, List, ◌≡◌, sym, ap, subst, ◌∙◌}
use Rattle.calendar.{proofs.SameCivil.{same_civil}, specs.{Civil.{CivilOf}, declared.civil.Reading.{Reading}}}
use Rattle.std.specs.Prelude.{Option, Some, None}
use Rattle.uskelzar.specs.Civil.{civil_number, civil_words, CivilSpoken}

-- two calls that it permits return the same number and leave the same words
pub same_civil_call : {number number' : ℕ} {words words' : List ℕ} (instant offset : ℤ) → CivilSpoken instant offset number words → CivilSpoken instant offset number' words'
    → (number ≡ number') × (words ≡ words')
same_civil_call instant offset s t = let same = same_civil instant offset s.civil t.civil s.is t.is in
    (s.number_is ∙ ap civil_number same ∙ sym t.number_is, s.words_are ∙ ap civil_words same ∙ sym t.words_are)

-- the two ways of the call
module _ (instant offset a b : ℤ) (p : a ≡ instant) (q : b ≡ offset) (civil : Option Reading) (given : CivilOf a b civil) where
  is : CivilOf instant offset civil
  is = subst (λ (z : ℤ). CivilOf z offset civil) p (subst (λ (z : ℤ). CivilOf a z civil) q given)

  pub spoken_shown : (reading : Reading) {words : List ℕ} → civil ≡ Some reading → words ≡ civil_words (Some reading) → CivilSpoken instant offset 0 words
  unfolding civil_number
  spoken_shown reading e w = record { civil = civil; is = is; number_is = sym (ap civil_number e); words_are = w ∙ sym (ap civil_words e) }

  pub spoken_outside : {words : List ℕ} → civil ≡ None → words ≡ civil_words None → CivilSpoken instant offset 61 words
  unfolding civil_number
  spoken_outside e w = record { civil = civil; is = is; number_is = sym (ap civil_number e); words_are = w ∙ sym (ap civil_words e) }
