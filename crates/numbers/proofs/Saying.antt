-- How an answer and a refusal go over to C. Assumes nothing.
use Rattle.numbers.proofs.{Prelude.{ℕ, true, false, List, [], ◌↔◌, ◌≡◌, refl, sym, ap, subst, ◌∙◌, arith}, Refusals.{Listed}}
use Rattle.numbers.specs.{Lists.{padded}, Reply.{Reply, given, refused}, Spoken.{said_of, refused_said, Spoken, spoken}, declared.{refusal.Refusal.{Refusal}, said.Said.{Said}}}

module _ {A : Type 0} (values : A → List ℕ) {reply : Reply A} where
  pub said_given : {a : A} → reply ≡ given a → record { number = 0; words = padded 5 (values a) } ≡ said_of values reply
  unfolding said_of
  said_given is = sym (ap (said_of values) is)

  pub said_refused : {why : Refusal} {said : Said} → said ≡ refused_said why → reply ≡ refused why → said ≡ said_of values reply
  unfolding said_of
  said_refused says is = says ∙ sym (ap (said_of values) is)

-- what was said, beside the lent output
pub beside : (lent : List (List ℕ)) {number : ℕ} {words : List ℕ} {said said' : Said} → spoken number words [] ≡ record { said = said; lent = [] } → said ≡ said'
    → spoken number words lent ≡ record { said = said'; lent = lent }
beside lent spoke is = ap (λ (s : Said). record { said = s; lent = lent }) (ap (λ (s : Spoken). s.said) spoke ∙ is)

-- ---- a returned 0
-- the reply is an answer, and no refusal
abbrev pub Answered : {A : Type 0} → Reply A → Type 0
Answered {A} reply = (answer : A) × (reply ≡ given answer)

-- a number of a list without 0 is not 0
pub never_zero : (numbers : List ℕ) → (Listed numbers 0 → false ≡ true) → (n : ℕ) → Listed numbers n → n ≡ 0 → ⊥
never_zero numbers without n listed is = let no_zero = without (subst (Listed numbers) is listed) in let z : ◌≡◌ {A = ℕ} 0 1 = cc in omega arith

-- where no refusal has the number 0, that number is said for an answer alone
module _ {A : Type 0} (values : A → List ℕ) where
  pub zero_said : (reply : Reply A) → ((why : Refusal) → reply ≡ refused why → why.number ≡ 0 → ⊥) → ((said_of values reply).number ≡ 0) ↔ Answered reply
  unfolding said_of
  zero_said (given a) never = ((λ zero. (a, refl)), (λ answered. refl))
  zero_said (refused why) never = ((λ zero. absurd (never why refl zero)), (λ answered. cc))

-- ---- what a promise fixes: two calls that it permits return the same number and leave the same words and lent output
pub same_call : {number number' : ℕ} {words words' : List ℕ} {lent lent' : List (List ℕ)} {promised : Spoken} → spoken number words lent ≡ promised → spoken number' words' lent' ≡ promised
    → (number ≡ number') × (words ≡ words') × (lent ≡ lent')
same_call e e' = let same = e ∙ sym e' in
    (ap (λ (s : Spoken). s.said.number) same, ap (λ (s : Spoken). s.said.words) same, ap (λ (s : Spoken). s.lent) same)
