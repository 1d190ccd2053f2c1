-- What a reply that was taken apart says of the reply that follows it, and which numbers it can be refused with. Assumes nothing.
use Rattle.numbers.proofs.{Prelude.{ℕ, Bool, true, false, ◌≡◌, refl, sym, ap, subst, ◌∙◌, arith}, Refusals.{Numbered, as_found, as_failed, as_refused}}
use Rattle.std.specs.Prelude.{Result, Ok, Err, IfOk, IsErrAnd}
use Rattle.numbers.specs.{Answer.{Answer}, Reply.{Reply, given, refused, demand, ◌or_else◌, ◌>>=◌, ◌>>◌}, declared.refusal.Refusal.{Refusal}}

module _ {A B : Type 0} {answer : Reply A} where
  pub carried : {why : Refusal} → refused why ≡ answer → (next : A → Reply B) → refused why ≡ (answer >>= next)
  carried e next = ap (λ (x : Reply A). x >>= next) e

  pub onward : {a : A} → given a ≡ answer → (next : A → Reply B) → next a ≡ (answer >>= next)
  onward e next = ap (λ (x : Reply A). x >>= next) e

-- ---- what `?` does
-- the refusal that it hands on
pub passed_on : {A : Type 0} (r : Result A Refusal) {why : Refusal} → IsErrAnd r (λ e. e ≡ why) → r ≡ refused why
passed_on (Ok a) h = elim h [ ]
passed_on (Err e) h = ap refused h

-- what holds of what it goes on with
pub held : {A E : Type 0} (P : A → Type 0) {r : Result A E} {a : A} → r ≡ Ok a → IfOk r P → P a
held P is h = rw is at h

module _ {A B : Type 0} {answer : Reply A} {a : Result A Refusal} where
  -- where it ends the call, so does the reply
  pub ended_by : {why : Refusal} (r : Result B Refusal) → a ≡ Err why → a ≡ answer → IsErrAnd r (λ e. e ≡ why) → (next : A → Reply B) → r ≡ (answer >>= next)
  ended_by r is same h next = passed_on r h ∙ carried (sym is ∙ same) next

  -- where it does not, the reply goes on with what was found
  pub led_on : {x : A} → a ≡ Ok x → a ≡ answer → (next : A → Reply B) → next x ≡ (answer >>= next)
  led_on is same next = onward (sym is ∙ same) next

-- what a reply was given from
pub record From {A B : Type 0} (answer : Reply A) (next : A → Reply B) (b : B) : Type 0 where
  pub it : A
  pub is : given it ≡ answer
  pub onto : given b ≡ next it

pub given_from : {A B : Type 0} {b : B} (answer : Reply A) (next : A → Reply B) → given b ≡ (answer >>= next) → From answer next b
given_from (given a) next e = record { it = a; is = refl; onto = e }
given_from (refused why) next e = let z : ◌≡◌ {A = ℕ} 0 1 = cc in absurd (omega arith)

-- what is given is one thing
pub given_one : {A : Type 0} {a b : A} → ◌≡◌ {A = Reply A} (given a) (given b) → a ≡ b
given_one e = cc

-- what is only looked at was refused before
pub refused_from : {A B : Type 0} {why : Refusal} (answer : Reply A) (shown : A → B) → refused why ≡ (answer >>= λ a. given (shown a)) → refused why ≡ answer
refused_from (given a) shown e = let z : ◌≡◌ {A = ℕ} 0 1 = cc in absurd (omega arith)
refused_from (refused why) shown e = cc

-- a demand that is met, and one that is not
module _ {A : Type 0} {test : Bool} where
  pub met : test ≡ true → (why : Refusal) (next : Reply A) → next ≡ (demand test why >> next)
  met e why next = rw e refl

  pub unmet : test ≡ false → (why : Refusal) (next : Reply A) → refused why ≡ (demand test why >> next)
  unmet e why next = rw e refl

-- what follows a demand was given, so the demand was met
pub demanded : {A : Type 0} {a : A} {rest : Reply A} (test : Bool) (why : Refusal) → given a ≡ (demand test why >> rest) → (test ≡ true) × (given a ≡ rest)
demanded true why e = (refl, e)
demanded false why e = let z : ◌≡◌ {A = ℕ} 0 1 = cc in absurd (omega arith)

pub demand_met : (test : Bool) (why : Refusal) → demand test why ≡ given tt → test ≡ true
demand_met true why e = refl
demand_met false why e = let z : ◌≡◌ {A = ℕ} 0 1 = cc in absurd (omega arith)

-- what is only looked at was given
pub looked : {A : Type 0} {a : A} (r : Reply (Unit {0})) (rest : Reply A) → given a ≡ (r >> rest) → (r ≡ given tt) × (given a ≡ rest)
looked (given tt) rest e = (refl, e)
looked (refused why) rest e = let z : ◌≡◌ {A = ℕ} 0 1 = cc in absurd (omega arith)

-- both go on from one reply
pub after : {A B : Type 0} (reply : Reply A) {next next' : A → Reply B} → ((a : A) → next a ≡ next' a) → (reply >>= next) ≡ (reply >>= next')
after (given a) e = e a
after (refused why) e = refl

-- ---- numbers
-- a number that it is refused with has the property
pub data NumberedReply (P : ℕ → Type 0) {A : Type 0} : Reply A → Type 0 where
  answers : {a : A} → NumberedReply P (given a)
  refuses : {why : Refusal} → P why.number → NumberedReply P (refused why)

module _ {P : ℕ → Type 0} where
  pub then_reply : {A B : Type 0} {reply : Reply A} {next : A → Reply B} → NumberedReply P reply → ((a : A) → NumberedReply P (next a)) → NumberedReply P (reply >>= next)
  then_reply answers k = k _
  then_reply (refuses h) k = refuses h

  -- what follows may go by what was given
  pub then_with : {A B : Type 0} {reply : Reply A} {next : A → Reply B} → NumberedReply P reply → ((a : A) → reply ≡ given a → NumberedReply P (next a)) → NumberedReply P (reply >>= next)
  then_with answers k = k _ refl
  then_with (refuses h) k = refuses h

  pub and_then : {A B : Type 0} {reply : Reply A} {next : Reply B} → NumberedReply P reply → NumberedReply P next → NumberedReply P (reply >> next)
  and_then answers k = k
  and_then (refuses h) k = refuses h

  pub demands : (test : Bool) (why : Refusal) → P why.number → NumberedReply P (demand test why)
  demands true why h = answers
  demands false why h = refuses h

  pub or_else_lem : {A : Type 0} {answer : Answer A} (why : Refusal) → Numbered P answer → P why.number → NumberedReply P (answer or_else why)
  or_else_lem why as_found h = answers
  or_else_lem why as_failed h = refuses h
  or_else_lem why (as_refused n) h = refuses n

  pub number_of_lem : {A : Type 0} {why : Refusal} {reply : Reply A} → NumberedReply P reply → reply ≡ refused why → P why.number
  number_of_lem {A} {why} h e = last (subst (λ (r : Reply A). NumberedReply P r) e h) where
    last : NumberedReply P {A = A} (refused why) → P why.number
    last (refuses h) = h
