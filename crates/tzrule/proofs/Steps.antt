-- What follows a step that read something, or found a fault. Assumes nothing.
use Rattle.numbers.proofs.Prelude.{ℕ, ◌≤◌, eq-eqb, ne_eqb, eqb, length, true, false, List, ◌≡◌, sym, ap, ◌∙◌}
use Rattle.std.specs.Prelude.{Some, None, Result, Ok, Err, IsErrAnd, IfOk}
use Rattle.tzrule.specs.{Answer.{Answer, read, fault}, Text.{byte_at}, declared.{cursor.Cursor.{Cursor}, fault.Fault.{Fault}}, inner.Reads.{Reads, After, Eaten, Behind}}

-- the fault that a `?` hands on
pub passed_on : {A : Type 0} (r : Result A Fault) {why : Fault} → IsErrAnd r (λ e. e ≡ why) → r ≡ Err why
passed_on (Ok a) h = elim h [ ]
passed_on (Err e) h = ap Err h

-- where there is a fault nothing is said of what was read
pub none_ok : {A : Type 0} (why : Fault) (P : A → Type 0) (r : Result A Fault) → IsErrAnd r (λ e. e ≡ why) → IfOk r P
none_ok why P (Ok a) h = elim h [ ]
none_ok why P (Err e) h = tt

-- and more of it where more follows
pub more_ok : {A : Type 0} (P Q : A → Type 0) (r : Result A Fault) → ((a : A) → P a → Q a) → IfOk r P → IfOk r Q
more_ok P Q (Ok a) f h = f a h
more_ok P Q (Err e) f h = tt

-- a step from a place of a text, that read something or found a fault
module _ {A : Type 0} (here : Cursor) (what : List ℕ → ℕ → Answer A) {text : List ℕ} {place : ℕ} where
  pub got : {a : A} (rest : Cursor) → Reads here what (Ok (a, rest)) → here.text.now ≡ text → here.at ≡ place → (rest.text.now ≡ text) × (what text place ≡ read a rest.at)
  unfolding Reads
  got rest h t p = (h.0 ∙ t, (λ i. what (sym t i) (sym p i)) ∙ h.1)

  pub lost : {why : Fault} → Reads here what (Err why) → here.text.now ≡ text → here.at ≡ place → (what text place ≡ fault why.place) × (why.place ≤ length text)
  unfolding Reads
  lost h t p = ((λ i. what (sym t i) (sym p i)) ∙ h.0, rw t at h.1)

  -- the last step of another
  pub ends : (r : Result (A × Cursor) Fault) → Reads here what r → here.text.now ≡ text → here.at ≡ place → (from : Cursor) → from.text.now ≡ text → (other : List ℕ → ℕ → Answer A)
      → other text from.at ≡ what text place → Reads from other r
  unfolding Reads
  ends (Ok (a, rest)) h t p from f other e = (h.0 ∙ t ∙ sym f, rw f (e ∙ (λ i. what (sym t i) (sym p i)) ∙ h.1))
  ends (Err at) h t p from f other e = (rw f (e ∙ (λ i. what (sym t i) (sym p i)) ∙ h.0), rw (f, ← t) h.1)

-- what was read, and the cursor behind it
pub found : {A : Type 0} (here : Cursor) (what : List ℕ → ℕ → Answer A) {a : A} (rest : Cursor) → rest.text.now ≡ here.text.now → what here.text.now here.at ≡ read a rest.at
    → Reads here what (Ok (a, rest))
unfolding Reads
found here what rest t e = (t, e)

-- a fault
pub fails : {A : Type 0} (here : Cursor) (what : List ℕ → ℕ → Answer A) {why : Fault} (r : Result (A × Cursor) Fault) → IsErrAnd r (λ e. e ≡ why)
    → (what here.text.now here.at ≡ fault why.place) × (why.place ≤ length here.text.now) → Reads here what r
unfolding Reads
fails here what r h e = rw (passed_on r h) e

-- a byte that stands there, or does not
module _ (here : Cursor) (byte : ℕ) where
  pub ate : {rest : Cursor} → Eaten here byte (Some rest) → After here byte rest
  unfolding Eaten
  ate h = h

  pub left : Eaten here byte None → eqb (byte_at here.text.now here.at) byte ≡ false
  unfolding Eaten
  left h = ne_eqb _ byte h

  pub stands : {rest : Cursor} → After here byte rest → eqb (byte_at here.text.now here.at) byte ≡ true
  stands a = eq-eqb _ byte a.stands

  pub met : {rest : Cursor} → Behind here byte (Ok rest) → After here byte rest
  unfolding Behind
  met h = h

  pub missed : {why : Fault} → Behind here byte (Err why) → (eqb (byte_at here.text.now here.at) byte ≡ false) × (why.place ≡ here.at)
  unfolding Behind
  missed h = (ne_eqb _ byte h.0, h.1)

-- a place that is another
pub lower : {a b c : ℕ} → a ≡ b → b ≤ c → a ≤ c
lower e h = rw e h
