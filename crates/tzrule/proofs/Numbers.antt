-- Reading digits, one after the other. Assumes nothing.
use Rattle.numbers.proofs.Prelude.{ℕ, zero, suc, ◌+◌, ◌-◌, ◌*◌, ◌≤◌, ◌<◌, lt-ltb, le-ltb, ltb-true, ltb-false, ltb, T, length, List·getD-eq-default, Bool, true, false, List, ◌≡◌, refl, sym, ap}
use Rattle.numbers.{proofs.Prelude.{subst, ◌∙◌, arith}, specs.Answer.{if◌then◌else◌}}
use Rattle.tzrule.specs.Text.{byte_at, is_digit, digits_of, tens}

-- past the end there is no byte
pub past_end : (text : List ℕ) (at : ℕ) → length text ≤ at → byte_at text at ≡ 0
unfolding byte_at
past_end text at h = List·getD-eq-default text 0 h

pub not_low : (byte : ℕ) → byte < 48 → false ≡ is_digit byte
unfolding is_digit
not_low byte h = simp (lt-ltb byte 48 h)

pub not_high : (byte : ℕ) → 48 ≤ byte → ltb byte 58 ≡ is_digit byte
unfolding is_digit
not_high byte h = simp (le-ltb byte 48 h)

digit_cases : (byte : ℕ) (low : Bool) → ltb byte 48 ≡ low → (if low then false else ltb byte 58) ≡ true → (48 ≤ byte) × (byte ≤ 57)
digit_cases byte true e d = absurd (subst T (sym d) tt)
digit_cases byte false e d = omega (arith, ltb-false byte 48 e, ltb-true byte 58 d)

pub digit_range : (byte : ℕ) → is_digit byte ≡ true → (48 ≤ byte) × (byte ≤ 57)
unfolding is_digit
digit_range byte d = digit_cases byte (ltb byte 48) refl d

-- a digit more, or none
digits_more : (k : ℕ) (text : List ℕ) (at value : ℕ) → is_digit (byte_at text at) ≡ true → digits_of (suc k) text at value ≡ digits_of k text (at + 1) (10 * value + (byte_at text at - 48))
unfolding digits_of
digits_more k text at value d = simp d

digits_stop : (k : ℕ) (text : List ℕ) (at value : ℕ) → is_digit (byte_at text at) ≡ false → digits_of (suc k) text at value ≡ record { value = value; next = at }
unfolding digits_of
digits_stop k text at value d = simp d

digits_none : (text : List ℕ) (at value : ℕ) → digits_of 0 text at value ≡ record { value = value; next = at }
unfolding digits_of
digits_none text at value = refl

-- what was read so far, and that the rest makes the whole
pub record Taken (text : List ℕ) (at most value next : ℕ) : Type 0 where
  pub goes : digits_of (at + most - next) text next value ≡ digits_of most text at 0
  pub from : at ≤ next
  pub to : next ≤ at + most
  pub inside : next ≤ length text
  pub small : value < tens (next - at)

pub taken_first : (text : List ℕ) (at most : ℕ) → at ≤ length text → Taken text at most 0 at
unfolding tens
taken_first text at most h = record {
  goes = ap (λ (k : ℕ). digits_of k text at 0) (let e : at + most - at ≡ most = omega arith in
      e);
  from = omega arith;
  to = omega arith;
  inside = h;
  small = subst (λ (k : ℕ). 0 < tens k) (let e : 0 ≡ at - at = omega arith in e) (omega arith);
}

tens_next : (n : ℕ) → tens (suc n) ≡ 10 * tens n
unfolding tens
tens_next n = refl

tens_few : (n : ℕ) → n ≤ 3 → tens n ≤ 1000
unfolding tens
tens_few zero h = omega arith
tens_few (suc zero) h = omega arith
tens_few (suc (suc zero)) h = omega arith
tens_few (suc (suc (suc zero))) h = omega arith
tens_few (suc (suc (suc (suc n)))) h = absurd (omega arith)

module _ {text : List ℕ} {at most value next : ℕ} (t : Taken text at most value next) where
  pub few : most ≤ 3 → value < 1000
  few h = omega (arith, t.small, tens_few (next - at) (omega (arith, t.to)))

  pub taken_end : at + most ≤ next → record { value = value; next = next } ≡ digits_of most text at 0
  taken_end h = sym (digits_none text next value) ∙ ap (λ (k : ℕ). digits_of k text next value) (let e : 0 ≡ at + most - next = omega arith in e) ∙ t.goes

  module _ {byte : ℕ} (more : next < at + most) (b : byte ≡ byte_at text next) where
    left : at + most - next ≡ suc (at + most - (next + 1))
    left = omega arith

    pub taken_stop : is_digit byte ≡ false → record { value = value; next = next } ≡ digits_of most text at 0
    taken_stop d = sym (digits_stop (at + most - (next + 1)) text next value (ap is_digit (sym b) ∙ d)) ∙ ap (λ (k : ℕ). digits_of k text next value) (sym left) ∙ t.goes

    not_past : is_digit byte ≡ true → next < length text
    not_past d = let past : length text ≤ next → ⊥ = λ h. omega (arith, past_end text next h, digit_range byte d) in omega arith

    pub taken_more : is_digit byte ≡ true → Taken text at most (10 * value + (byte - 48)) (next + 1)
    taken_more d =
        record {
          goes = ap (λ (x : ℕ). digits_of (at + most - (next + 1)) text (next + 1) (10 * value + (x - 48))) b ∙
              sym (digits_more (at + most - (next + 1)) text next value (ap is_digit (sym b) ∙ d)) ∙ ap (λ (k : ℕ). digits_of k text next value) (sym left) ∙ t.goes;
          from = omega (arith, t.from);
          to = omega arith;
          inside = omega (arith, not_past d);
          small = omega (arith, t.small, t.from, digit_range byte d, tens_next (next - at), ap tens (let e : next + 1 - at ≡ suc (next - at) = omega (arith, t.from) in e));
        }
