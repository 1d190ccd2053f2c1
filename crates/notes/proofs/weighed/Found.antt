-- What the chains find of a value says what it weighs. Assumes nothing.
use Rattle.numbers.proofs.Prelude.{ℕ, suc, ◌+◌, ◌-◌, ◌*◌, ◌≤◌, eq-eqb, ne_eqb, le-leb, lt-leb, eqb, leb, length, length-append, length-map, Bool, true, false, ◌&&◌, ◌||◌, not, List, [], ◌∷◌, map}
use Rattle.numbers.{proofs.{Prelude.{◌≡◌, refl, sym, ap, ◌∙◌, add-one, arith}, Spelling.{varint_byte}}, specs.{Answer.{if◌then◌else◌}, Spelling.{varint_of}}}
use Rattle.builder.specs.{Grouping.Items.{starts_from, text_at}, Metadata.{inlined, is_remote}, Sharing.{same_text, is_in, times_in}, Yards.{Text}}
use Rattle.notes.specs.{Chains.{Chains.{last_with, meets}, Entered.{is_field}}, inner.Weighed.Weights.{Weight, nothing, behind, unmet, weight_of}}
use Rattle.header.specs.Utf8.{unmasked}
use Rattle.build.specs.Metadata.Kept.{fields_to}
use Rattle.notes.proofs.weighed.{Counted.{count_with, count_none, count_last, fields_counted, alike_one}, Weighed.{in_neither}}
use mathlib.Core.Bool.{and-false}

-- ---- how often a value stands in the fields
module _ (names : ℕ) (lengths starts texts : List ℕ) (begin : starts ≡ starts_from 0 lengths) (count value : ℕ) where
  abbrev text : Text
  text = text_at starts texts value

  -- a field that is the same as the value
  abbrev met : ℕ → Bool
  met = meets starts texts 1 (is_field names lengths texts) value

  times_met : count_with met (count * names) ≡ times_in same_text text (fields_to names lengths texts count)
  times_met =
      fields_counted names lengths texts text met (λ v. ap (λ (b : Bool). is_field names lengths texts v && b) (alike_one starts texts value v
      ∙ ap (λ (s : List ℕ). same_text text (text_at s texts v)) begin)) count

  pub met_none : (found : ℕ) → found ≡ last_with met (count * names) → found ≡ 0 → times_in same_text text (fields_to names lengths texts count) ≡ 0
  met_none found e z = sym times_met ∙ count_none met (count * names) (sym e ∙ z)

  pub met_twice : (found before : ℕ) → found + 1 ≡ last_with met (count * names) → before ≡ last_with met found → (before ≡ 0 → ⊥) →
      2 ≤ times_in same_text text (fields_to names lengths texts count)
  met_twice found before e f more = let last : last_with met (count * names) ≡ suc found = sym e ∙ add-one found in
      let other : last_with met found ≡ suc (before - 1) = sym f ∙ omega (arith, more) in
      omega (arith, times_met, count_last met (count * names) found last, count_last met found (before - 1) other)

-- ---- what it weighs
never_in : (t : Text) (xs : List Text) → times_in same_text t xs ≡ 0 → is_in same_text t xs ≡ false
unfolding times_in is_in
never_in t [] e = refl
never_in t (x ∷ xs) e = go (same_text t x) e (never_in t xs) where
  go : (b : Bool) → (if b then 1 else 0) + times_in same_text t xs ≡ 0 → (times_in same_text t xs ≡ 0 → is_in same_text t xs ≡ false) → (b || is_in same_text t xs) ≡ false
  go true e k = absurd (omega (arith, e))
  go false e k = k (omega (arith, e))

module _ (fields : List Text) (word : ℕ) (seen : List Text) (t : Text) where
  inline_weight : is_remote fields t ≡ false → weight_of fields word t ≡ length (varint_of (length t)) + length t
  unfolding weight_of inlined
  inline_weight e =
      ap (λ (b : Bool). if b then word else length (inlined t)) e ∙ (length-append (varint_of (length t)) (map unmasked t) ∙ ap (λ (n : ℕ). length (varint_of (length t)) + n) (length-map t unmasked))

  pub empty_weight : length t ≡ 0 → Weight fields fields seen t × (1 ≡ weight_of fields word t)
  unfolding is_remote
  empty_weight e = let near : is_remote fields t ≡ false = ap (λ (b : Bool). not b && leb 2 (times_in same_text t fields)) (eq-eqb (length t) 0 e) in
      let one : length (varint_of (length t)) ≡ 1 = ap length (varint_byte (length t) (omega (arith, e))) in
      (nothing e, omega (arith, e, one, inline_weight near))

  pub new_weight : times_in same_text t fields ≡ 0 → is_in same_text t seen ≡ false → Weight fields fields seen t × (length (varint_of (length t)) + length t ≡ weight_of fields word t)
  unfolding is_remote
  new_weight none own =
      let near : is_remote fields t ≡ false = ap (λ (b : Bool). not (eqb (length t) 0) && b) (lt-leb 2 (times_in same_text t fields) (omega (arith, none))) ∙ and-false (not (eqb (length t) 0)) in
      (unmet (in_neither t fields seen (never_in t fields none) own), sym (inline_weight near))

  pub far_weight : 2 ≤ times_in same_text t fields → (length t ≡ 0 → ⊥) → Weight fields fields seen t × (word ≡ weight_of fields word t)
  unfolding is_remote weight_of
  far_weight twice some =
      let far : is_remote fields t ≡ true = ap (λ (b : Bool). not b && leb 2 (times_in same_text t fields)) (ne_eqb (length t) 0 some) ∙ le-leb 2 (times_in same_text t fields) twice in
      (behind far, sym (ap (λ (b : Bool). if b then word else length (inlined t)) far))
