-- Strings and their places, field by field. Assumes nothing.
use Rattle.std.specs.Prelude.{Err}
use Rattle.numbers.proofs.Prelude.{ℕ, zero, suc, ◌+◌, ◌-◌, ◌%◌, ◌^◌, ◌≤◌, ◌<◌, lt-ltb, le-ltb, lt-leb, leb, Bool, true, false, ◌&&◌, List, [], ◌∷◌, ◌≡◌, refl, sym, ap, ◌∙◌, arith}
use Rattle.numbers.specs.{Answer.{Answer, found}, Reply.{Reply, given, refused, plain}, Varint.{Numeral, told, reading_of}, declared.{refusal.Refusal.{Refusal}, varint.Stop.{Stop}}}
use Rattle.salvage.proofs.moves.Ends.{by_stop}
use native.Mathlib.Numerals.{sub-one}
use Rattle.header.{proofs.Strings.{away}, specs.{Text.{text_at}, declared.{header.Head.{Head}, text.Text.{Text}}}}
use Rattle.salvage.specs.Kept.{in_section, span_inside, string_inside, field_good, fields_good}

nothing_in : (t : Bool) → false ≡ (t && false)
nothing_in true = refl
nothing_in false = refl

module _ (file : List ℕ) (head : Head) (place : ℕ) where
  -- ---- a length that can't be read
  pub span_stops : (stop : Stop) → told (Err stop) ≡ reading_of head.strict file place → false ≡ span_inside file head place
  unfolding span_inside
  span_stops = by_stop (λ (a : Answer Numeral). a ≡ reading_of head.strict file place → false ≡ span_inside file head place) (λ e. rw (← e)) (λ n e. rw (← e))

  pub string_stops : (stop : Stop) → told (Err stop) ≡ reading_of head.strict file place → false ≡ string_inside file head place
  unfolding string_inside
  string_stops = by_stop (λ (a : Answer Numeral). a ≡ reading_of head.strict file place → false ≡ string_inside file head place) (λ e. rw (← e)) (λ n e. rw (← e))

  -- ---- one that was read
  module _ {number : Numeral} (e : found number ≡ reading_of head.strict file place) where
    pub span_is : in_section head place (number.place + number.value) ≡ span_inside file head place
    unfolding span_inside
    span_is = rw (← e)

    pub span_far : 4294967295 < number.value → head.sections.«data» < 2 ^ 32 → false ≡ span_inside file head place
    span_far far small =
        nothing_in (leb head.sections.metadata place) ∙ ap (λ (t : Bool). leb head.sections.metadata place && t)
        (sym (lt-leb (number.place + number.value) head.sections.«data» (omega arith))) ∙ span_is

    pub string_inline : number.value < 256 → in_section head place (number.place + number.value) ≡ string_inside file head place
    unfolding string_inside
    string_inline h = rw (← e, lt-ltb number.value 256 h)

    string_remote : 256 ≤ number.value → (in_section head place number.place && span_inside file head ((head.sections.metadata + number.value - 256) % 2 ^ 32)) ≡ string_inside file head place
    unfolding string_inside
    string_remote h = rw (← e, le-ltb number.value 256 h)

    pub string_away : 256 ≤ number.value → {t : Bool} → t ≡ in_section head place number.place → t ≡ true
        → {r : Bool} → r ≡ span_inside file head ((head.sections.metadata + (number.value - 256) % 2 ^ 32) % 2 ^ 32) → r ≡ string_inside file head place
    string_away h s t g =
        g ∙ ap (span_inside file head) (away head.sections.metadata number.value h) ∙ ap (λ (b : Bool). b && span_inside file head
        ((head.sections.metadata + number.value - 256) % 2 ^ 32)) (sym t ∙ s) ∙ string_remote h

    pub string_cut : 256 ≤ number.value → {t : Bool} → t ≡ in_section head place number.place → t ≡ false → false ≡ string_inside file head place
    string_cut h s t = ap (λ (b : Bool). b && span_inside file head ((head.sections.metadata + number.value - 256) % 2 ^ 32)) (sym t ∙ s) ∙ string_remote h

  -- ---- a field
  abbrev value : Reply Text
  value = text_at head.strict file head.sections.metadata place (record { number = 15; detail = 0 })

  pub field_bad : {why : Refusal} → refused why ≡ value → refused why ≡ field_good file head place
  unfolding field_good
  field_bad e = rw (← e)

  pub field_inside : {text : Text} {t : Bool} → given text ≡ value → t ≡ string_inside file head place → t ≡ true → given text.next ≡ field_good file head place
  unfolding field_good
  field_inside e s t = rw (← e, ← s, t)

  pub field_outside : {text : Text} {t : Bool} → given text ≡ value → t ≡ string_inside file head place → t ≡ false → refused (plain 72) ≡ field_good file head place
  unfolding field_good
  field_outside e s t = rw (← e, ← s, t)

-- ---- fields, one after the other
module _ (file : List ℕ) (head : Head) where
  pub fields_none : (left here : ℕ) → left ≤ 0 → given tt ≡ fields_good file head left here
  unfolding fields_good
  fields_none zero here h = refl
  fields_none (suc k) here h = absurd (omega arith)

  pub fields_stop : (left here : ℕ) → 0 < left → {why : Refusal} → refused why ≡ field_good file head here → refused why ≡ fields_good file head left here
  unfolding fields_good
  fields_stop zero here h e = absurd (omega arith)
  fields_stop (suc k) here h e = rw (← e)

  pub fields_go : (left here : ℕ) → 0 < left → {next : ℕ} → given next ≡ field_good file head here → fields_good file head (left - 1) next ≡ fields_good file head left here
  unfolding fields_good
  fields_go zero here h e = absurd (omega arith)
  fields_go (suc k) here h e = rw (← e, sub-one)
