-- A field by how far its writing came. Assumes nothing.
use Rattle.numbers.proofs.Prelude.{ℕ, ◌+◌, ◌≤◌, ◌<◌, le-leb, lt-leb, length, length-map, Bool, List, map, ◌≡◌, refl, sym, ap, ◌∙◌, arith}
use Rattle.numbers.{proofs.Replies.{carried, onward, met, unmet}, specs.{Lists.{over}, Reply.{Reply, given, refused, plain}, declared.refusal.Refusal.{Refusal}}}
use Rattle.header.specs.{Field.{field, Field, field_at, sent_of, text_after}, Text.{bytes_of, text_at}, Utf8.{unmasked}, declared.{field.Sent.{Sent}, text.Text.{Text}}}
use Rattle.header.proofs.Strings.{Lies, text_lies, part, part_is, part_length}

module _ (strict : Bool) (file : List ℕ) (metadata place tag : ℕ) (text : List ℕ) where
  -- the reply and the text
  abbrev Wrote : Reply Sent → List ℕ → Type 0
  Wrote r last =
      (r ≡ sent_of (field_at strict file metadata place tag (length text))) × (last ≡ text_after (field_at strict file metadata place tag (length text)) text)

  from : (answer : Reply Field) → answer ≡ field_at strict file metadata place tag (length text) → (r : Reply Sent) (last : List ℕ) → r ≡ sent_of answer → last ≡ text_after answer text →
      Wrote r last
  from answer e r last told is = (told ∙ ap sent_of e, is ∙ ap (λ (a : Reply Field). text_after a text) e)

  pub bad : {why : Refusal} {r : Reply Sent} → r ≡ refused why → refused why ≡ text_at strict file metadata place (record { number = 15; detail = 0 }) → Wrote r text
  unfolding field_at
  bad {why} {r} is e = from (refused why) (carried e _) r text is refl

  module _ (string : Text) (e : given string ≡ text_at strict file metadata place (record { number = 15; detail = 0 })) where
    pub lies : Lies file string
    lies = text_lies file string strict metadata place (record { number = 15; detail = 0 }) e

    abbrev bytes : List ℕ
    bytes = field tag (bytes_of file string)

    bytes_length : length bytes ≡ string.size + 3
    bytes_length = omega (arith, ap length (sym (part_is file string)) ∙ length-map (part file string) unmasked ∙ part_length file string lies)

    pub no_room : (r : Reply Sent) → r ≡ refused (plain 18) → length text < string.size + 3 → Wrote r text
    unfolding field_at
    no_room r is h = let over_full : length text < length bytes = omega (arith, bytes_length) in
        from (refused (plain 18)) (unmet (lt-leb (length bytes) (length text) over_full) _ _ ∙ onward e _) r text is refl

    pub whole : (last : List ℕ) → string.size + 3 ≤ length text → last ≡ over (field tag (map unmasked (part file string))) text →
        Wrote (given (record { size = string.size + 3; next = string.next })) last
    unfolding field_at
    whole last h l = let fits : length bytes ≤ length text = omega (arith, bytes_length) in
        from (given (record { bytes = bytes; next = string.next })) (met (le-leb (length bytes) (length text) fits) _ _ ∙ onward e _)
        (given (record { size = string.size + 3; next = string.next })) last (rw bytes_length refl) (l ∙ ap (λ (b : List ℕ). over (field tag b) text) (part_is file string))
