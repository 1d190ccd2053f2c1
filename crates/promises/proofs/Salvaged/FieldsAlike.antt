-- The strings of a record that read alike in two files are the same fields. Assumes nothing.
use Rattle.numbers.{proofs.Prelude.{ℕ, suc, ◌+◌, ◌-◌, leb, length, Bool, true, false, List, ◌++◌, ◌≡◌, refl, sym, ap, ◌∙◌}, specs.Reply.{Reply, given, plain, demand, ◌>>=◌, ◌>>◌}}
use Rattle.header.specs.{Field.{Field, field, field_at}, Text.{bytes_of, text_at}, declared.{header.Head.{Head}, text.Text.{Text}}}
use Rattle.promises.proofs.Salvaged.Carried.{SameTexts, no_more, one_more}
use Rattle.zones.specs.Fields.{fields_from}

-- a field where it has room
abbrev fitted : Bool → ℕ → List ℕ → ℕ → Reply Field
fitted test tag bytes next = demand test (plain 18) >> given (record { bytes = field tag bytes; next = next })

field_at_lem : (strict : Bool) (file : List ℕ) (metadata place : ℕ) (text : Text) → text_at strict file metadata place (record { number = 15; detail = 0 }) ≡ given text → (tag room : ℕ)
    → field_at strict file metadata place tag room ≡ fitted (leb (length (field tag (bytes_of file text))) room) tag (bytes_of file text) text.next
unfolding field_at
field_at_lem strict file metadata place text e tag room = rw e

module _ (file : List ℕ) (head : Head) (room more tag : ℕ) (text : List ℕ) where
  -- the fields that follow one
  abbrev further : Field → Reply (List ℕ)
  further f = fields_from file head room more (tag + 1) f.next (text ++ f.bytes)

pub fields_from_lem : {file new : List ℕ} {head head' : Head} {more place place' : ℕ} → SameTexts file new head head' more place place' → (room tag : ℕ) (text : List ℕ)
    → fields_from new head' room more tag place' text ≡ fields_from file head room more tag place text
unfolding fields_from
fields_from_lem no_more room tag text = refl
fields_from_lem {file} {new} {head} {head'} {more = suc more} {place = place} {place' = place'} (one_more t t' reads reads' bytes placed later) room tag text =
    let left = room - length text in
    ap (λ (r : Reply Field). r >>= further new head' room more tag text) (field_at_lem head'.strict new head'.sections.metadata place' t' reads' tag left)
    ∙ ap (λ (b : List ℕ). fitted (leb (length (field tag b)) left) tag b t'.next >>= further new head' room more tag text) bytes
    ∙ go (leb (length (field tag (bytes_of file t))) left) (fields_from_lem later room (tag + 1) (text ++ field tag (bytes_of file t)))
    ∙ sym (ap (λ (r : Reply Field). r >>= further file head room more tag text) (field_at_lem head.strict file head.sections.metadata place t reads tag left)) where
      go : (test : Bool) → fields_from new head' room more (tag + 1) t'.next (text ++ field tag (bytes_of file t)) ≡ fields_from file head room more (tag + 1)
          t.next (text ++ field tag (bytes_of file t)) → (fitted test tag (bytes_of file t) t'.next >>= further new head' room more tag text) ≡
          (fitted test tag (bytes_of file t) t.next >>= further file head room more tag text)
      go true e = e
      go false e = refl
