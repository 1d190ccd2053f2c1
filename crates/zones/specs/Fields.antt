-- The fields of the matches, as document 01 has them: in file order, each into what remains of the lent text.
use Rattle.std.specs.Prelude.{◌+◌, ◌-◌, ◌%◌, ◌^◌, ◌∷◌, ◌++◌, ◌≡◌}
use Rattle.numbers.specs.{Lists.{padded}, Prelude.{ℕ, zero, suc, length, List, []}, Reply.{Reply, given, ◌>>=◌}}
use Rattle.header.specs.{Field.{field_at}, declared.header.Head.{Head}}
use Rattle.table.specs.declared.hits.Hit.{Hit}

-- where the fields of a metadata id begin
abbrev pub fields_place : Head → ℕ → ℕ
fields_place head id = (head.sections.metadata + id) % 2 ^ 32

module _ (file : List ℕ) (head : Head) (room : ℕ) where
  -- a text with so many fields after it, the first with this tag and at this place
  unfoldable pub fields_from : ℕ → ℕ → ℕ → List ℕ → Reply (List ℕ)
  fields_from zero tag place text = given text
  fields_from (suc more) tag place text = do
    field ← field_at head.strict file head.sections.metadata place tag (room - length text)
    fields_from more (tag + 1) field.next (text ++ field.bytes)

  -- the fields of each match, one match after the other
  unfoldable pub fields_of : List Hit → List ℕ → Reply (List ℕ)
  fields_of [] text = given text
  fields_of (match ∷ matches) text = fields_from head.preamble.count 0 (fields_place head match.metadata) text >>= fields_of matches

-- ---- the code's answer: how much of the text is used, and the text
pub record Wrote (room : ℕ) (text out : List ℕ) (used : ℕ) : Type 0 where
  pub said : used ≡ length out
  pub kept : text ≡ padded room out
