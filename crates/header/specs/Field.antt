-- Strings as they go out, and what a lent text then holds.
use Rattle.std.specs.Prelude.{◌/◌, ◌%◌, ◌∷◌}
use Rattle.numbers.specs.{Lists.{over}, Prelude.{ℕ, leb, length, Bool, List}, Reply.{Reply, given, refused, plain, demand, ◌>>=◌, ◌>>◌}}
use Rattle.header.specs.{Text.{bytes_of, text_at}, declared.field.{Sent.{Sent}}}

-- its length in two bytes, the high one first, and its bytes
abbrev pub entry : List ℕ → List ℕ
entry bytes = (length bytes / 256) ∷ (length bytes % 256) ∷ bytes

-- the same after a one-byte tag
abbrev pub field : ℕ → List ℕ → List ℕ
field tag bytes = tag ∷ entry bytes

-- a field, and the place to read on from
pub record Field : Type 0 where
  pub bytes : List ℕ
  pub next : ℕ

-- the field value at a place: 15 where it is bad, then 18 where it has no room
unfoldable pub field_at : Bool → List ℕ → ℕ → ℕ → ℕ → ℕ → Reply Field
field_at strict file metadata place tag room = do
  text ← text_at strict file metadata place (record { number = 15; detail = 0 })
  demand (leb (length (field tag (bytes_of file text))) room) (plain 18)
  given (record { bytes = field tag (bytes_of file text); next = text.next })

-- how much of the text it took
abbrev pub sent_of : Reply Field → Reply Sent
sent_of (given field) = given (record { size = length field.bytes; next = field.next })
sent_of (refused why) = refused why

-- the field over the front of the text; a refusal leaves it
abbrev pub text_after : Reply Field → List ℕ → List ℕ
text_after (given field) text = over field.bytes text
text_after (refused why) text = text
