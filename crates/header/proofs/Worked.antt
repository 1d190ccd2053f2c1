-- Document 01's worked examples of UTF-8, those of RFC 3629, its strings, and the header of its printed file, and a name whose length the file's end cuts, as one table. Assumes nothing.
use Rattle.numbers.proofs.Prelude.{ℕ, replicate, Bool, true, false, List, [], ◌∷◌, ◌++◌, map, ◌≡◌, refl}
use Rattle.numbers.specs.{Answer.{Answer}, Reply.{given, refused, plain, refusal}, Varint.{reading_of, whole_of, value_of, size_of, too_long, forward_at}}
use Rattle.header.specs.{Header.{preamble_of, texts_from, sections_from, sections_at, contents_by}, Opening.{Replied, fitting_of, opened_by}, Text.{within, remote_at, string_at, bytes_of, text_at}}
use Rattle.header.specs.{Utf8.{characters, started_by, begun_by, followed, goes_on, is_utf8}, declared.text.Text.{Text}}
use Rattle.numbers.specs.Answer as A

-- a row: what is read, and what the document says of it
data Row : Type 0 where
  utf8 : List ℕ → Bool → Row
  -- a file, the metadata offset, a place
  string : List ℕ → ℕ → ℕ → Answer Text → Row
  -- plainly or strictly, a file and the room
  opens : Bool → List ℕ → ℕ → Replied → Row

-- the row with what the definitions say
computed : Row → Row
computed (utf8 bytes answer) = utf8 bytes (is_utf8 bytes)
computed (string file metadata place answer) = string file metadata place (string_at false file metadata place)
computed (opens strict file room answer) = opens strict file room (opened_by strict file room)

-- the file that `zone` is shown with
printed : List ℕ
printed =
    0x50 ∷ 0x4C ∷ 0x42 ∷ 0x43 ∷ 0x01 ∷ 0x10 ∷ 0x01 ∷ 0x04 ∷ 0xCE ∷ 0xE1 ∷ 0xED ∷ 0xE5 ∷ 0x00 ∷ 0x06 ∷ 0x02 ∷ 0x09 ∷ 0x04 ∷ 0x04 ∷ 0x14
    ∷ 0x14 ∷ 0x00 ∷ 0x00 ∷ 0x01 ∷ 0xC1 ∷ 0x30 ∷ 0x80 ∷ 0x02 ∷ 0x80 ∷ 0x04 ∷ 0x81 ∷ 0x02 ∷ 0x00 ∷ 0x00 ∷ []

-- one remote name, whose length is the file's last byte and has its high bit set: plainly read, an empty name
cut : List ℕ
cut = 0x50 ∷ 0x4C ∷ 0x42 ∷ 0x43 ∷ 0x01 ∷ 0x10 ∷ 0x01 ∷ 0x8D ∷ 0x02 ∷ 0x00 ∷ 0x00 ∷ 0x00 ∷ 0x01 ∷ 0x80 ∷ []

worked : List Row
worked =
    utf8 (0xF4 ∷ 0x8F ∷ 0xBF ∷ 0xBF ∷ []) true
    ∷ utf8 (0xC0 ∷ 0x80 ∷ []) false
    ∷ utf8 (0xED ∷ 0xA0 ∷ 0x80 ∷ []) false
    ∷ utf8 (0xF4 ∷ 0x90 ∷ 0x80 ∷ 0x80 ∷ []) false
    ∷ utf8 (0x41 ∷ 0xE2 ∷ 0x89 ∷ 0xA2 ∷ 0xCE ∷ 0x91 ∷ 0x2E ∷ []) true
    ∷ utf8 (0xED ∷ 0x95 ∷ 0x9C ∷ 0xEA ∷ 0xB5 ∷ 0xAD ∷ 0xEC ∷ 0x96 ∷ 0xB4 ∷ []) true
    ∷ utf8 (0xE6 ∷ 0x97 ∷ 0xA5 ∷ 0xE6 ∷ 0x9C ∷ 0xAC ∷ 0xE8 ∷ 0xAA ∷ 0x9E ∷ []) true
    ∷ utf8 (0xEF ∷ 0xBB ∷ 0xBF ∷ 0xF0 ∷ 0xA3 ∷ 0x8E ∷ 0xB4 ∷ []) true
    ∷ string (0x02 ∷ 0xC1 ∷ 0xC2 ∷ []) 0 0 (A.found (record { start = 1; size = 2; next = 3 }))
    ∷ string (0x00 ∷ []) 0 0 (A.found (record { start = 0; size = 0; next = 1 }))
    ∷ string (0x81 ∷ 0x02 ∷ 0xC3 ∷ 0x02 ∷ 0xC1 ∷ 0xC2 ∷ []) 2 0 (A.found (record { start = 4; size = 2; next = 2 }))
    ∷ string (0x80 ∷ 0x02 ∷ 0x81 ∷ 0x02 ∷ []) 2 0 A.failed
    ∷ string (0x02 ∷ 0xC1 ∷ []) 0 2 A.failed
    ∷ string (0x02 ∷ 0xC1 ∷ []) 0 0 (A.refused 14)
    ∷ string (replicate 10 0x80 ++ 0x00 ∷ []) 0 0 (A.refused 12)
    ∷ opens false printed 10 (record {
      reply = given (record { kind = 0x43; version = 1; precision = 16; count = 1; used = 8 });
      text = 0x00 ∷ 0x04 ∷ 0x4E ∷ 0x61 ∷ 0x6D ∷ 0x65 ∷ 0x00 ∷ 0x00 ∷ 0x00 ∷ 0x00 ∷ [];
    })
    ∷ opens false printed 7 (record { reply = refused (plain 18); text = replicate 7 0 })
    ∷ opens false (0x50 ∷ 0x4C ∷ 0x42 ∷ 0x43 ∷ 0x01 ∷ 0x10 ∷ 0x00 ∷ 0x00 ∷ 0x00 ∷ 0x00 ∷ 0x80 ∷ []) 1 (record { reply = refused (refusal 11 0 12); text = replicate 1 0 })
    ∷ opens false (0x50 ∷ 0x4C ∷ 0x42 ∷ 0x43 ∷ 0x01 ∷ 0x10 ∷ 0x00 ∷ 0x00 ∷ 0xFF ∷ 0xFF ∷ 0xFF ∷ 0xFF ∷ 0x0F ∷ 0x01 ∷ []) 2 (record { reply = refused (plain 13); text = replicate 2 0 })
    ∷ opens false cut 4 (record { reply = given (record { kind = 0x43; version = 1; precision = 16; count = 1; used = 4 }); text = replicate 4 0 })
    ∷ opens true cut 4 (record { reply = refused (plain 31); text = replicate 4 0 })
    ∷ []

-- the definitions and the documents agree on every row
worked_hold : map computed worked ≡ worked
unfolding reading_of whole_of computed printed cut worked characters started_by begun_by followed goes_on is_utf8 value_of size_of too_long forward_at within remote_at
    string_at bytes_of text_at preamble_of texts_from sections_from sections_at contents_by fitting_of opened_by
worked_hold = refl
