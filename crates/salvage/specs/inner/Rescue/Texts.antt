-- Names and notice, one by one, and what is written of them.
use Rattle.std.specs.Prelude.{◌++◌, ◌≡◌}
use Rattle.numbers.specs.{Limits.{longest_text}, Prelude.{ℕ, leb, take, drop, Bool, List}, Reply.{Reply, given, refused, plain, demand, ◌or_else◌, ◌>>=◌, ◌>>◌}, Spelling.{varint_of}}
use Rattle.header.specs.{Text.{string_at}, declared.text.Text.{Text}}
use Rattle.salvage.specs.inner.Moves.Laid.{Capped}

-- the text at a place of the header; 26 for one that can't stand inline
unfoldable pub short_text : Bool → List ℕ → ℕ → Reply Text
short_text strict file place = do
  text ← string_at strict file 0 place or_else plain 26
  demand (leb text.size longest_text) (plain 26)
  given text

-- its length and its bytes, as they are stored
unfoldable pub text_bytes : List ℕ → Text → List ℕ
text_bytes file text = varint_of text.size ++ take text.size (drop text.start file)

-- behind some bytes
abbrev pub behind : List ℕ → Reply (List ℕ) → Reply (List ℕ)
behind front (given bytes) = given (front ++ bytes)
behind front (refused why) = refused why

-- bytes that were given were written, and a refusal is told
abbrev pub Inlined : Reply (List ℕ) → List ℕ → ℕ → List ℕ → Reply ℕ → Type 0
Inlined (given bytes) before place after (given next) = Capped before place bytes after next
Inlined (given bytes) before place after (refused why) = ⊥
Inlined (refused why) before place after (given next) = ⊥
Inlined (refused why) before place after (refused told) = told ≡ why
