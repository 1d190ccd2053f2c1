-- Opening: the reply and the whole lent text.
use Rattle.std.specs.Prelude.{◌≤◌, ◌<◌, ◌≡◌, Option, Some, None}
use Rattle.numbers.specs.{Lists.{zeros, padded}, Prelude.{ℕ, leb, length, Bool, true, false, List}, Reply.{Reply, given, refused, plain, demand, ◌>>=◌, ◌>>◌}}
use Rattle.header.specs.{Header.{Texts, Contents, contents_by}, declared.opening.{Opening.{Opening}}}

-- the header with names and notice; 18 last, where these have no room
unfoldable pub fitting_of : Bool → List ℕ → ℕ → Reply Contents
fitting_of strict file room = do
  contents ← contents_by strict file
  demand (leb (length contents.bytes) room) (plain 18)
  given contents

-- the reply, and the whole lent text
pub record Replied : Type 0 where
  pub reply : Reply Opening
  pub text : List ℕ

-- names then notice, and zeros behind them; on a refusal zeros alone
abbrev pub replied_of : ℕ → Reply Contents → Replied
replied_of room (given contents) = record {
  reply = given (record {
    kind = contents.head.preamble.kind;
    version = contents.head.preamble.version;
    precision = contents.head.preamble.precision;
    count = contents.head.preamble.count;
    used = length contents.bytes;
  });
  text = padded room contents.bytes;
}
replied_of room (refused why) = record { reply = refused why; text = zeros room }

-- opening a file with so much room for text
unfoldable pub opened_by : Bool → List ℕ → ℕ → Replied
opened_by strict file room = replied_of room (fitting_of strict file room)

-- in the plain reading, and in the strict one
abbrev pub opened_of : List ℕ → ℕ → Replied
opened_of = opened_by false

abbrev pub opened_strictly : List ℕ → ℕ → Replied
opened_strictly = opened_by true

abbrev pub replied : Reply Opening → List ℕ → Replied
replied r text = record { reply = r; text = text }

-- what the writing of names and notice leaves, where they can be read
abbrev pub Filled : Reply Texts → ℕ → Option ℕ → List ℕ → Type 0
Filled (given texts) room r text =
    (length texts.bytes ≤ room → (r ≡ Some (length texts.bytes)) × (text ≡ padded room texts.bytes))
    × (room < length texts.bytes → r ≡ None)
Filled (refused why) room r text = Unit {0}
