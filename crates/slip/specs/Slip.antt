-- S-3, the slip, in its order.
use Rattle.std.specs.Prelude.{◌&&◌, ◌∷◌}
use Rattle.numbers.specs.Prelude.{ℕ, min, eqb, leb, Float, ℤ, length, Bool, true, false, List, []}
use Rattle.numbers.specs.{Lists.{zeros, padded}, Reply.{Reply, given, refused, refusal, plain, demand, ◌>>=◌, ◌>>◌}}
use Rattle.std.specs.Float.Ieee.{le, neg}
use Rattle.atlas.specs.Beside.{zones_beside}
use Rattle.header.specs.Header.{head_of}
use Rattle.line.specs.Put.{far}
use Rattle.request.specs.{Request.{request_of}, declared.read.Fix.{Fix}}
use Rattle.slip.specs.{Hour.{Hour, hours_from}, Line.{line_of}, declared.slip.Stamped.{Stamped}}
use Rattle.table.specs.{Find.{ninety, half_turn}, Hits.{words}, declared.{hits.Hit.{Hit}, location.Location.{Location}}}
use Rattle.verdict.specs.Edge.{same_z}

-- ---- what is asked about
abbrev pub place_of : Fix → Location
place_of fix = record { lat = fix.lat; lon = fix.lon }

-- degrees from -limit to limit; NaN is not
unfoldable pub within : Float → Float → Bool
within limit degrees = le (neg limit) degrees && le degrees limit

-- a place on the globe
unfoldable pub on_globe : Fix → Bool
on_globe fix = within ninety fix.lat && within half_turn fix.lon

-- ---- what the hours of the matches come to
-- they have this offset, all of them
unfoldable pub have_offset : ℤ → List Hour → Bool
have_offset offset [] = true
have_offset offset (hour ∷ hours) = same_z hour.offset offset && have_offset offset hours

-- 86: there is no match; 92: the offsets differ; else what all say: the first one's
unfoldable pub agreed : List Hour → Reply Hour
agreed [] = refused (plain 86)
agreed (hour ∷ hours) = do
  demand (have_offset hour.offset (hour ∷ hours)) (plain 92)
  given hour

-- 18: the line does not fit, with its length, as far as a number of 64 bits counts
unfoldable pub fitted : ℕ → List ℕ → Reply (List ℕ)
fitted size line = do
  demand (leb (length line) size) (refusal 18 0 (min (length line) far))
  given line

-- ---- the slip
-- what is stamped: length of the line, matches, offset; the line; and the matches with their texts, as the lookup left them
pub record Slip : Type 0 where
  pub stamped : Stamped
  pub line : List ℕ
  pub matches : List Hit
  pub text : List ℕ

-- in a map with the words of its atlas, where none is no atlas, with so many words for hits and so many bytes for texts and the line
unfoldable pub slip_at : Fix → List ℕ → List ℕ → List ℕ → ℕ → ℕ → ℕ → Reply Slip
slip_at fix map atlas zones n room size = do
  demand (on_globe fix) (plain 84)
  head ← head_of map
  looked ← zones_beside map head atlas (place_of fix) false n room
  demand (eqb looked.answer.mark 1) (refusal 85 0 looked.answer.mark)
  hours ← hours_from map head zones fix.instant 1 looked.matches
  hour ← agreed hours
  line ← fitted size (line_of hour hours)
  given (record { stamped = record { length = length line; matches = length hours; offset = hour.offset }; line = line; matches = looked.matches; text = looked.text })

-- of what a request means
unfoldable pub slip_of : List ℕ → List ℕ → List ℕ → List ℕ → ℕ → ℕ → ℕ → Reply Slip
slip_of request map atlas zones n room size = do
  fix ← request_of request
  slip_at fix map atlas zones n room size

-- ---- the reply, with all that was lent
pub record Replied : Type 0 where
  pub reply : Reply Stamped
  pub hits : List ℕ
  pub text : List ℕ
  pub out : List ℕ

abbrev pub replied : Reply Stamped → List ℕ → List ℕ → List ℕ → Replied
replied reply hits text out = record { reply = reply; hits = hits; text = text; out = out }

-- stamped: zeros behind the matches, the text and the line; not stamped: zeros throughout
unfoldable pub replied_of : ℕ → ℕ → ℕ → Reply Slip → Replied
replied_of n room size (given slip) = replied (given slip.stamped) (padded n (words slip.matches)) (padded room slip.text) (padded size slip.line)
replied_of n room size (refused why) = replied (refused why) (zeros n) (zeros room) (zeros size)

unfoldable pub slipped_at : Fix → List ℕ → List ℕ → List ℕ → ℕ → ℕ → ℕ → Replied
slipped_at fix map atlas zones n room size = replied_of n room size (slip_at fix map atlas zones n room size)

unfoldable pub slipped : List ℕ → List ℕ → List ℕ → List ℕ → ℕ → ℕ → ℕ → Replied
slipped request map atlas zones n room size = replied_of n room size (slip_of request map atlas zones n room size)
