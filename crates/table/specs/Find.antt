-- What both lookups do in a file whose header was read: its precision is looked at, its table searched, and the hits merged.
use Rattle.std.specs.Prelude.{◌/◌, ◌&&◌, ◌≡◌}
use Rattle.numbers.specs.Prelude.{ℕ, leb, Float, fin, pos, length, Bool, false, List}
use Rattle.numbers.specs.{Float.{fixed_point}, Lists.{zeros, padded}, Reply.{Reply, given, refused, plain, demand, ◌>>=◌, ◌>>◌}}
use Rattle.table.specs.{Hits.{width, words}, Merge.{merged}, Search.{searched}, declared.{find.{Matches.{Matches}}, hits.Hit.{Hit}, location.Location.{Location}}}
use Rattle.header.specs.declared.header.Head.{Head}
use Rattle.border.specs.declared.place.Point.{Point}
use Rattle.table.specs.Search as S

-- 90 and 180 as floats
abbrev pub ninety : Float
ninety = fin false 45 (pos 1)

abbrev pub half_turn : Float
half_turn = fin false 45 (pos 2)

-- the location as fixed coordinates, at a precision
unfoldable pub fix_of : Location → ℕ → Point
fix_of location precision = record {
  lat = record { 0 = fixed_point location.lat ninety precision };
  lon = record { 0 = fixed_point location.lon half_turn precision };
}

-- a precision that a lookup takes
abbrev pub is_precision : ℕ → Bool
is_precision precision = leb 1 precision && leb precision 32

-- the matches, the end mark, and the least squared distance
pub record Matched : Type 0 where
  pub matches : List Hit
  pub mark : ℕ
  pub least : ℕ

-- in a file with this header, by a search at the location's fixed coordinates
abbrev pub matched_by : Head → Location → (Point → Reply S.Found) → Reply Matched
matched_by head location search = do
  demand (is_precision head.preamble.precision) (plain 16)
  found ← search (fix_of location head.preamble.precision)
  given (record { matches = merged found.hits; mark = found.mark; least = found.least })

-- with room for so many hits before merging
unfoldable pub matched_with : List ℕ → Head → Location → Bool → ℕ → Reply Matched
matched_with file head location asked room = matched_by head location (λ fix. searched file head fix asked room)

-- the reply, and all lent words: the matches, and zeros behind them; on a refusal zeros alone
pub record Finding : Type 0 where
  pub reply : Reply Matches
  pub hits : List ℕ

abbrev pub finding : Reply Matches → List ℕ → Finding
finding reply hits = record { reply = reply; hits = hits }

unfoldable pub finding_of : ℕ → Reply Matched → Finding
finding_of n (given found) = record { reply = given (record { count = length found.matches; mark = found.mark; least = found.least }); hits = padded n (words found.matches) }
finding_of n (refused why) = record { reply = refused why; hits = zeros n }

unfoldable pub found_with : List ℕ → Head → Location → Bool → ℕ → Finding
found_with file head location asked n = finding_of n (matched_with file head location asked (n / width))

-- ---- the code's answer, and the lent words
pub record Matching (n : ℕ) (ws : List ℕ) (found : Matched) (m : Matches) : Type 0 where
  pub said : m ≡ record { count = length found.matches; mark = found.mark; least = found.least }
  pub kept : ws ≡ padded n (words found.matches)
