-- What stands in a file as a written border: document 01, "The writer". It says what the bytes are, not how they are read.
use Rattle.std.specs.Prelude.{◌+◌, ◌≤◌, ◌<◌, ◌∷◌, ◌++◌, ◌≡◌}
use Rattle.numbers.specs.Prelude.{ℕ, pos, neg_ℤ, length, false, List, []}
use Rattle.numbers.specs.{Answer.{found}, Limits.{largest_file}, Point.{signed_of, point_of}, Spelling.{Whole}, declared.point.RawPoint.{RawPoint}}
use Rattle.border.specs.{Place.{point_at, move_by, is_still, moved_by, negated}, Trace.{Trace, point, closed}, declared.{place.Point.{Point}, reader.Version.{Version}}}
use Rattle.border.specs.declared.reader.Version.TheVariants.{Plain, Packed}

-- a run "splits into whole varints, none 0": the moves that they are
pub data Splits : List ℕ → List RawPoint → Type 0 where
  none : Splits [] []
  some : {w ws : List ℕ} {value : ℕ} {moves : List RawPoint} → Whole w value → 0 < value → Splits ws moves → Splits (w ++ ws) (point_of value ∷ moves)

-- moves "reversed and negated"
pub data Turned : List RawPoint → List RawPoint → Type 0 where
  none : Turned [] []
  some : {by back : RawPoint} {moves turned : List RawPoint} → negated by ≡ found back → Turned moves turned → Turned (by ∷ moves) (turned ++ (back ∷ []))

-- the moves of a piece, by the two numbers of its reference: "run start, signed length; backward, run end and the length negated"; "a backward run also
-- needs the byte just before it, of that data, with the high bit clear"
pub data Borrowed (earlier : List ℕ) : ℕ → ℕ → List RawPoint → Type 0 where
  forward : (before run after : List ℕ) {size : ℕ} {moves : List RawPoint} → earlier ≡ before ++ (run ++ after) → signed_of size ≡ pos (length run)
      → Splits run moves → Borrowed earlier (length before) size moves
  backward : (before : List ℕ) (clear : ℕ) (run after : List ℕ) {size : ℕ} {moves turned : List RawPoint}
      → earlier ≡ before ++ (clear ∷ (run ++ after)) → clear < 128 → signed_of size ≡ neg_ℤ (pos (length run))
      → Splits run moves → Turned moves turned → Borrowed earlier (length before + 1 + length run) size turned

-- version 1, behind the earlier data: "moves, 00 00"; a piece "is written 00 01", then its two numbers
pub data Version1 (earlier : List ℕ) : List ℕ → List RawPoint → Type 0 where
  closes : Version1 earlier (0 ∷ 0 ∷ []) []
  step : {w bytes : List ℕ} {value : ℕ} {more : List RawPoint} → Whole w value → 0 < value → Version1 earlier bytes more → Version1 earlier (w ++ bytes) (point_of value ∷ more)
  borrows : {start size : ℕ} {w w' bytes : List ℕ} {lent more : List RawPoint} → Whole w start → Whole w' size → Borrowed earlier start size lent
      → Version1 earlier bytes more → Version1 earlier (0 ∷ 1 ∷ (w ++ (w' ++ bytes))) (lent ++ more)

-- moves as pairs of signed numbers, none a zero move
pub data Pairs : List ℕ → List RawPoint → Type 0 where
  none : Pairs [] []
  some : {lat lon bytes : List ℕ} {a b : ℕ} {more : List RawPoint} → Whole lat a → Whole lon b → is_still (move_by (signed_of a) (signed_of b)) ≡ false
      → Pairs bytes more → Pairs (lat ++ (lon ++ bytes)) (move_by (signed_of a) (signed_of b) ∷ more)

-- version 0: "count, moves, then guard bytes", which are one more pair
pub data Version0 : List ℕ → List RawPoint → Type 0 where
  counted : {count bytes guard : List ℕ} {moves : List RawPoint} {last : RawPoint} → Whole count (length moves) → Pairs bytes moves → Pairs guard (last ∷ [])
      → Version0 (count ++ (bytes ++ guard)) moves

-- the bytes of these moves in a version, behind the earlier data
abbrev pub Encodes : Version → List ℕ → List ℕ → List RawPoint → Type 0
Encodes Plain earlier bytes moves = Version0 bytes moves
Encodes Packed earlier bytes moves = Version1 earlier bytes moves

-- the moves lead from a point through the points
pub data Leads : Point → List RawPoint → List Point → Type 0 where
  stays : {p : Point} → Leads p [] []
  step : {p q : Point} {by : RawPoint} {more : List RawPoint} {qs : List Point} → moved_by p by ≡ found q → Leads q more qs → Leads p (by ∷ more) (q ∷ qs)

-- a border of these points, at least one, written in a version behind the earlier data
pub record Border (version : Version) (earlier bytes : List ℕ) (points : List Point) : Type 0 where
  pub some : 0 < length points
  pub moves : List RawPoint
  pub encoded : Encodes version earlier bytes moves
  pub leads : Leads (point_at (pos 0) (pos 0)) moves points

-- it stands at a place of a file: behind any header and the same earlier data, before any rest, up to 1 GiB in all
pub record Placed (earlier bytes file : List ℕ) (base place : ℕ) : Type 0 where
  pub header : List ℕ
  pub rest : List ℕ
  pub layout : file ≡ header ++ (earlier ++ (bytes ++ rest))
  pub data_section : base ≡ length header
  pub border_place : place ≡ length header + length earlier
  pub size : length file ≤ largest_file

-- a border of these points stands at a place of a file of a version, in whatever way it was written
pub record Stands (version : Version) (file : List ℕ) (base place : ℕ) (points : List Point) : Type 0 where
  pub earlier : List ℕ
  pub bytes : List ℕ
  pub written : Border version earlier bytes points
  pub placed : Placed earlier bytes file base place

-- the points in order, then the rest of a trace
unfoldable pub points_then : List Point → Trace → Trace
points_then [] rest = rest
points_then (p ∷ ps) rest = point p (points_then ps rest)

-- its points in order, then the first again, closed
unfoldable pub round_trip : List Point → Trace
round_trip [] = closed
round_trip (p ∷ ps) = points_then (p ∷ ps) (point p closed)
