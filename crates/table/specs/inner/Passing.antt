-- Rows that a search passes over. No promise of a public function speaks of it.
use Rattle.std.specs.Prelude.{◌+◌, ◌≤◌, ◌<◌, ◌≡◌, Option, Some, None}
use Rattle.numbers.specs.{Answer.{found}, Point.{signed_of}, Prelude.{ℕ, length, Bool, true, false, List}, Varint.{Numeral, reading_of}}
use Rattle.verdict.specs.Verdict.{Judgement}
use Rattle.border.specs.declared.place.Point.{Point}
use Rattle.table.specs.{Rest.{rest_mark}, Rows.{after, start_at, row_by, rows_from}, Search.{seek}, Table.{bounds_of, entry_by, is_above, holds}, declared.{hits.Hit.{Hit}, table.Bounded.{Bounded}}}
use Rattle.table.specs.declared.{rows.{Cursor.{Cursor}, Row.{Row}}, table.{Bounds.{Bounds}, Entry.{Entry}}}

-- a number of at most three bytes, which both readings find
pub record Near (file : List ℕ) (place : ℕ) (number : Numeral) : Type 0 where
  pub reads : (strict : Bool) → found number ≡ reading_of strict file place
  pub close : number.place ≤ place + 3

abbrev pub Shortly : List ℕ → ℕ → Option Numeral → Type 0
Shortly file place (Some number) = Near file place number
Shortly file place None = Unit

-- two such numbers, one behind the other
abbrev pub Paired : List ℕ → ℕ → Option (Numeral × Numeral) → Type 0
Paired file place (Some (first, second)) = Near file place first × Near file first.place second
Paired file place None = Unit

-- four numbers are the bounds of a box, and end at a place
pub record Bounding (file : List ℕ) (place : ℕ) (bounds : Bounds) (next : ℕ) : Type 0 where
  pub south : Numeral
  pub west : Numeral
  pub north : Numeral
  pub east : Numeral
  pub south_there : Near file place south
  pub west_there : Near file south.place west
  pub north_there : Near file west.place north
  pub east_there : Near file north.place east
  pub are : bounds ≡ bounds_of south.value west.value north.value east.value
  pub then : next ≡ east.place

-- a box that is neither above the location nor holds it
abbrev pub MissedAt : List ℕ → Point → ℕ → Option Bounded → Type 0
MissedAt file fix place (Some by) = Bounding file place by.bounds by.next × (is_above by.bounds fix ≡ false) × (holds by.bounds fix ≡ false)
MissedAt file fix place None = Unit

-- a box above the location
abbrev pub AboveAt : List ℕ → Point → ℕ → Option Bounded → Type 0
AboveAt file fix place (Some by) = Bounding file place by.bounds by.next × (is_above by.bounds fix ≡ true)
AboveAt file fix place None = Unit

-- the longitudes of a box stand at two places
pub record Lons (file : List ℕ) (bounds : Bounds) (west east : ℕ) : Type 0 where
  pub low : Numeral
  pub high : Numeral
  pub low_there : Near file west low
  pub high_there : Near file east high
  pub low_is : bounds.min_lon.0 ≡ signed_of low.value
  pub high_is : bounds.max_lon.0 ≡ signed_of high.value
  pub west_inside : west + 2 < length file
  pub east_inside : east + 2 < length file

-- the row at a cursor is read, is not above the location and does not hold it; the next cursor is the one after it
pub record PassedRow (file : List ℕ) (fix : Point) (at next : Cursor) : Type 0 where
  pub row : Row
  pub reads : (strict : Bool) → found row ≡ row_by (reading_of strict file) at
  pub low : is_above row.bounds fix ≡ false
  pub missed : holds row.bounds fix ≡ false
  pub then : next ≡ after row

abbrev pub Passing : List ℕ → Point → Cursor → Option Cursor → Type 0
Passing file fix at (Some next) = PassedRow file fix at next
Passing file fix at None = Unit

-- whatever the borders say, a search goes on from the later cursor as from the earlier one
pub record PassedOver (file : List ℕ) (end : ℕ) (fix : Point) (at next : Cursor) : Type 0 where
  pub on : at.place ≤ next.place
  pub same : (strict : Bool) (judge : ℕ → ℕ → Judgement) (room least : ℕ) (hits : List Hit) →
      seek judge fix end room (rows_from (reading_of strict file) end at) least hits ≡ seek judge fix end room (rows_from (reading_of strict file) end next) least hits

-- the entry at a place is read and is above the location; the next place is where it ends
pub record Skipped (file : List ℕ) (fix : Point) (place next : ℕ) : Type 0 where
  pub entry : Entry
  pub reads : (strict : Bool) → found entry ≡ entry_by (reading_of strict file) place
  pub above : is_above entry.bounds fix ≡ true
  pub then : next ≡ entry.next

abbrev pub Skipping : List ℕ → Point → ℕ → Option ℕ → Type 0
Skipping file fix place (Some next) = Skipped file fix place next
Skipping file fix place None = Unit

-- behind a stop: the rest of the table gives the same mark from the later place as from the earlier one
pub record SkippedOver (file : List ℕ) (end : ℕ) (fix : Point) (place next : ℕ) : Type 0 where
  pub on : place ≤ next
  pub same : (strict : Bool) → rest_mark end fix (rows_from (reading_of strict file) end (start_at place)) ≡ rest_mark end fix (rows_from (reading_of strict file) end (start_at next))
