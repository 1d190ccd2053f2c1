-- The points of a border, one turn of the reader's loop at a time: document 01, "Points, verdict, merge".
use Rattle.std.specs.Prelude.{◌+◌, ◌-◌, ◌%◌, ◌^◌, ◌+ℤ◌, ◌-ℤ◌, if◌then◌else◌}
use Rattle.numbers.specs.Prelude.{ℕ, zero, suc, eqb, ltb, leb, ℤ, pos, negsuc, Bool, true, List}
use Rattle.numbers.specs.{Answer.{Answer, found, failed, checked, ◌>>=◌}, Point.{low32, signed_of, point_of}, Varint.{Numeral, reading_of, backward_at}, declared.point.RawPoint.{RawPoint}}
use Rattle.border.specs.{Place.{move_by, is_still, moved_by, negated}, declared.{place.Point.{Point}, reader.{Reader.{Reader}, Run.{Run, TheVariants.{Idle, Forward, Backward}}}}}
use Rattle.border.specs.declared.reader.Version.{Version, TheVariants.{Plain, Packed}}
-- what a turn comes to: a point, which is the state's own; another turn; the border's end
pub use Rattle.border.specs.declared.reader.Turn.{Turn, TheVariants.{Gives as gives, Again as again, Ended as ends}}

-- reading goes on at a place, with moves that are left, in a run or in none
abbrev pub onward : Reader → ℕ → ℕ → Run → Reader
onward s place moves run = record { place = place; moves = moves; begun = s.begun; closed = s.closed; run = run; point = s.point; first = s.first }

-- a point is reached; the first one is kept to close with
abbrev pub arrived : Reader → Point → Reader
arrived s p = record { place = s.place; moves = s.moves; begun = true; closed = s.closed; run = s.run; point = p; first = if s.begun then s.first else p }

-- the closing point is the first one
abbrev pub closing : Reader → Reader
closing s = record { place = s.place; moves = s.moves; begun = s.begun; closed = true; run = s.run; point = s.first; first = s.first }

-- version 1: each move gives its point
unfoldable pub advanced : Reader → RawPoint → Answer Turn
advanced s by = moved_by s.point by >>= λ p. found (gives (arrived s p))

-- "A zero move gives no point", "two zeros drop the closing point"
abbrev pub shown_by : RawPoint → Reader → Turn
shown_by by s = if is_still by then again s else gives s

-- a move counts; past the last one the closing point is given
unfoldable pub plain_move : Reader → RawPoint → Answer Turn
plain_move s by = if eqb s.moves 0 then found (shown_by by (closing s)) else do
  p ← moved_by s.point by
  found (shown_by by (arrived (onward s s.place (s.moves - 1) Idle) p))

-- the reading of a number at a place, plain or strict
abbrev pub Reading : Type 0
Reading = ℕ → Answer Numeral

-- "The closing point also reads two signed numbers"
unfoldable pub plain_pair : Reading → Reader → Answer Turn
plain_pair read s = do
  lat ← read s.place
  lon ← read lat.place
  plain_move (onward s lon.place s.moves Idle) (move_by (signed_of lat.value) (signed_of lon.value))

-- version 0: "a count (0 fails), then moves"
unfoldable pub plain_turn : Reading → Reader → Answer Turn
plain_turn read s = if s.begun then plain_pair read s else do
  count ← read s.place
  if eqb count.value 0 then failed else plain_pair read (onward s count.place count.value Idle)

-- a place counted from the data section, modulo 2 ^ 32
abbrev pub data_place : ℕ → ℤ → ℕ
data_place base z = (base + low32 z) % 2 ^ 32

-- a number as an i64 has it
abbrev pub as_i64 : ℕ → ℤ
as_i64 n = if ltb n (2 ^ 63) then pos n else (pos n -ℤ pos (2 ^ 64))

-- a reference of a signed length: 0 opens none; a backward one starts and ends one byte lower
unfoldable pub opened : ℕ → ℤ → ℤ → Answer Run
opened base start (pos zero) = found Idle
opened base start (pos (suc n)) = checked 63 (start +ℤ pos (suc n)) >>= λ end. found (Forward (data_place base start) (data_place base end))
opened base start (negsuc n) = checked 63 (start +ℤ negsuc n) >>= λ end. found (Backward (data_place base (start -ℤ pos 1)) (data_place base (end -ℤ pos 1)))

-- "0 then 1 opens a reference (start, signed length)"
unfoldable pub reference : Reading → ℕ → Reader → Answer Turn
reference read base s = do
  start ← read s.place
  length ← read start.place
  run ← opened base (as_i64 start.value) (signed_of length.value)
  found (again (onward s length.place s.moves run))

-- "0 then 0 closes; .. 0 then another value repeats the point"
unfoldable pub marker : Reading → ℕ → Reader → Answer Turn
marker read base s = do
  mark ← read s.place
  let here = onward s mark.place s.moves Idle
  if eqb mark.value 0
      then found (gives (closing here))
      else if eqb mark.value 1 then reference read base here else found (gives (arrived here s.point))

-- "A 0 inside a reference fails"
unfoldable pub lent : ℕ → Answer RawPoint
lent value = if eqb value 0 then failed else found (point_of value)

-- what is left of a run that is read forward, and backward
unfoldable pub forward_from : ℕ → ℕ → Run
forward_from next end = if leb end next then Idle else Forward next end

unfoldable pub backward_from : ℕ → ℕ → Run
backward_from next end = if leb next end then Idle else Backward next end

-- version 1: the next number, outside a reference, inside one that is read forward, and backward
unfoldable pub packed_turn : Run → Reading → List ℕ → ℕ → Reader → Answer Turn
packed_turn Idle read f base s = do
  number ← read s.place
  let here = onward s number.place s.moves Idle
  if eqb number.value 0 then marker read base here else advanced here (point_of number.value)
packed_turn (Forward next end) read f base s = do
  number ← read next
  by ← lent number.value
  advanced (onward s s.place s.moves (forward_from number.place end)) by
packed_turn (Backward next end) read f base s = do
  number ← backward_at f next
  by ← lent number.value
  back ← negated by
  advanced (onward s s.place s.moves (backward_from number.place end)) back

-- a closed border has ended; the others are read by their version, strictly or not. A number that is read backward is always complete.
unfoldable pub turn_of : Bool → List ℕ → Version → ℕ → Reader → Answer Turn
turn_of strict f Plain base s = if s.closed then found ends else plain_turn (reading_of strict f) s
turn_of strict f Packed base s = if s.closed then found ends else packed_turn s.run (reading_of strict f) f base s
