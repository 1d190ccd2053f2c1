-- The rows of a built file's table stand in order. Assumes nothing.
use Rattle.numbers.proofs.Prelude.{ℕ, ◌+◌, ◌^◌, ◌≤◌, ◌<◌, le-ltb, ℤ, pos, nat_abs, length, length-append, List, [], ◌∷◌, map, ap, le_refl, arith}
use Rattle.builder.specs.{Borders.{Drawn}, Entries.{entry_bytes, table_from, from_south}, File.{Room}, Yards.{Plan}}
use Rattle.promises.proofs.Built.{Boxes.{south_order}, Parts.{Built}, Seating.{Sits, south_of, table_entries, all_sit, small}, TableRead.{entry_in}}
use Rattle.layout.{proofs.{Everyone.{Every}, Orders.{sorted_rises}}, specs.Order.{Under, Rising}}
use Rattle.promises.specs.Built.Seats.{Entered, entered_of, seats_from, table_in, table_place, seats_of, rows_of}
use Rattle.table.specs.Ordered.{Ordered, ends, next}

module _ (plan : Plan) (room : Room) (file : List ℕ) (b : Built plan room file) (end : ℕ) where
  abbrev drawn : Drawn
  drawn = b.drawn

  abbrev key : Entered → ℕ
  key = south_of plan drawn

  ordered_from : (es : List Entered) → Every (Sits plan drawn) es → Rising key es → (floor : ℤ) → nat_abs floor < 2 ^ 31 → Under key (from_south floor) es → (place id r border : ℕ)
      → place + length (table_from r border (map entry_in es)) ≤ end → Ordered end floor (rows_of (seats_from place id r border es))
  unfolding Every Rising Under seats_from rows_of table_from
  ordered_from [] sit rises floor low under place id r border h = ends
  ordered_from (e ∷ es) sit rises floor low under place id r border h = let entry = e.entry in let south = (small plan room file b e sit.0).south in
      let size = length-append (entry_bytes r border entry) (table_from entry.record' entry.border (map entry_in es)) in
      let here = place + length (entry_bytes r border entry) in
      next (south_order floor entry.bounds.south low south under.0) (le-ltb end here (omega arith))
      (ordered_from es sit.1 rises.1 entry.bounds.south south rises.0 here _ entry.record' entry.border (omega arith))

module _ (plan : Plan) (room : Room) (file : List ℕ) (b : Built plan room file) where
  abbrev table_end : ℕ
  table_end = table_place plan b.drawn + length (table_in plan b.drawn)

  rises : Rising (south_of plan b.drawn) (entered_of plan b.drawn)
  unfolding entered_of
  rises = sorted_rises (south_of plan b.drawn) _

  from_first : (es : List Entered) → Every (Sits plan b.drawn) es → Rising (south_of plan b.drawn) es → table_place plan b.drawn + length (table_from 0 0 (map entry_in es)) ≤ table_end
      → (floor : ℤ) × Ordered table_end floor (rows_of (seats_from (table_place plan b.drawn) 0 0 0 es))
  unfolding Every Rising Under seats_from rows_of
  from_first [] sit rise h = (pos 0, ends)
  from_first (e ∷ es) sit rise h = let south = e.entry.bounds.south in
      (south, ordered_from plan room file b table_end (e ∷ es) sit rise south (small plan room file b e sit.0).south (le_refl (from_south south), rise.0) (table_place plan b.drawn) 0 0 0 h)

  -- No lower latitude is below the one before it, and no row runs past the end of the table.
  pub in_order : (floor : ℤ) × Ordered table_end floor (rows_of (seats_of plan b.drawn))
  unfolding seats_of
  in_order = from_first (entered_of plan b.drawn) (all_sit plan room file b) rises (omega (arith, ap length (table_entries plan b.drawn)))
