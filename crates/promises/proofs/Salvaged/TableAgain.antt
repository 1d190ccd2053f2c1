-- The entries of a new table are read back as its rows, plainly and strictly. Assumes nothing.
use Rattle.numbers.proofs.{Coordinates.{below}, Prelude.{ℕ, suc, ◌+◌, ◌-◌, ◌*◌, ◌/◌, ◌%◌, ◌^◌, ◌≤◌, ◌<◌, ltb, ℤ, pos, negsuc, ◌-ℤ◌, length, length-append, mag, Bool, true, false, List, [], ◌∷◌}}
use Rattle.numbers.proofs.{Prelude.{◌++◌, append_assoc, flat_map, ◌≡◌, refl, sym, ap, ◌∙◌, arith}, Readings.{reading_grows}, Spelling.{form_positive, form_negative, varint_whole}}
use Rattle.numbers.specs.{Answer.{Answer, found, if◌then◌else◌}, Point.{low32, read_i32, half_of}, Spelling.{varint_of, signed_form}, Varint.{Numeral, numeral, reading_of}}
use Rattle.border.proofs.{AtPlace.{at_as, number_at}, OnWay.{At, at_first, at_next, some_bytes}}
use Rattle.header.specs.declared.header.Head.{Head}
use Rattle.salvage.{proofs.moves.Forms.{form_again, form_few}, specs.File.{border_bytes, box_bytes, id_step, entry_bytes, table_from}}
use Rattle.table.{proofs.{SixNumbers.{six_read, entry_row}, TableRows.{at_end, at_row}}, specs.{Rows.{row, row_by, rows_from, as_rows}, Table.{entry_by}, declared.rows.Row.{Row}}}
use Rattle.promises.proofs.Salvaged.Sound.{Every, one, Fits, Sound}
use Rattle.promises.specs.inner.Salvaged.Seats.{seats_from}

-- ---- the step of a metadata id, and back
record Stepped (low : ℕ) (z : ℤ) : Type 0 where
  few : signed_form z < 2 ^ 64
  back : low32 (half_of (signed_form z)) ≡ low

positive : (n : ℕ) → n < 2 ^ 32 → low32 (half_of (2 * n)) ≡ n
positive n h = let even : 2 * n % 2 ≡ 0 = omega arith in let half : 2 * n / 2 ≡ n = omega arith in rw (even, half) (omega arith)

low_negative : (n : ℕ) → n < 2 ^ 32 → low32 (negsuc n) ≡ 2 ^ 32 - 1 - n
low_negative n h = omega arith

negative : (n : ℕ) → n < 2 ^ 32 → low32 (half_of (2 * suc n + 1)) ≡ 2 ^ 32 - 1 - n
negative n h = let odd : (2 * suc n + 1) % 2 ≡ 1 = omega arith in let half : (2 * suc n + 1) / 2 ≡ suc n = omega arith in rw (odd, half) (low_negative n h)

stepped : (low : ℕ) → low < 2 ^ 32 → Stepped low (read_i32 low)
stepped low h = go (ltb low (2 ^ 31)) refl where
  go : (t : Bool) → ltb low (2 ^ 31) ≡ t → Stepped low (if t then pos low else (pos low -ℤ pos (2 ^ 32)))
  go true e = record { few = rw (form_positive low) (omega arith); back = rw (form_positive low) (positive low h) }
  go false e = let n = 2 ^ 32 - 1 - low in
      rw (below low h) (record { few = rw (form_negative n) (omega arith); back = rw (form_negative n) (negative n (omega arith) ∙ omega arith) })

module _ (from to : ℕ) (h : from < 2 ^ 32) (k : to < 2 ^ 32) where
  abbrev low : ℕ
  low = (to + 2 ^ 32 - from) % 2 ^ 32

  step_few : signed_form (id_step from to) < 2 ^ 64
  step_few = (stepped low (omega arith)).few

  step_back : (from + low32 (half_of (signed_form (id_step from to)))) % 2 ^ 32 ≡ to
  step_back = ap (λ (n : ℕ). (from + n) % 2 ^ 32) (stepped low (omega arith)).back ∙ omega arith

-- ---- one entry
module _ (strict : Bool) (new : List ℕ) (place id size polygon : ℕ) (r : Row) (id_small : id < 2 ^ 32) (place_small : polygon + size < 2 ^ 32) (fits : Fits r)
    (here : At new place (entry_bytes id size r)) where
  abbrev read : ℕ → Answer Numeral
  read = reading_of strict new

  abbrev word : ℤ → List ℕ
  word z = varint_of (signed_form z)

  abbrev south : ℤ
  south = r.bounds.min_lat.0

  abbrev west : ℤ
  west = r.bounds.min_lon.0

  abbrev north : ℤ
  north = r.bounds.max_lat.0

  abbrev east : ℤ
  east = r.bounds.max_lon.0

  abbrev step : ℕ
  step = signed_form (id_step id r.metadata)

  abbrev six : List ℕ
  six = word south ++ (word west ++ (word north ++ (word east ++ (varint_of step ++ varint_of size))))

  as_six : entry_bytes id size r ≡ six
  unfolding entry_bytes box_bytes
  as_six = simp append_assoc

  some_entry : 0 < length (entry_bytes id size r)
  some_entry = omega (arith, ap length as_six ∙ length-append (word south) _, some_bytes (varint_whole (signed_form south) (form_few south fits.box.south)))

  signed_read : (z : ℤ) → mag z < 2 ^ 31 → (p : ℕ) (more : List ℕ) → At new p (word z ++ more) → read p ≡ numeral (signed_form z) (p + length (word z))
  signed_read z h p more at = number_at strict new p (signed_form z) (form_few z h) (at_first new p (word z) more at)

  entry_read : entry_by read place ≡ found (record { bounds = r.bounds; metadata = step; polygon = size; next = place + length (entry_bytes id size r) })
  entry_read =
      let p1 = place + length (word south) in
      let p2 = p1 + length (word west) in
      let p3 = p2 + length (word north) in
      let p4 = p3 + length (word east) in
      let p5 = p4 + length (varint_of step) in
      let p6 = p5 + length (varint_of size) in
      let a0 : At new place six = at_as as_six here in
      let a1 = at_next new place (word south) _ a0 in
      let a2 = at_next new p1 (word west) _ a1 in
      let a3 = at_next new p2 (word north) _ a2 in
      let a4 = at_next new p3 (word east) _ a3 in
      let a5 = at_next new p4 (varint_of step) _ a4 in
      let whole : p6 ≡ place + length (entry_bytes id size r) =
      omega (
        arith,
        ap length as_six ∙ length-append (word south) _,
        length-append (word west) (word north ++ (word east ++ (varint_of step ++ varint_of size))),
        length-append (word north) (word east ++ (varint_of step ++ varint_of size)),
        length-append (word east) (varint_of step ++ varint_of size),
        length-append (varint_of step) (varint_of size),
      ) in
      six_read read (signed_read south fits.box.south place _ a0) (signed_read west fits.box.west p1 _ a1) (signed_read north fits.box.north p2 _ a2)
      (signed_read east fits.box.east p3 _ a3)
      (number_at strict new p4 step (step_few id r.metadata id_small fits.id) (at_first new p4 (varint_of step) _ a4))
      (number_at strict new p5 size (omega arith) a5)
      ∙ rw (form_again south fits.box.south, form_again west fits.box.west, form_again north fits.box.north, form_again east fits.box.east, whole)

  row_read : (number : ℕ) → row_by read (record { place = place; id = number; metadata = id; polygon = polygon })
      ≡ found (record { place = place; id = number; metadata = r.metadata; polygon = polygon + size; bounds = r.bounds; next = place + length (entry_bytes id size r) })
  row_read number = let sum : (polygon + size) % 2 ^ 32 ≡ polygon + size = omega arith in
      entry_row read (record { place = place; id = number; metadata = id; polygon = polygon }) _ entry_read ∙ rw (step_back id r.metadata id_small fits.id, sum)

-- an entry has some bytes, so there are no more rows than bytes
entry_some : (id size : ℕ) (r : Row) → Fits r → 0 < length (entry_bytes id size r)
unfolding entry_bytes box_bytes
entry_some id size r fits = let south = varint_of (signed_form r.bounds.min_lat.0) in
    let some = some_bytes (varint_whole (signed_form r.bounds.min_lat.0) (form_few r.bounds.min_lat.0 fits.box.south)) in
    omega (
      arith,
      some,
      length-append (box_bytes r.bounds) (varint_of (signed_form (id_step id r.metadata)) ++ varint_of size),
      length-append south
          (varint_of (signed_form r.bounds.min_lon.0) ++ (varint_of (signed_form r.bounds.max_lat.0) ++ varint_of (signed_form r.bounds.max_lon.0))),
    )

pub entries_many : (file : List ℕ) (head : Head) (rows : List Row) → Every (Sound file head) rows → (id size : ℕ) → length rows ≤ length (table_from file head id size rows)
unfolding table_from
entries_many file head [] sound id size = omega arith
entries_many file head (r ∷ rows) (one s later) id size = let border = length (border_bytes file head r) in
    omega (arith, entries_many file head rows later r.metadata border, entry_some id size r s.fits, length-append (entry_bytes id size r) (table_from file head r.metadata border rows))

-- ---- every entry
module _ (file : List ℕ) (head : Head) (strict : Bool) (new : List ℕ) (end : ℕ) where
  pub rows_read : (rows : List Row) → Every (Sound file head) rows → (place number id size polygon : ℕ) → id < 2 ^ 32 → polygon + size + length (flat_map (border_bytes file head) rows) < 2 ^ 32
      → At new place (table_from file head id size rows) → place + length (table_from file head id size rows) ≡ end → number + length rows < 2 ^ 32
      → rows_from (reading_of strict new) end (record { place = place; id = number; metadata = id; polygon = polygon }) ≡ as_rows (seats_from file head place number id size polygon rows)
  unfolding table_from seats_from as_rows flat_map
  rows_read [] sound place number id size polygon h k here whole few =
      at_end (reading_of strict new) (reading_grows strict new) (record { place = place; id = number; metadata = id; polygon = polygon }) (omega arith)
  rows_read (r ∷ rows) (one s later) place number id size polygon h k here whole few = let border = length (border_bytes file head r) in
      let rest = table_from file head r.metadata border rows in let first = at_first new place (entry_bytes id size r) rest here in
      let next = place + length (entry_bytes id size r) in let sized = length-append (entry_bytes id size r) rest in
      let borders = length-append (border_bytes file head r) (flat_map (border_bytes file head) rows) in
      let some = some_entry strict new place id size polygon r h (omega arith) s.fits first in
      let numbered : (number + 1) % 2 ^ 32 ≡ number + 1 = omega arith in
      let seat : Row = record { place = place; id = number; metadata = r.metadata; polygon = polygon + size; bounds = r.bounds; next = next } in
      at_row (reading_of strict new) (reading_grows strict new) (record { place = place; id = number; metadata = id; polygon = polygon }) (omega arith)
      {next = record { place = next; id = number + 1; metadata = r.metadata; polygon = polygon + size }} (sym (row_read strict new place id size polygon r h
      (omega arith) s.fits first number)) (rw numbered) ∙ ap (row seat) (rows_read rows later next (number + 1) r.metadata border (polygon + size)
      s.fits.id (omega arith) (at_next new place (entry_bytes id size r) rest here) (omega arith) (omega arith))
