-- The entries of a written table are read back as its rows, plainly and strictly. Assumes nothing.
use Rattle.numbers.proofs.Prelude.{ℕ, zero, suc, ◌+◌, ◌-◌, ◌*◌, ◌/◌, ◌%◌, ◌^◌, ◌≤◌, ◌<◌, ℤ, pos, ◌-ℤ◌, neg_ℤ, nat_abs, length, length-append, Bool, List, [], ◌∷◌, ◌++◌, map, append_assoc, ◌⊎◌, inl}
use Rattle.numbers.proofs.{Prelude.{inr, ◌≡◌, refl, sym, ap, ◌∙◌, arith}, Readings.{reading_grows}, Spelling.{signed_back, signed_small, varint_whole}, float.Squares.{le_or_lt}}
use Rattle.numbers.specs.{Answer.{Answer, found}, Point.{low32, half_of}, Spelling.{varint_of, signed_form}, Varint.{Numeral, numeral, reading_of}}
use Rattle.border.proofs.{AtPlace.{at_as, number_at}, OnWay.{At, at_first, at_next, some_bytes}}
use Rattle.builder.{proofs.Steps.{step_down, step_up}, specs.Entries.{Entry, box_bytes, entry_bytes, table_from}}
use Rattle.promises.specs.Built.Seats.{Entered, bounds_in, seats_from, rows_of}
use Rattle.table.{proofs.{SixNumbers.{six_read, entry_row}, TableRows.{at_end, at_row}}, specs.{Rows.{row, row_by, rows_from}, Table.{entry_by}, declared.rows.Row.{Row}}}

-- ---- the steps, and back
low_negative : (n : ℕ) → n < 2 ^ 32 → low32 (neg_ℤ (pos n)) ≡ (2 ^ 32 - n) % 2 ^ 32
low_negative zero h = refl
low_negative (suc k) h = omega arith

record_up : (from to : ℕ) → to < 2 ^ 32 → from ≤ to → (from + low32 (half_of ((to - from) * 2))) % 2 ^ 32 ≡ to
record_up from to h k = let even : (to - from) * 2 % 2 ≡ 0 = omega arith in let half : (to - from) * 2 / 2 ≡ to - from = omega arith in
    rw (even, half) (omega arith)

record_down : (from to : ℕ) → from < 2 ^ 32 → to < from → (from + low32 (half_of ((from - to) * 2 + 1))) % 2 ^ 32 ≡ to
record_down from to h k = let odd : ((from - to) * 2 + 1) % 2 ≡ 1 = omega arith in let half : ((from - to) * 2 + 1) / 2 ≡ from - to = omega arith in
    rw (odd, half, low_negative (from - to) (omega arith)) (omega arith)

module _ (from to : ℕ) (h : from < 2 ^ 32) (k : to < 2 ^ 32) where
  pub record_back : (from + low32 (half_of (signed_form (pos to -ℤ pos from)))) % 2 ^ 32 ≡ to
  record_back = go (le_or_lt from to) where
    go : (from ≤ to) ⊎ (to < from) → (from + low32 (half_of (signed_form (pos to -ℤ pos from)))) % 2 ^ 32 ≡ to
    go (inl l) = rw (← step_up from to l) (record_up from to k l)
    go (inr l) = rw (← step_down from to l) (record_down from to h l)

  step_small : signed_form (pos to -ℤ pos from) < 2 ^ 64
  step_small = go (le_or_lt from to) where
    go : (from ≤ to) ⊎ (to < from) → signed_form (pos to -ℤ pos from) < 2 ^ 64
    go (inl l) = rw (← step_up from to l) (omega arith)
    go (inr l) = rw (← step_down from to l) (omega arith)

  pub border_back : (from + (to + 2 ^ 32 - from) % 2 ^ 32) % 2 ^ 32 ≡ to
  border_back = omega arith

-- an entry whose numbers are small
pub record Small (e : Entry) : Type 0 where
  pub south : nat_abs e.bounds.south < 2 ^ 31
  pub west : nat_abs e.bounds.west < 2 ^ 31
  pub north : nat_abs e.bounds.north < 2 ^ 31
  pub east : nat_abs e.bounds.east < 2 ^ 31
  pub record' : e.record' < 2 ^ 32
  pub border : e.border < 2 ^ 32

module _ (strict : Bool) (file : List ℕ) (place r b : ℕ) (e : Entry) (r_small : r < 2 ^ 32) (b_small : b < 2 ^ 32) (small : Small e) (here : At file place (entry_bytes r b e)) where
  abbrev read : ℕ → Answer Numeral
  read = reading_of strict file

  abbrev word : ℤ → List ℕ
  word z = varint_of (signed_form z)

  abbrev metadata : ℕ
  metadata = signed_form (pos e.record' -ℤ pos r)

  abbrev polygon : ℕ
  polygon = (e.border + 2 ^ 32 - b) % 2 ^ 32

  abbrev six : List ℕ
  six = word e.bounds.south ++ (word e.bounds.west ++ (word e.bounds.north ++ (word e.bounds.east ++ (varint_of metadata ++ varint_of polygon))))

  as_six : entry_bytes r b e ≡ six
  unfolding entry_bytes box_bytes
  as_six = simp append_assoc

  pub some_entry : 0 < length (entry_bytes r b e)
  some_entry =
      omega
      (arith, ap length as_six ∙ length-append (word e.bounds.south) _, some_bytes (varint_whole (signed_form e.bounds.south) (omega (arith, signed_small e.bounds.south small.south))))

  signed_read : (z : ℤ) → nat_abs z < 2 ^ 31 → (p : ℕ) (more : List ℕ) → At file p (word z ++ more) → read p ≡ numeral (signed_form z) (p + length (word z))
  signed_read z h p more at = number_at strict file p (signed_form z) (omega (arith, signed_small z h)) (at_first file p (word z) more at)

  pub entry_read : entry_by read place ≡ found (record { bounds = bounds_in e.bounds; metadata = metadata; polygon = polygon; next = place + length (entry_bytes r b e) })
  entry_read =
      let p1 = place + length (word e.bounds.south) in
      let p2 = p1 + length (word e.bounds.west) in
      let p3 = p2 + length (word e.bounds.north) in
      let p4 = p3 + length (word e.bounds.east) in
      let p5 = p4 + length (varint_of metadata) in
      let p6 = p5 + length (varint_of polygon) in
      let a0 : At file place six = at_as as_six here in
      let a1 = at_next file place (word e.bounds.south) _ a0 in
      let a2 = at_next file p1 (word e.bounds.west) _ a1 in
      let a3 = at_next file p2 (word e.bounds.north) _ a2 in
      let a4 = at_next file p3 (word e.bounds.east) _ a3 in
      let a5 = at_next file p4 (varint_of metadata) _ a4 in
      let size : p6 ≡ place + length (entry_bytes r b e) =
      omega (
        arith,
        ap length as_six ∙ length-append (word e.bounds.south) _,
        length-append (word e.bounds.west) (word e.bounds.north ++ (word
            e.bounds.east ++ (varint_of metadata ++ varint_of polygon))),
        length-append (word e.bounds.north) (word e.bounds.east ++ (varint_of metadata ++ varint_of polygon)),
        length-append (word e.bounds.east) (varint_of metadata ++ varint_of polygon),
        length-append (varint_of metadata) (varint_of polygon),
      ) in
      six_read read (signed_read e.bounds.south small.south place _ a0) (signed_read e.bounds.west small.west p1 _ a1)
      (signed_read e.bounds.north small.north p2 _ a2) (signed_read e.bounds.east small.east p3 _ a3)
      (number_at strict file p4 metadata (step_small r e.record' r_small small.record') (at_first file p4 (varint_of metadata) _ a4))
      (number_at strict file p5 polygon (omega arith) a5)
      ∙ rw
      (signed_back e.bounds.south small.south, signed_back e.bounds.west small.west, signed_back e.bounds.north small.north, signed_back e.bounds.east small.east, size)

  pub row_read : (id : ℕ) → row_by read (record { place = place; id = id; metadata = r; polygon = b })
      ≡ found (record { place = place; id = id; metadata = e.record'; polygon = e.border; bounds = bounds_in e.bounds; next = place + length (entry_bytes r b e) })
  row_read id =
      entry_row read (record { place = place; id = id; metadata = r; polygon = b }) _ entry_read
      ∙ rw (record_back r e.record' r_small small.record', border_back b e.border b_small small.border)

-- ---- every entry
unfoldable pub AllSmall : List Entered → Type 0
AllSmall [] = Unit
AllSmall (e ∷ es) = Small e.entry × AllSmall es

abbrev pub entry_in : Entered → Entry
entry_in e = e.entry

pub rows_read : (strict : Bool) (file : List ℕ) (end : ℕ) (es : List Entered) → AllSmall es → (place id r b : ℕ) → r < 2 ^ 32 → b < 2 ^ 32 → id + length es < 2 ^ 32
    → At file place (table_from r b (map entry_in es)) → place + length (table_from r b (map entry_in es)) ≡ end
    → rows_from (reading_of strict file) end (record { place = place; id = id; metadata = r; polygon = b }) ≡ rows_of (seats_from place id r b es)
unfolding AllSmall table_from seats_from rows_of
rows_read strict file end [] small place id r b h k few here whole =
    at_end (reading_of strict file) (reading_grows strict file) (record { place = place; id = id; metadata = r; polygon = b }) (omega arith)
rows_read strict file end (e ∷ es) small place id r b h k few here whole = let entry = e.entry in
    let rest = table_from entry.record' entry.border (map entry_in es) in let first = at_first file place (entry_bytes r b entry) rest here in
    let next = place + length (entry_bytes r b entry) in let size = length-append (entry_bytes r b entry) rest in
    let some = some_entry strict file place r b entry h k small.0 first in let numbered : (id + 1) % 2 ^ 32 ≡ id + 1 = omega arith in
    let seat : Row = record { place = place; id = id; metadata = entry.record'; polygon = entry.border; bounds = bounds_in entry.bounds; next = next } in
    at_row (reading_of strict file) (reading_grows strict file) (record { place = place; id = id; metadata = r; polygon = b }) (omega arith)
    {next = record { place = next; id = id + 1; metadata = entry.record'; polygon = entry.border }} (sym (row_read strict file place r b entry h k small.0 first id))
    (rw numbered) ∙ ap (row seat) (rows_read strict file end es small.1 next (id + 1) entry.record' entry.border small.0.record' small.0.border
    (omega arith) (at_next file place (entry_bytes r b entry) rest here) (omega arith))
