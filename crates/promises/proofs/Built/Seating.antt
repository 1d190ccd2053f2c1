-- The rows of a built file's table are those of the sorted yards, each with its box, its record and its border; and they stand in order. Assumes nothing.
use Rattle.numbers.proofs.Prelude.{ℕ, suc, ◌+◌, ◌^◌, ◌≤◌, leb-true, ltb, leb, length, length-append, Bool, true, List, [], ◌∷◌, ◌++◌, map, append_assoc, flat_map, zip_with, ◌≡◌, refl, sym, ap, ◌∙◌}
use Rattle.numbers.proofs.{Prelude.{arith}, Tests.{both}}
use Rattle.writer.specs.Writer.{every}
use Rattle.builder.specs.{Borders.{Drawn, drawn_of}, Entries.{Entry, table_from, from_south, table_of}, File.{Room, is_text, readable, counted, entry_of}}
use Rattle.builder.specs.{Metadata.{inlined, records_of, fields_of, remotes, written, layout_of, start_of, metadata_of}, Sharing.{same_texts, is_in}, Yards.{Text, Yard, Plan}}
use Rattle.promises.proofs.Built.{Boxes.{lowest_small, highest_small}, Drawn.{Lies, AllLie, none, one, all_lie, accepted_checked}, Fields.{fields_flat}, Parts.{Built, at_table, file_length}}
use Rattle.promises.proofs.Built.{Shared.{stood, firsts_in, map_in, records_decided}, TableRead.{Small, AllSmall, entry_in, rows_read}}
use Rattle.border.proofs.AtPlace.{at_as}
use Rattle.layout.{proofs.{Everyone.{Every, every_sorted}, Orders.{sorted_map, sorted_size}}, specs.Order.{sorted_by}}
use Rattle.promises.specs.Built.Seats.{Entered, entered_of, table_in, metadata_in, table_place, head_in, seats_of, rows_of}
use Rattle.table.specs.Rows.{rows_in}

-- ---- a yard of the plan, with its entry
pub record Sits (plan : Plan) (drawn : Drawn) (e : Entered) : Type 0 where
  pub place : ℕ
  pub is : e.entry ≡ entry_of plan.yards e.yard place
  pub lies : Lies plan.version drawn.bytes e.yard place
  pub texts : every is_text e.yard.values ≡ true
  pub known : is_in same_texts e.yard.values (records_of plan.yards) ≡ true

abbrev pub entered_at : Plan → Yard → ℕ → Entered
entered_at plan yard place = record { yard = yard; entry = entry_of plan.yards yard place }

module _ (plan : Plan) (drawn : Drawn) where
  sit_from : (before yards : List Yard) (places : List ℕ) → plan.yards ≡ before ++ yards → every (λ (y : Yard). every is_text y.values) yards ≡ true
      → AllLie plan.version drawn.bytes yards places → Every (Sits plan drawn) (zip_with (entered_at plan) yards places)
  unfolding zip_with Every every
  sit_from before [] [] is good none = tt
  sit_from before [] (place ∷ places) is good lie = elim lie [ ]
  sit_from before (yard ∷ yards) [] is good lie = elim lie [ ]
  sit_from before (yard ∷ yards) (place ∷ places) is good (one lies later) =
      let now = both (every is_text yard.values) (every (λ (y : Yard). every is_text y.values) yards) good in
      let named : is_in same_texts yard.values (map (λ (y : Yard). y.values) plan.yards) ≡ true = rw is (map_in same_texts records_decided (λ (y : Yard). y.values) before yard yards) in (
        record {
          place = place;
          is = refl;
          lies = lies;
          texts = now.0;
          known = firsts_in same_texts records_decided yard.values (map (λ (y : Yard). y.values) plan.yards) named;
        },
        sit_from (before ++ (yard ∷ [])) yards places (is ∙ sym (append_assoc before (yard ∷ []) yards)) now.1 later,
      )

  same_size : (yards : List Yard) (places : List ℕ) → AllLie plan.version drawn.bytes yards places → length (zip_with (entered_at plan) yards places) ≡ length yards
  unfolding zip_with
  same_size [] [] none = refl
  same_size [] (place ∷ places) lie = elim lie [ ]
  same_size (yard ∷ yards) [] lie = elim lie [ ]
  same_size (yard ∷ yards) (place ∷ places) (one lies later) = ap suc (same_size yards places later)

  entries_in : (yards : List Yard) (places : List ℕ) → map entry_in (zip_with (entered_at plan) yards places) ≡ zip_with (entry_of plan.yards) yards places
  unfolding zip_with
  entries_in [] places = refl
  entries_in (yard ∷ yards) [] = refl
  entries_in (yard ∷ yards) (place ∷ places) = ap (λ (es : List Entry). entry_of plan.yards yard place ∷ es) (entries_in yards places)

  abbrev pub south_of : Entered → ℕ
  south_of e = from_south e.entry.bounds.south

  pub table_entries : table_in plan drawn ≡ table_from 0 0 (map entry_in (entered_of plan drawn))
  unfolding table_in table_of entered_of
  table_entries =
      ap (table_from 0 0) (sym (sorted_map south_of (λ (e : Entry). from_south e.bounds.south) entry_in (λ e. refl) (zip_with (entered_at plan) plan.yards drawn.places)
      ∙ ap (sorted_by (λ (e : Entry). from_south e.bounds.south)) (entries_in plan.yards drawn.places)))

-- ---- where a record begins
pub start_within : (records : List (List Text)) (values : List Text) → is_in same_texts values records ≡ true → start_of records values ≤ length (metadata_of records)
unfolding start_of metadata_of
start_within records values known = let f = written (fields_of records) (layout_of (fields_of records)) in
    let s = stood same_texts records_decided (flat_map f) values records known in
    omega (
      arith,
      s.size,
      ap length (fields_flat f records ∙ s.is) ∙ length-append s.before (flat_map f values ++ s.behind),
      length-append (flat_map f (fields_of records))
          (flat_map inlined (remotes (fields_of records))),
    )

-- ---- in a built file
module _ (plan : Plan) (room : Room) (file : List ℕ) (b : Built plan room file) where
  abbrev drawn : Drawn
  drawn = b.drawn

  lie : AllLie plan.version drawn.bytes plan.yards drawn.places
  unfolding drawn_of
  lie = all_lie plan.version _ (0 ∷ []) plan.yards drawn b.draws

  pub all_sit : Every (Sits plan drawn) (entered_of plan drawn)
  unfolding entered_of readable
  all_sit = let third = both (is_text plan.notice) _ (both (every is_text plan.names) _ (both plan.whole _ b.texts).1).1 in
      every_sorted (south_of plan drawn) (Sits plan drawn) (zip_with (entered_at plan) plan.yards drawn.places) (sit_from plan drawn [] plan.yards drawn.places refl third.1 lie)

  how_many : length (entered_of plan drawn) ≡ length plan.yards
  unfolding entered_of
  how_many = sorted_size (south_of plan drawn) (zip_with (entered_at plan) plan.yards drawn.places) ∙ same_size plan drawn plan.yards drawn.places lie

  -- all numbers of an entry are small
  pub small : (e : Entered) → Sits plan drawn e → Small e.entry
  unfolding metadata_in
  small e s =
      let good = accepted_checked plan.version e.yard.lats e.yard.lons e.yard.pieces s.lies.earlier s.lies.bytes s.lies.accepted in
      let size = file_length plan drawn file b.is in let fit : length (metadata_in plan) ≤ 2 ^ 30 = omega (arith, size, b.small) in
      let data_fit : length drawn.bytes ≤ 2 ^ 30 = omega (arith, size, b.small) in
      rw s.is (record {
        south = omega (arith, lowest_small e.yard.lats good.near_lats);
        west = omega (arith, lowest_small e.yard.lons good.near_lons);
        north = omega (arith, highest_small e.yard.lats good.near_lats);
        east = omega (arith, highest_small e.yard.lons good.near_lons);
        record' = omega (arith, start_within (records_of plan.yards) e.yard.values s.known, fit);
        border = omega (arith, s.lies.begins, ap length s.lies.whole ∙ length-append s.lies.earlier (s.lies.bytes ++ s.lies.rest), data_fit);
      })

  all_small : (es : List Entered) → Every (Sits plan drawn) es → AllSmall es
  unfolding Every AllSmall
  all_small [] h = tt
  all_small (e ∷ es) h = (small e h.0, all_small es h.1)

  few : length (entered_of plan drawn) ≤ 4096
  unfolding counted
  few = let first = both (ltb 0 (length plan.yards)) _ b.counts in let second = both (leb (length plan.yards) 4096) _ first.1 in
      omega (arith, how_many, leb-true (length plan.yards) 4096 second.0)

  -- The rows of the table are the sorted yards' entries, each read back.
  pub rows_are : (strict : Bool) → rows_in file (head_in strict plan drawn) ≡ rows_of (seats_of plan drawn)
  unfolding rows_in head_in seats_of
  rows_are strict =
      rows_read strict file (table_place plan drawn + length (table_in plan drawn)) (entered_of plan drawn) (all_small (entered_of plan drawn) all_sit)
      (table_place plan drawn) 0 0 0 (omega arith) (omega arith) (omega (arith, few))
      (at_as (table_entries plan drawn) (at_table plan drawn file b.is)) (ap (λ (l : List ℕ). table_place plan drawn + length l) (sym (table_entries plan drawn)))
