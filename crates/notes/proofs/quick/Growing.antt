-- The totals with a yard more, whose record changes no other. Assumes nothing.
use Rattle.numbers.proofs.Prelude.{ℕ, ◌+◌, ◌*◌, ℤ, length, take, drop, take-append-drop, take_at, List, [], ◌∷◌, ◌++◌, map, append_assoc, zip_with, ◌≡◌, sym, ap, ◌∙◌}
use Rattle.builder.specs.{Borders.{Drawn}, Entries.{Entry, highest_of, lowest_of, table_of}, File.{entry_of}, Yards.{Yard}}
use Rattle.build.{proofs.entries.Tabled.{corners_size}, specs.Entries.Corners.{corners_of}}
use Rattle.draft.{proofs.held.{Texts.{corners_more}, Valued.{held_boxes, souths_from}}, specs.{Held.Totals.{totals_for}, inner.Summed.Sums.{souths_of}}}
use Rattle.notes.proofs.{nearby.Laid.{entries_are, tables_are}, noted.OneMore.{begins_more}}
use Rattle.notes.specs.{Noted.Records.{begin_in}, declared.quick.step.Numbers.{Numbers}, inner.{Nearby.Nearby.{entries_at, entry_with}, Noted.OneMore.{OneMore}, Quick.Steps.{Grown, Stepping}}}

module _ (yards : List Yard) (y : Yard) (drawn drawn' : Drawn) (names count : ℕ) (numbers : Numbers) (boxes : List ℤ) (borders lengths starts texts chains groups begins : List ℕ)
    (s : Stepping yards y drawn drawn' names count numbers boxes borders lengths starts texts chains groups begins) where
  abbrev more : List Yard
  more = yards ++ (y ∷ [])

  abbrev bs : List ℤ
  bs = drop (4 * (count + 1)) boxes

  abbrev ps : List ℕ
  ps = drop (count + 1) borders

  all_boxes : boxes ≡ corners_of (yards ++ (y ∷ [])) ++ drop (4 * (count + 1)) boxes
  all_boxes = held_boxes more drawn' names (count + 1) boxes borders lengths texts s.stands

  boxed : boxes ≡ (corners_of yards ++ corners_of (y ∷ [])) ++ drop (4 * (count + 1)) boxes
  boxed = all_boxes ∙ ap (λ (l : List ℤ). l ++ bs) (corners_more yards (y ∷ []))

  front_boxes : boxes ≡ corners_of yards ++ (corners_of (y ∷ []) ++ drop (4 * (count + 1)) boxes)
  front_boxes = boxed ∙ append_assoc (corners_of yards) (corners_of (y ∷ [])) bs

  bordered : borders ≡ (drawn.places ++ (s.place ∷ [])) ++ drop (count + 1) borders
  bordered = sym (take-append-drop (count + 1) borders) ∙ ap (λ (l : List ℕ). l ++ ps) (s.stands.borders_are ∙ s.placed)

  begun : begins ≡ map (begin_in yards) yards ++ drop count begins
  begun = sym (take-append-drop count begins) ∙ ap (λ (l : List ℕ). l ++ drop count begins) s.begins_are

  -- ---- the table
  table_was : numbers.table ≡ length (table_of (entries_at boxes begins borders count))
  unfolding totals_for
  table_was =
      let front : take (length yards) borders ≡ drawn.places = ap (take (length yards)) (bordered ∙ append_assoc drawn.places (s.place ∷ []) ps)
      ∙ take_at drawn.places (s.place ∷ ps) (length yards) s.drawn_many in
      let corners : take (4 * length yards) boxes ≡ corners_of yards = ap (take (4 * length yards)) front_boxes ∙ take_at (corners_of yards) (corners_of (y ∷ []) ++ bs)
      (4 * length yards) (corners_size yards) in
      s.table_is ∙ (ap (λ (es : List Entry). length (table_of es)) (sym (entries_are yards boxes begins borders (drop count begins) begun drawn.places s.drawn_many corners front))
      ∙ ap (λ (n : ℕ). length (table_of (entries_at boxes begins borders n))) (sym s.many))

  table_is : (by begin : ℕ) → OneMore yards y by begin →
      length (table_of (entries_at boxes begins borders count ++ (entry_with boxes borders count begin ∷ []))) ≡ (totals_for (yards ++ (y ∷ [])) drawn').table
  unfolding totals_for
  table_is by begin m =
      ap (λ (n : ℕ). length (table_of (entries_at boxes begins borders n ++ (entry_with boxes borders n begin ∷ [])))) s.many
      ∙ (sym (tables_are yards boxes begins borders (drop count begins) begun drawn.places s.drawn_many y bs boxed s.place ps bordered by begin m)
      ∙ ap (λ (l : List ℕ). length (table_of (zip_with (entry_of more) more l))) (sym s.placed))

  -- ---- the greatest lower latitude
  souths_were : souths_of boxes count ≡ map (λ (x : Yard). lowest_of x.lats) yards
  unfolding souths_of
  souths_were = ap (souths_of boxes) s.many ∙ souths_from boxes 0 yards (corners_of (y ∷ []) ++ bs) front_boxes

  souths_are : souths_of boxes (count + 1) ≡ map (λ (x : Yard). lowest_of x.lats) (yards ++ (y ∷ []))
  unfolding souths_of
  souths_are = ap (souths_of boxes) s.stands.many ∙ souths_from boxes 0 more bs all_boxes

  -- ---- all of them
  pub grows : (by begin : ℕ) → OneMore yards y by begin → (table : ℕ) (greatest : ℤ)
      → (numbers.table ≡ length (table_of (entries_at boxes begins borders count)) → table ≡ length (table_of (entries_at boxes begins borders count ++ (entry_with boxes borders count begin ∷ []))))
      → (numbers.greatest ≡ highest_of (souths_of boxes count) → greatest ≡ highest_of (souths_of boxes (count + 1)))
      → Grown yards y drawn' (record { records = numbers.records + by; metadata = numbers.metadata + by; table = table; greatest = greatest; begin = begin })
  unfolding totals_for
  grows by begin m table greatest new-table new-greatest = record {
    table = new-table table_was ∙ table_is by begin m;
    metadata = ap (λ (n : ℕ). n + by) s.metadata_is ∙ sym m.metadata_on;
    greatest = new-greatest (s.greatest_is ∙ ap highest_of (sym souths_were)) ∙ ap highest_of souths_are;
    records = ap (λ (n : ℕ). n + by) s.records_is ∙ sym m.layout_is;
    begins = begins_more yards y by begin m;
  }
