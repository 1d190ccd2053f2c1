-- Document 03's sentence stamped through the atlas of its map, by computation: a case that meets what the theorems about a map's own atlas ask for. The map's one border is too short for marks, so
-- that its atlas has the words of the index, the length, and a 0 for the one entry. Assumes nothing.
use Rattle.numbers.proofs.Prelude.{ℕ, ◌+◌, pos, negsuc, length, length-append, List, [], ◌∷◌, ◌≡◌, refl, ap, ◌∙◌}
use Rattle.numbers.specs.{Answer.{checked}, Point.{signed_of, even_bits, point_of}, Reply.{given}, Varint.{reading_of, forward_at, value_of, size_of, too_long}}
use Rattle.atlas.{proofs.WorkedAtlas.{fits_exactly}, specs.Atlas.{marks_for, marks_in, entry_of, entries_from, beside_of, whole_of, atlas_of, atlas_made, is_atlas_of}}
use Rattle.border.specs.{Place.{moved_by}, Reader.{advanced, marker, packed_turn, turn_of}, Trace.{round_again, next_within, next_point}}
use Rattle.index.{proofs.Whole.{index_length}, specs.{Index.{list_from, lists_from, joined, index_of}, Table.{table_from, table_of}, Tiles.{span_of, meets}}}
use Rattle.marks.specs.Marks.{next_or, is_markable, edges_then, edges_from, most_points, few_edges, stretches_from, counted, marks_at}
use Rattle.slip.{proofs.{Theorems.{slip_atlas_is_plain}, Worked.{sentence, square, head, opened, texts, berlin, line, stamped}}, specs.Slip.{replied, slipped}}
use Rattle.table.specs.{Rows.{rows_then, row_by, rows_within, rows_from, rows_in}, Table.{steps_by, entry_by}, declared.rows.Row.{Row}}
use Rattle.verdict.specs.Edge.{same_point}

abbrev only : Row
only = record {
  place = 39;
  id = 0;
  metadata = 0;
  polygon = 1;
  bounds = record { min_lat = record { 0 = negsuc 39 }; min_lon = record { 0 = negsuc 39 }; max_lat = record { 0 = pos 40 }; max_lon = record { 0 = pos 40 } };
  next = 45;
}

square_table : given (only ∷ []) ≡ table_of square head
unfolding reading_of forward_at value_of size_of too_long signed_of steps_by entry_by rows_then row_by rows_within rows_from rows_in table_from table_of
square_table = refl

square_marks : marks_for square head 1 ≡ []
unfolding reading_of next_point next_within round_again turn_of packed_turn marker advanced moved_by checked forward_at value_of size_of too_long signed_of even_bits point_of
    marks_at next_or edges_from edges_then is_markable most_points few_edges stretches_from counted same_point
square_marks = refl

-- the box meets 21 rows of tiles and 41 columns
square_lists : length (joined (lists_from 7 (only ∷ []) 2048 0)) ≡ 861
unfolding lists_from list_from joined meets span_of
square_lists = refl

square_long : length (atlas_of square head (only ∷ [])) ≡ 2934
unfolding atlas_of marks_in entries_from entry_of joined
square_long = let index = index_of square head (only ∷ []) in
    let size : length index ≡ 2932 = index_length square head 0 refl square_table ∙ ap (λ (k : ℕ). 2071 + k) square_lists in
    ap (λ (marks : List ℕ). length (whole_of index (beside_of (marks ∷ [])))) square_marks ∙ length-append index _ ∙ ap (λ (k : ℕ). k + 2) size

pub square_is_atlas : is_atlas_of square (atlas_made square 2934).words ≡ given tt
square_is_atlas = fits_exactly square 2934 opened refl square_table square_long refl

-- the document's line, one match, two hours east
pub stamped_through : slipped sentence square (atlas_made square 2934).words berlin 4 19 49 ≡ replied (given (record { length = 49; matches = 1; offset = pos 7200 })) (0 ∷ 0 ∷ 1 ∷ 39 ∷ []) texts line
stamped_through = slip_atlas_is_plain sentence square (atlas_made square 2934).words berlin square_is_atlas 4 19 49 ∙ stamped
