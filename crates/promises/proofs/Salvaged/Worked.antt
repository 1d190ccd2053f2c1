-- Two small files that are salvaged, one with an entry dropped and one without, so that each theorem speaks of something. Assumes nothing.
use Rattle.numbers.proofs.Prelude.{ℕ, lit≤, pos, take, Bool, true, List, [], ◌∷◌, flat_map, ◌≡◌, refl, ap, subst}
use Rattle.numbers.specs.{Answer.{checked}, Point.{signed_of, even_bits, point_of}, Reply.{Reply, given}}
use Rattle.numbers.specs.{Spelling.{digits_of, varint_of, signed_form, interleaved}, Varint.{reading_of, whole_of, forward_at, value_of, size_of, too_long}}
use Rattle.writer.specs.Moves.{move_to, packed_number}
use Rattle.border.specs.{Place.{is_still, moved_by}, Reader.{advanced, marker, packed_turn, turn_of}, Trace.{round_again, next_within, next_point, trace_then, trace_within, trace_of}}
use Rattle.header.specs.{Header.{preamble_of, texts_from, sections_from, sections_at, contents_by, head_by}, Opening.{opened_by}, Text.{within, remote_at, string_at, bytes_of, text_at}}
use Rattle.header.specs.{Utf8.{characters, started_by, begun_by, followed, goes_on, is_utf8}, declared.header.Head.{Head}}
use Rattle.salvage.specs.File.{texts_inline, border_bytes, box_bytes, entry_bytes, table_from, assembled, new_file}
use Rattle.salvage.specs.Kept.{border_good, span_inside, string_inside, field_good, fields_good, entry_good, kept_of}
use Rattle.salvage.specs.{Kept.{lines_from}, Moves.Moves.{end_of, steps_from, moves_by, moves_at, step_number, step_bytes, moves_bytes}, Promises.{ListOf, KeptFile, Again}}
use Rattle.salvage.specs.Salvage.{Salvaged, salvaged_of}
use Rattle.salvage.specs.{Salvage.{Replied, replied_of, salvaged}, declared.rescue.reply.Counts.{Counts}}
use Rattle.promises.proofs.Salvaged.{Again.{salvage_again}, Answered.{written, listed, lent_opens_alike, lent_kept, lent_list, lent_again, lent_same}, KeptAgain.{salvage_kept}}
use Rattle.promises.proofs.Salvaged.{Opens.{salvaged_strict, salvaged_opens_alike}, PlainlyKept.{salvage_kept_plainly}, SameLookups.{salvage_same, salvage_same_simply}}
use Rattle.promises.specs.Salvaged.{Opens.{OpensStrictly, KeptPlainly}, Same.{SameAnswers, SameSimply}}
use Rattle.table.specs.{Rows.{rows_then, row_by, rows_within, rows_from, rows_in}, Table.{steps_by, entry_by}, declared.rows.Row.{Row}}

-- one name, "A", and an empty notice; two entries with one record, "x"; a border with a repeated point, and one that begins where the file ends
abbrev damaged : List ℕ
damaged =
    0x50 ∷ 0x4C ∷ 0x42 ∷ 0x43 ∷ 0x01 ∷ 0x10 ∷ 0x01 ∷ 0x01 ∷ 0xC1 ∷ 0x00 ∷ 0x0C ∷ 0x02 ∷ 0x05 ∷ 0x04 ∷ 0x04 ∷ 0x04 ∷ 0x04 ∷ 0x00 ∷ 0x00 ∷ 0x04 ∷ 0x04 ∷ 0x04 ∷ 0x04 ∷ 0x00 ∷ 0x05 ∷ 0x01 ∷ 0xF8
    ∷ 0x30 ∷ 0x00 ∷ 0x02 ∷ 0x00 ∷ 0x00 ∷ []

-- the same with the first entry alone
abbrev undamaged : List ℕ
undamaged =
    0x50 ∷ 0x4C ∷ 0x42 ∷ 0x43 ∷ 0x01 ∷ 0x10 ∷ 0x01 ∷ 0x01 ∷ 0xC1 ∷ 0x00 ∷ 0x06 ∷ 0x02 ∷ 0x05 ∷ 0x04 ∷ 0x04 ∷ 0x04 ∷ 0x04 ∷ 0x00 ∷ 0x00 ∷ 0x01 ∷ 0xF8 ∷ 0x30 ∷ 0x00 ∷ 0x02 ∷ 0x00 ∷ 0x00 ∷ []

-- what both become: the repeated point is written 3
abbrev mended : List ℕ
mended = 0x50 ∷ 0x4C ∷ 0x42 ∷ 0x43 ∷ 0x01 ∷ 0x10 ∷ 0x01 ∷ 0x01 ∷ 0xC1 ∷ 0x00 ∷ 0x06 ∷ 0x02 ∷ 0x04 ∷ 0x04 ∷ 0x04 ∷ 0x04 ∷ 0x04 ∷ 0x00 ∷ 0x00 ∷ 0x01 ∷ 0xF8 ∷ 0x30 ∷ 0x03 ∷ 0x00 ∷ 0x00 ∷ []

abbrev first_row : Row
first_row = record {
  place = 13;
  id = 0;
  metadata = 0;
  polygon = 0;
  bounds = record { min_lat = record { 0 = pos 2 }; min_lon = record { 0 = pos 2 }; max_lat = record { 0 = pos 2 }; max_lon = record { 0 = pos 2 } };
  next = 19;
}

abbrev head_at : ℕ → ℕ → Head
head_at metadata start = record { preamble = record { kind = 0x43; version = 1; precision = 16; count = 1 }; sections = record { table = 13; metadata = metadata; «data» = start }; strict = true }

-- the second entry is dropped: 71
abbrev one_dropped : Salvaged
one_dropped = record { file = mended; lines = 1 ∷ 71 ∷ []; kept = first_row ∷ [] }

abbrev none_dropped : Salvaged
none_dropped = record { file = mended; lines = []; kept = first_row ∷ [] }

damaged_opens : head_by true damaged ≡ given (head_at 25 27)
unfolding reading_of whole_of forward_at value_of size_of too_long preamble_of texts_from sections_from sections_at contents_by head_by within remote_at string_at bytes_of
    text_at characters started_by begun_by followed goes_on is_utf8
damaged_opens = refl

damaged_salvaged : salvaged_of damaged 2 25 ≡ given one_dropped
unfolding reading_of whole_of forward_at value_of size_of too_long signed_of even_bits point_of checked moved_by advanced marker packed_turn turn_of round_again next_within
    next_point trace_then trace_within trace_of preamble_of texts_from sections_from sections_at contents_by head_by within remote_at string_at bytes_of text_at characters
    started_by begun_by followed goes_on is_utf8 rows_then row_by rows_within rows_from rows_in steps_by entry_by salvaged_of texts_inline border_bytes box_bytes entry_bytes
    table_from assembled new_file border_good span_inside string_inside field_good fields_good entry_good kept_of lines_from end_of steps_from moves_by moves_at step_number
    step_bytes moves_bytes move_to packed_number is_still interleaved signed_form varint_of digits_of flat_map
damaged_salvaged = refl

undamaged_salvaged : salvaged_of undamaged 0 25 ≡ given none_dropped
unfolding reading_of whole_of forward_at value_of size_of too_long signed_of even_bits point_of checked moved_by advanced marker packed_turn turn_of round_again next_within
    next_point trace_then trace_within trace_of preamble_of texts_from sections_from sections_at contents_by head_by within remote_at string_at bytes_of text_at characters
    started_by begun_by followed goes_on is_utf8 rows_then row_by rows_within rows_from rows_in steps_by entry_by salvaged_of texts_inline border_bytes box_bytes entry_bytes
    table_from assembled new_file border_good span_inside string_inside field_good fields_good entry_good kept_of lines_from end_of steps_from moves_by moves_at step_number
    step_bytes moves_bytes move_to packed_number is_still interleaved signed_form varint_of digits_of flat_map
undamaged_salvaged = refl

-- ---- so the theorems speak of them
pub mended_strict : OpensStrictly mended
mended_strict = salvaged_strict damaged 2 25 one_dropped damaged_salvaged

pub mended_opens_alike : (strict strict' : Bool) (text : ℕ) → opened_by strict mended text ≡ opened_by strict' damaged text
mended_opens_alike = salvaged_opens_alike damaged 2 25 one_dropped damaged_salvaged

pub damaged_kept : KeptFile damaged (head_at 25 27) mended (first_row ∷ [])
damaged_kept = salvage_kept damaged 2 25 (head_at 25 27) one_dropped damaged_opens damaged_salvaged

pub damaged_kept_plainly : KeptPlainly damaged one_dropped
damaged_kept_plainly = salvage_kept_plainly damaged 2 25 one_dropped damaged_salvaged

pub mended_again : Again one_dropped (salvaged_of mended 0 25)
mended_again = salvage_again damaged 2 0 25 25 one_dropped damaged_salvaged (lit≤ tt)

pub undamaged_same : (strict strict' : Bool) → SameAnswers strict mended strict' undamaged
undamaged_same = salvage_same undamaged 0 25 none_dropped undamaged_salvaged refl

pub undamaged_simply : SameSimply mended undamaged
undamaged_simply = salvage_same_simply undamaged 0 25 none_dropped undamaged_salvaged refl

-- ---- and in the words of the lent outputs
abbrev one_line : Counts
one_line = record { size = 25; lines = 1; kept = 1 }

abbrev no_line : Counts
no_line = record { size = 25; lines = 0; kept = 1 }

pub damaged_answered : (salvaged damaged 2 25).reply ≡ given one_line
unfolding salvaged
damaged_answered = ap (λ (r : Reply Salvaged). (replied_of 2 25 r).reply) damaged_salvaged

pub undamaged_answered : (salvaged undamaged 0 25).reply ≡ given no_line
unfolding salvaged
undamaged_answered = ap (λ (r : Reply Salvaged). (replied_of 0 25 r).reply) undamaged_salvaged

-- the file opens as the old one does, has the kept entry, and the list says that entry 1 is dropped: 71, its border can't be read to its end
pub written_opens_alike : (strict strict' : Bool) (text : ℕ) → opened_by strict (written damaged 2 25 one_line damaged_answered) text ≡ opened_by strict' damaged text
written_opens_alike = lent_opens_alike damaged 2 25 one_line damaged_answered

pub written_kept : KeptFile damaged (head_at 25 27) (written damaged 2 25 one_line damaged_answered) (kept_of damaged (head_at 25 27) (rows_in damaged (head_at 25 27)))
written_kept = lent_kept damaged 2 25 one_line damaged_answered (head_at 25 27) damaged_opens

pub written_lines : listed damaged 2 25 one_line damaged_answered ≡ 1 ∷ 71 ∷ []
unfolding salvaged
written_lines = ap (λ (r : Reply Salvaged). take 2 (replied_of 2 25 r).list) damaged_salvaged

pub damaged_listed : ListOf damaged (head_at 25 27) (1 ∷ 71 ∷ [])
damaged_listed = subst (ListOf damaged (head_at 25 27)) written_lines (lent_list damaged 2 25 one_line damaged_answered (head_at 25 27) damaged_opens)

pub written_again : (salvaged (written damaged 2 25 one_line damaged_answered) 0 25).reply ≡ given no_line
written_again = ap (λ (r : Replied). r.reply) (lent_again damaged 2 25 one_line damaged_answered 0 25 (lit≤ tt))

pub written_same : (strict strict' : Bool) → SameAnswers strict (written undamaged 0 25 no_line undamaged_answered) strict' undamaged
written_same = lent_same undamaged 0 25 no_line undamaged_answered refl
