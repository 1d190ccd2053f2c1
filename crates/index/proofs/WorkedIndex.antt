-- Document 01's printed file: it opens, its index is built, and a lookup through that is the plain one; through no words it is refused. Its table has one row, whose box, (2,2) to (10,10), is in the
-- list of the tile of (5,5) and in no other. Assumes nothing.
use Rattle.numbers.proofs.Prelude.{ℕ, pos, Bool, false, List, [], ◌∷◌, ◌≡◌, refl, sym, ap}
use Rattle.numbers.specs.{Point.{signed_of}, Reply.{given, refused, plain}, Varint.{reading_of, forward_at, value_of, size_of, too_long}}
use Rattle.border.specs.declared.place.Point.{Point}
use Rattle.table.specs.{Rows.{rows_then, row_by, rows_within, rows_from, rows_in}, Table.{steps_by, entry_by}, declared.{location.Location.{Location}, rows.Row.{Row}}}
use Rattle.header.specs.{Header.{preamble_of, texts_from, sections_from, sections_at, contents_by, head_by, head_of}, Text.{within, remote_at, string_at, bytes_of, text_at}}
use Rattle.header.specs.{Utf8.{characters, started_by, begun_by, followed, goes_on, is_utf8}, declared.header.Head.{Head}}
use Rattle.zones.specs.{Lent.{Replied, replied_of}, Lookup.{looked_up}, declared.lookup.Zones.{Zones}}
use Rattle.index.proofs.{Owned.{built_is_index}, Through.{through_opened, indexed_untied}, ThroughIsPlain.{indexed_is_plain, own_front}}
use Rattle.index.specs.{Index.{records_of, packed_from, list_from, list_of, lists_from, joined, starts_from, index_of, built_with, built_in, indexed_by, indexed_of}, Own.{is_index_of}}
use Rattle.index.specs.{Table.{table_from, table_of}, Through.{place_of, zones_through, looked_through, looked_indexed}, Tied.{is_tied}, Tiles.{span_of, tile_along, tile_of, meets}}

abbrev pub printed : List ℕ
printed =
    0x50 ∷ 0x4C ∷ 0x42 ∷ 0x43 ∷ 0x01 ∷ 0x10 ∷ 0x01 ∷ 0x04 ∷ 0xCE ∷ 0xE1 ∷ 0xED ∷ 0xE5 ∷ 0x00 ∷ 0x06 ∷ 0x02 ∷ 0x09 ∷ 0x04 ∷ 0x04 ∷ 0x14
    ∷ 0x14 ∷ 0x00 ∷ 0x00 ∷ 0x01 ∷ 0xC1 ∷ 0x30 ∷ 0x80 ∷ 0x02 ∷ 0x80 ∷ 0x04 ∷ 0x81 ∷ 0x02 ∷ 0x00 ∷ 0x00 ∷ []

abbrev pub head : Head
head = record { preamble = record { kind = 0x43; version = 1; precision = 16; count = 1 }; sections = record { table = 16; metadata = 22; «data» = 24 }; strict = false }

abbrev pub only : Row
only = record {
  place = 16;
  id = 0;
  metadata = 0;
  polygon = 0;
  bounds = record { min_lat = record { 0 = pos 2 }; min_lon = record { 0 = pos 2 }; max_lat = record { 0 = pos 10 }; max_lon = record { 0 = pos 10 } };
  next = 22;
}

pub printed_opens : given head ≡ head_of printed
unfolding reading_of forward_at value_of size_of too_long signed_of preamble_of texts_from sections_from sections_at contents_by head_by within remote_at string_at bytes_of
    text_at characters started_by begun_by followed goes_on is_utf8
printed_opens = refl

pub printed_table : given (only ∷ []) ≡ table_of printed head
unfolding reading_of forward_at value_of size_of too_long signed_of steps_by entry_by rows_then row_by rows_within rows_from rows_in table_from table_of
printed_table = refl

abbrev fix : Point
fix = record { lat = record { 0 = pos 5 }; lon = record { 0 = pos 5 } }

pub printed_list : list_of 16 (only ∷ []) (tile_of 16 fix) ≡ 0 ∷ []
unfolding list_from meets span_of tile_along
printed_list = refl

-- the lists of all 2,048 tiles have one number
pub printed_lists : joined (lists_from 16 (only ∷ []) 2048 0) ≡ 0 ∷ []
unfolding lists_from list_from joined meets span_of
printed_lists = refl

-- the index has 2,066 words
pub printed_index : (indexed_of printed 2066).reply ≡ given 2066
unfolding reading_of forward_at value_of size_of too_long signed_of preamble_of texts_from sections_from sections_at contents_by head_by within remote_at string_at bytes_of
    text_at characters started_by begun_by followed goes_on is_utf8 steps_by entry_by rows_then row_by rows_within rows_from rows_in table_from table_of lists_from list_from
    joined meets span_of records_of packed_from starts_from index_of built_with built_in indexed_by indexed_of
printed_index = refl

-- so `is_index` says 0 of them,
pub printed_is_index : is_index_of printed (indexed_of printed 2066).words ≡ given tt
printed_is_index = built_is_index printed 2066 printed_index

-- and a lookup through them is the plain one
pub printed_is_plain : (location : Location) (asked : Bool) (n room : ℕ) → looked_indexed printed (indexed_of printed 2066).words location asked n room ≡ looked_up printed location asked n room
printed_is_plain = indexed_is_plain printed printed 2066 printed_index printed_opens printed_opens (own_front 22 printed)

-- through no words it is refused with 36, without a comparison and with one: a case of `through_refusals` and of `indexed_refusals`
module _ (location : Location) (asked : Bool) (n room : ℕ) where
  pub printed_no_words : (looked_through printed [] location asked n room).reply ≡ refused (plain 36)
  unfolding replied_of place_of zones_through
  printed_no_words = ap (λ (r : Replied Zones). r.reply) (sym (through_opened n room printed [] location asked printed_opens))

  pub printed_untied : (looked_indexed printed [] location asked n room).reply ≡ refused (plain 36)
  unfolding is_tied
  printed_untied = ap (λ (r : Replied Zones). r.reply) (sym (indexed_untied n room printed [] location asked printed_opens refl refl refl))
