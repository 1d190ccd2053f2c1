-- Document 01's border (2,2) (10,2) (10,10) (2,10) as the writer writes it, in both versions; borrowed backward behind a clear byte; and refused at data byte 0. Assumes nothing.
use Rattle.numbers.proofs.Prelude.{ℕ, ℤ, pos, List, [], ◌∷◌, flat_map, zip_with, ◌≡◌, refl}
use Rattle.numbers.specs.{Point.{signed_of, even_bits, point_of}, Reply.{given, refused, plain}, Spelling.{digits_of, varint_of, signed_form, interleaved}, Varint.{forward_at, value_of, size_of, too_long}}
use Rattle.border.specs.Place.{is_still}
use Rattle.writer.specs.{Moves.{plain_move_bytes, packed_number, packed_move_bytes, move_to, moves_from, points_of, moves_of, same_move}, Pieces.{lent_moves, read_and, spells, clear_before, accepted}}
use Rattle.writer.specs.{Pieces.{good_pieces, piece_bytes, packed_from}, Writer.{every, sized, near, checks, plain_border, packed_border, border_of}, declared.write.Piece.{Piece}}

abbrev lats : List ℤ
lats = pos 2 ∷ pos 10 ∷ pos 10 ∷ pos 2 ∷ []

abbrev lons : List ℤ
lons = pos 2 ∷ pos 2 ∷ pos 10 ∷ pos 10 ∷ []

pub packed_bytes : border_of 1 lats lons [] [] ≡ given (0x30 ∷ 0x80 ∷ 0x02 ∷ 0x80 ∷ 0x04 ∷ 0x81 ∷ 0x02 ∷ 0x00 ∷ 0x00 ∷ [])
unfolding digits_of varint_of signed_form interleaved packed_number packed_move_bytes move_to moves_from points_of moves_of zip_with flat_map is_still good_pieces packed_from
    every sized near checks packed_border border_of
packed_bytes = refl

pub plain_bytes : border_of 0 lats lons [] [] ≡ given (0x04 ∷ 0x04 ∷ 0x04 ∷ 0x10 ∷ 0x00 ∷ 0x00 ∷ 0x10 ∷ 0x11 ∷ 0x00 ∷ 0x02 ∷ 0x02 ∷ [])
unfolding digits_of varint_of signed_form plain_move_bytes move_to moves_from points_of moves_of zip_with flat_map is_still every sized near checks plain_border border_of
plain_bytes = refl

-- the first three moves, from a run that is reversed and negated
abbrev back : ℕ → Piece
back start = record { start = start; bytes = 5; direction = 1; first = 0; count = 3 }

pub borrowed_bytes : border_of 1 lats lons (back 1 ∷ []) (0x00 ∷ 0x82 ∷ 0x04 ∷ 0x81 ∷ 0x02 ∷ 0x33 ∷ []) ≡ given (0x00 ∷ 0x01 ∷ 0x06 ∷ 0x0b ∷ 0x81 ∷ 0x02 ∷ 0x00 ∷ 0x00 ∷ [])
unfolding digits_of varint_of signed_form interleaved packed_number packed_move_bytes move_to moves_from points_of moves_of same_move zip_with flat_map is_still lent_moves
    read_and spells clear_before accepted good_pieces piece_bytes packed_from every sized near checks packed_border border_of forward_at value_of size_of too_long signed_of
    even_bits point_of
borrowed_bytes = refl

pub at_byte_zero : border_of 1 lats lons (back 0 ∷ []) (0x82 ∷ 0x04 ∷ 0x81 ∷ 0x02 ∷ 0x33 ∷ []) ≡ refused (plain 23)
unfolding digits_of varint_of signed_form interleaved packed_number packed_move_bytes move_to moves_from points_of moves_of same_move zip_with flat_map is_still lent_moves
    read_and spells clear_before accepted good_pieces piece_bytes packed_from every sized near checks packed_border border_of forward_at value_of size_of too_long signed_of
    even_bits point_of
at_byte_zero = refl
