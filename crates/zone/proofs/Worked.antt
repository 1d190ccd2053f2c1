-- Lines, computed. Assumes nothing.
use Rattle.numbers.{proofs.Prelude.{[], ◌∷◌, ◌≡◌, refl}, specs.Reply.{given, refused, plain}}
use Rattle.line.specs.Put.{decimal, decimal_of}
use Rattle.table.specs.Hits.{slots}
use Rattle.zone.specs.Lines.{hex_digit, bits_text, digits_text, bytes_text, field_line, field_lines, behind_fields, match_line, match_lines, lookup_line, refused_line, lines_of}

-- "lookup 1 1 3C070000", "match 0 0 1 16", "field 0 41"
pub worked_lines : lines_of 1 (given (record { matches = 1; mark = 1; safezone = 1007091712; used = 4 })) (0 ∷ 0 ∷ 1 ∷ 16 ∷ 0 ∷ 0 ∷ 0 ∷ 0 ∷ [])
    (0 ∷ 0 ∷ 1 ∷ 65 ∷ 0 ∷ 0 ∷ []) ≡ 108 ∷ 111 ∷ 111 ∷ 107 ∷ 117 ∷ 112 ∷ 32 ∷ 49 ∷ 32 ∷ 49 ∷ 32 ∷ 51 ∷ 67 ∷ 48 ∷ 55 ∷ 48 ∷ 48 ∷ 48 ∷ 48 ∷ 10 ∷ 109 ∷ 97 ∷ 116 ∷
    99 ∷ 104 ∷ 32 ∷ 48 ∷ 32 ∷ 48 ∷ 32 ∷ 49 ∷ 32 ∷ 49 ∷ 54 ∷ 10 ∷ 102 ∷ 105 ∷ 101 ∷ 108 ∷ 100 ∷ 32 ∷ 48 ∷ 32 ∷ 52 ∷ 49 ∷ 10 ∷ []
unfolding lines_of lookup_line bits_text match_lines match_line field_lines field_line behind_fields bytes_text digits_text hex_digit slots decimal decimal_of
worked_lines = refl

-- "refused 2"
pub worked_refused : lines_of 0 (refused (plain 2)) [] [] ≡ 114 ∷ 101 ∷ 102 ∷ 117 ∷ 115 ∷ 101 ∷ 100 ∷ 32 ∷ 50 ∷ 10 ∷ []
unfolding lines_of refused_line decimal decimal_of
worked_refused = refl
