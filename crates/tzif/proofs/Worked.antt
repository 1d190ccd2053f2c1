-- A small file, computed: what the theorems speak of is met. Assumes nothing.
use Rattle.numbers.proofs.Prelude.{ℕ, zero, suc, ◌+◌, ◌^◌, ◌<◌, pos, negsuc, true, false, List, [], ◌∷◌, ◌≡◌, refl, arith}
use Rattle.tzif.proofs.{Marked.{second_version, marked_three, PlainFour}, Signs.{all_octets, octets_of}, Theorems.{last_not_after_lem, BlockWidth, block_width}}
use Rattle.tzif.specs.Check.{occurs_later, correction_before, correction_of, one_apart, is_expiry, nul_end, check_time, check_index, check_type, check_leap, check_leaps, check_standard, is_standard}
use Rattle.tzif.specs.{Check.{check_ut}, Header.{rfc8536, begins, is_version, is_fourth, version_fits, check_header, block_at, none_or_all, check_counts, check_block, read_block}, Last.{Octets}}
use Rattle.tzif.specs.{Last.{LastNotAfter, transition_time}, Local.{type_in, type_behind, is_after_last, by_table, replied, lent, local_time_by, local_time}, Number.{octets, be32, raised, time_at}}
use Rattle.tzif.specs.{Number.{signed_at, lift}, Part.{count_of, check_of, check_part}, Reply.{given, refused, demand, each, refusal, ◌>>=◌, ◌>>◌}, Text.{first_with, is_stop, run_to}, Times.{time_in}}
use Rattle.tzif.specs.{Times.{transitions_of, last_with, last_not_after}, Zone.{newline_at, read_footer, read_short, read_long, read_zone_by, read_zone}, declared.block.Block.{Block}}
use Rattle.std.specs.Prelude.{Some, None}

-- version 1: `A` at UT, and from instant 0 on `B`, an hour east of it, daylight time
abbrev small : List ℕ
small =
    84 ∷ 90 ∷ 105 ∷ 102 ∷ 0 ∷ 0 ∷ 0 ∷ 0 ∷ 0 ∷ 0 ∷ 0 ∷ 0 ∷ 0 ∷ 0 ∷ 0 ∷ 0 ∷ 0 ∷ 0 ∷ 0 ∷ 0 ∷ 0 ∷ 0 ∷ 0 ∷ 0 ∷ 0 ∷ 0 ∷ 0 ∷ 0 ∷ 0 ∷ 0 ∷ 0 ∷ 0 ∷ 0 ∷ 0 ∷ 0 ∷ 1 ∷ 0 ∷ 0 ∷ 0 ∷ 2 ∷ 0 ∷ 0 ∷ 0 ∷ 4 ∷ 0 ∷
    0 ∷ 0 ∷ 0 ∷ 1 ∷ 0 ∷ 0 ∷ 0 ∷ 0 ∷ 0 ∷ 0 ∷ 0 ∷ 0 ∷ 14 ∷ 16 ∷ 1 ∷ 2 ∷ 65 ∷ 0 ∷ 66 ∷ 0 ∷ []

-- its block
abbrev table : Block
table = record { width = 4; isutcnt = 0; isstdcnt = 0; leapcnt = 0; timecnt = 1; typecnt = 2; charcnt = 4; begin = 44 }

-- before the first transition, at it, after it; and where the abbreviation has no room
pub record Worked : Type 0 where
  pub before : local_time small (negsuc 0) 2 ≡ replied (given (Some (record { offset = pos 0; daylight = 0; length = 1 }))) (65 ∷ 0 ∷ [])
  pub there : local_time small (pos 0) 2 ≡ replied (given (Some (record { offset = pos 3600; daylight = 1; length = 1 }))) (66 ∷ 0 ∷ [])
  pub behind : local_time small (pos 1) 2 ≡ replied (given None) (0 ∷ 0 ∷ [])
  pub read : read_zone small ≡ given (record { version = 0; block = table; string = 65; size = 0 })
  pub no_room : local_time small (pos 0) 0 ≡ replied (refused (refusal 18 0)) []

pub worked : Worked
unfolding local_time_by lent read_zone_by read_short read_block begins is_version is_fourth version_fits check_header block_at none_or_all check_counts check_block check_part
    count_of check_of check_time check_index check_type check_leap check_leaps check_standard is_standard check_ut nul_end type_in type_behind is_after_last by_table octets
    be32 raised time_at lift demand each ◌>>=◌ ◌>>◌ first_with is_stop run_to time_in last_with last_not_after
worked = record { before = refl; there = refl; behind = refl; read = refl; no_room = refl }

-- what `last_not_after_lem` asks is met
pub small_last : LastNotAfter small table (pos 0) (type_behind small table (last_not_after small (transitions_of table) (lift (pos 0))))
unfolding all_octets
small_last = last_not_after_lem small (octets_of small refl) table (pos 0) (record { sfits = omega arith })

-- version 2: `A` at UT, `B` an hour east of it from a second before 1970 on for a day and a second; both blocks have these times
abbrev both : List ℕ
both =
    84 ∷ 90 ∷ 105 ∷ 102 ∷ 50 ∷ 0 ∷ 0 ∷ 0 ∷ 0 ∷ 0 ∷ 0 ∷ 0 ∷ 0 ∷ 0 ∷ 0 ∷ 0 ∷ 0 ∷ 0 ∷ 0 ∷ 0 ∷ 0 ∷ 0 ∷ 0 ∷ 0 ∷ 0 ∷ 0 ∷ 0 ∷ 0 ∷ 0 ∷ 0 ∷ 0 ∷ 0 ∷ 0 ∷ 0 ∷ 0 ∷ 2 ∷ 0 ∷ 0 ∷ 0 ∷ 2 ∷ 0 ∷ 0 ∷ 0 ∷ 4 ∷ 255
    ∷ 255 ∷ 255 ∷ 255 ∷ 0 ∷ 1 ∷ 81 ∷ 128 ∷ 1 ∷ 0 ∷ 0 ∷ 0 ∷ 0 ∷ 0 ∷ 0 ∷ 0 ∷ 0 ∷ 0 ∷ 14 ∷ 16 ∷ 1 ∷ 2 ∷ 65 ∷ 0 ∷ 66 ∷ 0 ∷ 84 ∷ 90 ∷ 105 ∷ 102 ∷ 50 ∷ 0 ∷ 0 ∷ 0 ∷ 0 ∷ 0 ∷ 0 ∷ 0 ∷ 0 ∷ 0 ∷ 0 ∷
    0 ∷ 0 ∷ 0 ∷ 0 ∷ 0 ∷ 0 ∷ 0 ∷ 0 ∷ 0 ∷ 0 ∷ 0 ∷ 0 ∷ 0 ∷ 0 ∷ 0 ∷ 0 ∷ 0 ∷ 0 ∷ 0 ∷ 0 ∷ 2 ∷ 0 ∷ 0 ∷ 0 ∷ 2 ∷ 0 ∷ 0 ∷ 0 ∷ 4 ∷ 255 ∷ 255 ∷ 255 ∷ 255 ∷ 255 ∷ 255 ∷ 255 ∷ 255 ∷ 0 ∷ 0 ∷ 0 ∷ 0 ∷ 0
    ∷ 1 ∷ 81 ∷ 128 ∷ 1 ∷ 0 ∷ 0 ∷ 0 ∷ 0 ∷ 0 ∷ 0 ∷ 0 ∷ 0 ∷ 0 ∷ 14 ∷ 16 ∷ 1 ∷ 2 ∷ 65 ∷ 0 ∷ 66 ∷ 0 ∷ 10 ∷ 10 ∷ []

abbrev narrow : Block
narrow = record { width = 4; isutcnt = 0; isstdcnt = 0; leapcnt = 0; timecnt = 2; typecnt = 2; charcnt = 4; begin = 44 }

abbrev wide : Block
wide = record { width = 8; isutcnt = 0; isstdcnt = 0; leapcnt = 0; timecnt = 2; typecnt = 2; charcnt = 4; begin = 114 }

-- what `block_width` asks is met by the file's own blocks
pub record WorkedWidths : Type 0 where
  pub first : block_at both false 0 ≡ narrow
  pub second : block_at both true 70 ≡ wide
  pub alike : BlockWidth both both narrow wide

pub both_widths : WorkedWidths
unfolding block_at octets be32 all_octets transition_time signed_at
both_widths = record { first = refl; second = refl; alike = block_width both both bytes bytes narrow wide refl same } where
  bytes : Octets both
  bytes = octets_of both refl

  same : (i : ℕ) → i < 2 → transition_time both narrow i ≡ transition_time both wide i
  same zero l = refl
  same (suc zero) l = refl
  same (suc (suc i)) l = absurd (omega arith)

-- ---- version 4
-- `A` at UT with two leap seconds, in both blocks: neither feature
abbrev four : List ℕ
four =
    84 ∷ 90 ∷ 105 ∷ 102 ∷ 52 ∷ 0 ∷ 0 ∷ 0 ∷ 0 ∷ 0 ∷ 0 ∷ 0 ∷ 0 ∷ 0 ∷ 0 ∷ 0 ∷ 0 ∷ 0 ∷ 0 ∷ 0 ∷ 0 ∷ 0 ∷ 0 ∷ 0 ∷ 0 ∷ 0 ∷ 0 ∷ 0 ∷ 0 ∷ 0 ∷ 0 ∷ 2 ∷ 0 ∷ 0 ∷ 0 ∷ 0 ∷ 0 ∷ 0 ∷ 0 ∷ 1 ∷ 0 ∷ 0 ∷ 0 ∷ 2 ∷ 0 ∷
    0 ∷ 0 ∷ 0 ∷ 0 ∷ 0 ∷ 65 ∷ 0 ∷ 0 ∷ 0 ∷ 0 ∷ 0 ∷ 0 ∷ 0 ∷ 0 ∷ 1 ∷ 0 ∷ 36 ∷ 233 ∷ 255 ∷ 0 ∷ 0 ∷ 0 ∷ 2 ∷ 84 ∷ 90 ∷ 105 ∷ 102 ∷ 52 ∷ 0 ∷ 0 ∷ 0 ∷ 0 ∷ 0 ∷ 0 ∷ 0 ∷ 0 ∷ 0 ∷ 0 ∷ 0 ∷ 0 ∷ 0 ∷ 0 ∷ 0
    ∷ 0 ∷ 0 ∷ 0 ∷ 0 ∷ 0 ∷ 0 ∷ 0 ∷ 0 ∷ 0 ∷ 0 ∷ 0 ∷ 2 ∷ 0 ∷ 0 ∷ 0 ∷ 0 ∷ 0 ∷ 0 ∷ 0 ∷ 1 ∷ 0 ∷ 0 ∷ 0 ∷ 2 ∷ 0 ∷ 0 ∷ 0 ∷ 0 ∷ 0 ∷ 0 ∷ 65 ∷ 0 ∷ 0 ∷ 0 ∷ 0 ∷ 0 ∷ 0 ∷ 0 ∷ 0 ∷ 0 ∷ 0 ∷ 0 ∷ 0 ∷ 1 ∷ 0 ∷
    0 ∷ 0 ∷ 0 ∷ 0 ∷ 36 ∷ 233 ∷ 255 ∷ 0 ∷ 0 ∷ 0 ∷ 2 ∷ 10 ∷ 10 ∷ []

-- what `v4_as_v3` asks is met
pub four_plain : PlainFour four
unfolding second_version block_at octets be32 raised correction_of one_apart
four_plain = record {
  first = refl;
  second = λ l. refl;
  one = record { begins = λ l. refl; ends = λ l e. differ e };
  two = record { begins = λ l. refl; ends = λ l e. differ e };
} where
  differ : (2 ^ 31 + 2) ≡ (2 ^ 31 + 1) → ⊥
  differ e = omega (arith, e)

-- `A` at UT with a table that begins at 27 and expires a second later, in both blocks
abbrev cut : List ℕ
cut =
    84 ∷ 90 ∷ 105 ∷ 102 ∷ 52 ∷ 0 ∷ 0 ∷ 0 ∷ 0 ∷ 0 ∷ 0 ∷ 0 ∷ 0 ∷ 0 ∷ 0 ∷ 0 ∷ 0 ∷ 0 ∷ 0 ∷ 0 ∷ 0 ∷ 0 ∷ 0 ∷ 0 ∷ 0 ∷ 0 ∷ 0 ∷ 0 ∷ 0 ∷ 0 ∷ 0 ∷ 2 ∷ 0 ∷ 0 ∷ 0 ∷ 0 ∷ 0 ∷ 0 ∷ 0 ∷ 1 ∷ 0 ∷ 0 ∷ 0 ∷ 2 ∷ 0 ∷
    0 ∷ 0 ∷ 0 ∷ 0 ∷ 0 ∷ 65 ∷ 0 ∷ 0 ∷ 0 ∷ 0 ∷ 0 ∷ 0 ∷ 0 ∷ 0 ∷ 27 ∷ 0 ∷ 0 ∷ 0 ∷ 1 ∷ 0 ∷ 0 ∷ 0 ∷ 27 ∷ 84 ∷ 90 ∷ 105 ∷ 102 ∷ 52 ∷ 0 ∷ 0 ∷ 0 ∷ 0 ∷ 0 ∷ 0 ∷ 0 ∷ 0 ∷ 0 ∷ 0 ∷ 0 ∷ 0 ∷ 0 ∷ 0 ∷ 0 ∷
    0 ∷ 0 ∷ 0 ∷ 0 ∷ 0 ∷ 0 ∷ 0 ∷ 0 ∷ 0 ∷ 0 ∷ 0 ∷ 2 ∷ 0 ∷ 0 ∷ 0 ∷ 0 ∷ 0 ∷ 0 ∷ 0 ∷ 1 ∷ 0 ∷ 0 ∷ 0 ∷ 2 ∷ 0 ∷ 0 ∷ 0 ∷ 0 ∷ 0 ∷ 0 ∷ 65 ∷ 0 ∷ 0 ∷ 0 ∷ 0 ∷ 0 ∷ 0 ∷ 0 ∷ 0 ∷ 0 ∷ 0 ∷ 0 ∷ 0 ∷ 27 ∷ 0 ∷
    0 ∷ 0 ∷ 0 ∷ 0 ∷ 0 ∷ 0 ∷ 1 ∷ 0 ∷ 0 ∷ 0 ∷ 27 ∷ 10 ∷ 10 ∷ []

-- both are answered; before version 4 they were 41, and marked 3 the table is 55
pub record WorkedFour : Type 0 where
  pub plain : local_time four (pos 0) 1 ≡ replied (given (Some (record { offset = pos 0; daylight = 0; length = 1 }))) (65 ∷ [])
  pub features : local_time cut (pos 0) 1 ≡ replied (given (Some (record { offset = pos 0; daylight = 0; length = 1 }))) (65 ∷ [])
  pub before : local_time_by rfc8536 cut (pos 0) 1 ≡ replied (refused (refusal 41 4)) (0 ∷ [])
  pub marked : local_time (marked_three cut) (pos 0) 1 ≡ replied (refused (refusal 55 56)) (0 ∷ [])

pub worked_four : WorkedFour
unfolding marked_three second_version newline_at read_footer read_long occurs_later correction_before correction_of one_apart is_expiry local_time_by lent read_zone_by
    read_block begins is_version is_fourth version_fits check_header block_at none_or_all check_counts check_block check_part count_of check_of check_time check_index
    check_type check_leap check_leaps check_standard is_standard check_ut nul_end type_in type_behind is_after_last by_table octets be32 raised time_at lift demand each
    ◌>>=◌ ◌>>◌ first_with is_stop run_to time_in last_with last_not_after
worked_four = record { plain = refl; features = refl; before = refl; marked = refl }
