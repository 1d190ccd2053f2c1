-- What the checks leave behind: a block that was read is good, and its abbreviations lie within the file. Assumes nothing.
use Rattle.numbers.{proofs.Prelude.{ℕ, ◌+◌, ◌-◌, ◌^◌, ◌≤◌, ◌<◌, leb-true, ltb-true, not-true, eqb-false, eqb, length, Bool, true, false, List, ◌≡◌, refl, arith}, specs.Answer.{if◌then◌else◌}}
use Rattle.tzif.proofs.{Firsts.{first_within}, Lasts.{last_within}, Rises.{both_given, each_passed, held, transitions_rise, occurrences_rise}, Widths.{four_at_least}}
use Rattle.tzif.proofs.Zones.{ReadFrom, zone_from}
use Rattle.tzif.specs.{Block.{Within, indices_of, designations_of, end_of}, Check.{type_place, nul_end, check_index, check_type, check_leaps}, Header.{rfc9636, is_fourth, block_at, check_counts}}
use Rattle.tzif.specs.{Header.{check_block, read_block}, Local.{type_in, type_behind, is_after_last, by_table, Good, Held}, Number.{octet}, Part.{count_of, check_of, check_part}, Reply.{given}}
use Rattle.tzif.specs.{Text.{is_stop, run_to}, Times.{transitions_of, occurrences_of, last_not_after, Rises}, Zone.{read_zone_by}, declared.{block.Block.{Block}, zone.Zone.{Zone}}}
use Rattle.std.specs.Prelude.{Some, None, IfSome}
use Rattle.tzif.specs.Part as P

-- ---- the parts of a block that was read
pub record Passed (file : List ℕ) (fourth : Bool) (block : Block) : Type 0 where
  pub times : check_part file block P.Times ≡ given tt
  pub indices : check_part file block P.Indices ≡ given tt
  pub types : check_part file block (P.Types (nul_end file block)) ≡ given tt
  pub leaps : check_leaps file fourth block ≡ given tt

parts_passed : (file : List ℕ) (fourth : Bool) (block : Block) → check_block file fourth block ≡ given tt → Passed file fourth block
unfolding check_block
parts_passed file fourth block e = let one = both_given _ _ e in let two = both_given _ _ one.1 in let three = both_given _ _ two.1 in
    record { times = one.0; indices = two.0; types = three.0; leaps = (both_given _ _ three.1).0 }

-- 45 and 47 found no fault
record Counts (file : List ℕ) (block : Block) : Type 0 where
  some : 0 < block.typecnt
  end : end_of block ≤ length file

not_none : (n : ℕ) → eqb n 0 ≡ false → 0 < n
not_none n e = omega (arith, eqb-false n 0 e)

counts_passed : (file : List ℕ) (at : ℕ) (block : Block) → check_counts file at block ≡ given tt → Counts file block
unfolding check_counts
counts_passed file at block e = let three = both_given _ _ (both_given _ _ (both_given _ _ e).1).1 in
    record { some = not_none _ (not-true _ (held _ _ three.0)); end = leb-true _ _ (held _ _ (both_given _ _ three.1).1) }

pub record ReadBlock (file : List ℕ) (block : Block) : Type 0 where
  pub within : Within (length file) block
  pub some : 0 < block.typecnt
  pub passed : Passed file (is_fourth rfc9636 (octet file 4)) block

pub width_of : (file : List ℕ) (wide : Bool) (at : ℕ) → 4 ≤ (block_at file wide at).width
unfolding block_at
width_of file wide at = four_at_least wide

pub block_read : (file : List ℕ) (wide : Bool) (at : ℕ) {block : Block} → read_block rfc9636 file wide at ≡ given block → ReadBlock file block
unfolding read_block
block_read file wide at {block} e = let counted = both_given _ _ (both_given _ _ e).1 in let checked = both_given _ _ counted.1 in
    let same : block_at file wide at ≡ block = cc checked.1 in let counts = counts_passed file at (block_at file wide at) counted.0 in
    rw (← same) (record {
      within = record { wide = width_of file wide at; end = counts.end };
      some = counts.some;
      passed = parts_passed file (is_fourth rfc9636 (octet file 4))
          (block_at file wide at) checked.0;
    })

-- ---- a good block
index_below : (file : List ℕ) (block : Block) (i : ℕ) → check_index file block i ≡ given tt → octet file (indices_of block + i) < block.typecnt
unfolding check_index
index_below file block i e = ltb-true _ _ (held _ _ e)

-- 52 and 53 found no fault
record Designated (file : List ℕ) (block : Block) (i : ℕ) : Type 0 where
  inside : octet file (type_place block i + 5) < block.charcnt
  ended : octet file (type_place block i + 5) < nul_end file block

designated : (file : List ℕ) (block : Block) (i : ℕ) → check_type file block (nul_end file block) i ≡ given tt → Designated file block i
unfolding check_type
designated file block i e = let three = both_given _ _ (both_given _ _ (both_given _ _ e).1).1 in
    record { inside = ltb-true _ _ (held _ _ three.0); ended = ltb-true _ _ (held _ _ three.1) }

module _ {file : List ℕ} {block : Block} (read : ReadBlock file block) where
  type_passed : (i : ℕ) → i < block.typecnt → Designated file block i
  unfolding check_part count_of check_of
  type_passed i l = designated file block i (each_passed (check_type file block (nul_end file block)) block.typecnt read.passed.types i l)

  -- 53 found no fault
  pub type_ended : (i : ℕ) → i < block.typecnt → octet file (type_place block i + 5) < nul_end file block
  type_ended i l = (type_passed i l).ended

  index_passed : (i : ℕ) → i < block.timecnt → octet file (indices_of block + i) < block.typecnt
  unfolding check_part count_of check_of
  index_passed i l = index_below file block i (each_passed (check_index file block) block.timecnt read.passed.indices i l)

  pub good : Good file block
  good = record {
    within = read.within;
    rising = transitions_rise file block read.passed.times;
    some = read.some;
    indices = index_passed;
    inside = λ i l. (type_passed i l).inside;
  }

-- ---- a file that was read
module _ (file : List ℕ) {zone : Zone} (e : read_zone_by rfc9636 file ≡ given zone) where
  from : ReadFrom file zone
  from = zone_from file (λ block is. (block_read file false 0 is).within.end) e

  pub zone_read : ReadBlock file zone.block
  zone_read = block_read file from.wide from.at from.read

  -- its block is good
  pub zone_good : Good file zone.block
  zone_good = good zone_read

  -- its leap-second occurrences rise
  pub zone_leaps_rise : Rises file (occurrences_of zone.block)
  zone_leaps_rise = occurrences_rise file zone.block (is_fourth rfc9636 (octet file 4)) zone_read.passed.leaps

  -- it is no longer than 1 GiB
  pub zone_short : length file ≤ 2 ^ 30
  unfolding read_zone_by
  zone_short = leb-true _ _ (held _ _ (both_given _ _ e).0)

  -- its TZ string lies within it
  pub zone_string : zone.string + zone.size ≤ length file
  zone_string = from.string

-- ---- a good block's answers
module _ {file : List ℕ} {block : Block} (g : Good file block) where
  pub type_below : (n : ℕ) → n ≤ block.timecnt → type_behind file block n < block.typecnt
  unfolding type_behind
  type_below n l = go (eqb n 0) refl where
    go : (t : Bool) → eqb n 0 ≡ t → (if t then 0 else octet file (indices_of block + (n - 1))) < block.typecnt
    go true e = g.some
    go false e = g.indices (n - 1) (omega (arith, eqb-false n 0 e))

  pub behind_within : (instant : ℕ) → last_not_after file (transitions_of block) instant ≤ block.timecnt
  unfolding last_not_after
  behind_within instant = last_within _ block.timecnt

  -- a type's abbreviation lies within the file
  pub type_held : (i : ℕ) → i < block.typecnt → Held (length file) (type_in file block i)
  unfolding type_in run_to
  type_held i l = record {
    held = omega (
      arith,
      g.inside i l,
      g.within.end,
      first_within (λ k. is_stop 0 (octet file (designations_of block + octet file (type_place block i + 5) + k))) (block.charcnt - octet file (type_place block i + 5)),
    );
  }

  -- and so does that of an answer
  pub table_held : (instant : ℕ) → IfSome (by_table file block instant) (Held (length file))
  unfolding by_table
  table_held instant = go (is_after_last file block instant) where
    go : (t : Bool) → IfSome (if t then None else Some (type_in file block (type_behind file block (last_not_after file (transitions_of block) instant)))) (Held (length file))
    go true = tt
    go false = type_held _ (type_below _ (behind_within instant))
