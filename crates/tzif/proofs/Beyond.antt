-- Two files of one length that are the same from a place on: what is read and answered behind it is the same. Assumes nothing.
use Rattle.numbers.{proofs.Prelude.{ℕ, ◌+◌, ◌-◌, ◌≤◌, eqb, ltb, leb, length, drop, Bool, true, false, ◌&&◌, List, ◌≡◌, refl, ap, ◌∙◌, w32, to_z, arith}, specs.Answer.{if◌then◌else◌}}
use Rattle.tzif.proofs.{Alike.{be32_same, time_same, first_same}, Lasts.{last_same}}
use Rattle.tzif.specs.{Block.{time_place, indices_of, designations_of}, Check.{type_place, leap_place, correction_of, correction_before, correction_at}, Local.{type_in, type_behind, is_after_last}}
use Rattle.tzif.specs.{Local.{by_table, lent}, Number.{octet, be32}, Reply.{Reply, given, refused, refusal, demand, ◌>>◌}, Text.{is_stop, run_to}, Times.{time_in, transitions_of, occurrences_of}}
use Rattle.tzif.specs.{Times.{last_not_after}, Zone.{string_size, newline_at, read_footer}, declared.{block.Block.{Block}, local.Found.{Found}, refusal.Refusal.{Refusal}}}
use Rattle.std.specs.Prelude.{Option, Some, None}

pub record Beyond (file other : List ℕ) (from : ℕ) : Type 0 where
  pub size : length file ≡ length other
  pub at : (p : ℕ) → from ≤ p → octet file p ≡ octet other p
  pub tail : (p : ℕ) → from ≤ p → drop p file ≡ drop p other

-- an answer whose abbreviation stands behind the place
pub data Behind (from : ℕ) : Reply (Option Found) → Type 0 where
  found_behind : {found : Found} → from ≤ found.place → Behind from (given (Some found))
  unknown_one : Behind from (given None)
  refused_one : {why : Refusal} → Behind from (refused why)

module _ (file other : List ℕ) (from : ℕ) (b : Beyond file other from) where
  four : (p : ℕ) → from ≤ p → be32 file p ≡ be32 other p
  four p h = be32_same p (record { at = λ q a l. b.at q (omega arith) })

  run_same : (stop p most : ℕ) → from ≤ p → run_to stop file p most ≡ run_to stop other p most
  unfolding run_to
  run_same stop p most h = first_same (λ k. is_stop stop (octet file (p + k))) (λ k. is_stop stop (octet other (p + k))) most (λ k l. ap (is_stop stop) (b.at (p + k) (omega arith)))

  -- ---- the footer
  newline_same : (p : ℕ) → from ≤ p → newline_at file p ≡ newline_at other p
  unfolding newline_at
  newline_same p h = λ i. ltb p (b.size i) && eqb (b.at p h i) 10

  string_same : (p : ℕ) → from ≤ p → string_size file p ≡ string_size other p
  string_same p h = run_same 10 p (length file - p) h ∙ ap (λ (n : ℕ). run_to 10 other p (n - p)) b.size

  pub footer_same : (at : ℕ) → from ≤ at → read_footer file at ≡ read_footer other at
  unfolding read_footer
  footer_same at h =
      λ i. demand (newline_same at h i) (refusal 58 at) >> (demand (closed i) (refusal 58 (at + 1 + long i)) >> (demand (leb (b.size i) (at + 1 + long i + 1))
      (refusal 59 (at + 1 + long i + 1)) >> given (long i))) where
        long : string_size file (at + 1) ≡ string_size other (at + 1)
        long = string_same (at + 1) (omega arith)

        closed : newline_at file (at + 1 + string_size file (at + 1)) ≡ newline_at other (at + 1 + string_size other (at + 1))
        closed = newline_same (at + 1 + string_size file (at + 1)) (omega arith) ∙ ap (λ (n : ℕ). newline_at other (at + 1 + n)) long

  -- ---- a block behind the place
  module _ (block : Block) (behind : from ≤ block.begin) (wide : 4 ≤ block.width) where
    pub transition_same : (i : ℕ) → time_in file (transitions_of block) i ≡ time_in other (transitions_of block) i
    unfolding time_in
    transition_same i = time_same block.width (time_place block i) wide (record { at = λ p a l. b.at p (omega arith) })

    occurrence_same : (i : ℕ) → time_in file (occurrences_of block) i ≡ time_in other (occurrences_of block) i
    unfolding time_in
    occurrence_same i = time_same block.width (leap_place block i) wide (record { at = λ p a l. b.at p (omega arith) })

    last_transition : (instant : ℕ) → last_not_after file (transitions_of block) instant ≡ last_not_after other (transitions_of block) instant
    unfolding last_not_after
    last_transition instant = last_same (λ i. leb (time_in file (transitions_of block) i) instant) (λ i. leb (time_in other (transitions_of block) i) instant) block.timecnt
        (λ k l. ap (λ (t : ℕ). leb t instant) (transition_same k))

    last_occurrence : (instant : ℕ) → last_not_after file (occurrences_of block) instant ≡ last_not_after other (occurrences_of block) instant
    unfolding last_not_after
    last_occurrence instant = last_same (λ i. leb (time_in file (occurrences_of block) i) instant) (λ i. leb (time_in other (occurrences_of block) i) instant) block.leapcnt
        (λ k l. ap (λ (t : ℕ). leb t instant) (occurrence_same k))

    before_same : (i : ℕ) → correction_before file block i ≡ correction_before other block i
    unfolding correction_before correction_of
    before_same i = rw (four (leap_place block (i - 1) + block.width) (omega arith)) refl

    pub correction_same : (instant : ℕ) → correction_at file block instant ≡ correction_at other block instant
    unfolding correction_at
    correction_same instant = before_same (last_not_after file (occurrences_of block) instant) ∙ ap (correction_before other block) (last_occurrence instant)

    pub type_same : (type : ℕ) → type_in file block type ≡ type_in other block type
    unfolding type_in
    type_same type = λ i. record {
      offset = to_z w32 (four (type_place block type) (omega arith) i);
      daylight = b.at (type_place block type + 4) (omega arith) i;
      place = designations_of block + index i;
      length = name i;
    } where
      index : octet file (type_place block type + 5) ≡ octet other (type_place block type + 5)
      index = b.at (type_place block type + 5) (omega arith)

      name : run_to 0 file (designations_of block + octet file (type_place block type + 5)) (block.charcnt - octet file (type_place block type + 5))
          ≡ run_to 0 other (designations_of block + octet other (type_place block type + 5)) (block.charcnt - octet other (type_place block type + 5))
      name = run_same 0 (designations_of block + octet file (type_place block type + 5)) (block.charcnt - octet file (type_place block type + 5)) (omega arith) ∙
          ap (λ (k : ℕ). run_to 0 other (designations_of block + k) (block.charcnt - k)) index

    -- its abbreviation stands behind it too
    pub type_place_behind : (type : ℕ) → from ≤ (type_in file block type).place
    unfolding type_in
    type_place_behind type = omega arith

    pub behind_same : (n : ℕ) → type_behind file block n ≡ type_behind other block n
    unfolding type_behind
    behind_same n = rw (b.at (indices_of block + (n - 1)) (omega arith)) refl

    pub after_same : (instant : ℕ) → is_after_last file block instant ≡ is_after_last other block instant
    unfolding is_after_last
    after_same instant = rw (transition_same (block.timecnt - 1)) refl

    pub table_same : (instant : ℕ) → by_table file block instant ≡ by_table other block instant
    unfolding by_table
    table_same instant = λ i. if after_same instant i then None else Some (type i) where
      index : type_behind file block (last_not_after file (transitions_of block) instant) ≡ type_behind other block (last_not_after other (transitions_of block) instant)
      index = behind_same (last_not_after file (transitions_of block) instant) ∙ ap (type_behind other block) (last_transition instant)

      type : type_in file block (type_behind file block (last_not_after file (transitions_of block) instant)) ≡ type_in other block
          (type_behind other block (last_not_after other (transitions_of block) instant))
      type = type_same (type_behind file block (last_not_after file (transitions_of block) instant)) ∙ ap (type_in other block) index

  -- ---- the reply
  pub table_behind : (block : Block) → from ≤ block.begin → (instant : ℕ) → Behind from (given (by_table file block instant))
  unfolding by_table type_in
  table_behind block h instant = go (is_after_last file block instant) where
    go : (t : Bool) → Behind from (given (if t then None else Some (type_in file block (type_behind file block (last_not_after file (transitions_of block) instant)))))
    go true = unknown_one
    go false = found_behind {found = type_in file block (type_behind file block (last_not_after file (transitions_of block) instant))} (omega arith)

  pub lent_same : (room : ℕ) {answer : Reply (Option Found)} → Behind from answer → lent file room answer ≡ lent other room answer
  unfolding lent
  lent_same room (found_behind {found = found} h) = rw (b.tail found.place h) refl
  lent_same room unknown_one = refl
  lent_same room refused_one = refl
