-- What holding words against an atlas comes to: entry by entry, and as a whole. Assumes nothing.
use Rattle.std.specs.Prelude.{is_err}
use Rattle.numbers.proofs.Prelude.{ℕ, ◌+◌, ◌-◌, ◌*◌, ◌^◌, ◌≤◌, ◌<◌, lt-ltb, le-leb, le-ltb, leb-true, ltb-true, lt-leb, ltb, leb, length, take, drop, get_or, length-append, length-replicate}
use Rattle.numbers.proofs.Prelude.{take-append-drop, length-take-le, get_or-take, take-append_seam, Bool, true, false, ◌&&◌, List, ◌++◌, append_assoc, append-nil, ◌≡◌, refl, sym, ap, subst, ◌∙◌}
use Rattle.numbers.proofs.Prelude.{arith}
use Rattle.numbers.{proofs.{Replies.{onward, met, unmet, given_one}, Tests.{both, differ}}, specs.{Answer.{if◌then◌else◌}, Lists.{zeros, padded}, Reply.{Reply, given, refused, plain, demand, ◌>>◌}}}
use Rattle.numbers.specs.declared.refusal.Refusal.{Refusal}
use Rattle.header.specs.{Header.{head_of}, declared.header.Head.{Head}}
use Rattle.index.{proofs.{Owned.{is_index_exactly}, Sides.{and_first, and_rest}, Standing.{at_append, at_here, at_inside, at_rest, so_both, and_not}}, specs.Index.{joined, records_at, index_of}}
use Rattle.index.specs.{Index.{built_with, built_in, index_with, index_in, Indexed, indexed, indexed_by, indexed_of}, Own.{is_index_of}, Tied.{word_at}}
use Rattle.index.specs.inner.Own.{is_word, is_at, stands_from, is_empty_from}
use Rattle.marks.specs.Marks.{low}
use Rattle.table.specs.declared.rows.Row.{Row}
use Rattle.atlas.proofs.{AtlasIsPlain.{MadeFrom, made_from, is_atlas_exactly}, Behind.{by_length, by_next, by_done, IndexMade, index_made, made, with_room}}
use Rattle.atlas.proofs.Beside.{entries_length, index_ends, index_long, rows_there, marks_by_words}
use Rattle.atlas.specs.Atlas.{marks_in, entry_of, entries_from, beside_of, atlas_of, atlas_made, is_made, is_atlas_of}
use Rattle.atlas.specs.inner.Building.{marks_at_record, marks_by, behind_by, behind_of, stands_one, is_behind, end_of}

-- ---- replies of a comparison
-- what a comparison that gave a place tells
pub stood : (test : Bool) (at next : ℕ) → given next ≡ (demand test (plain 36) >> given at) → (test ≡ true) × (next ≡ at)
stood true at next e = (refl, given_one e)
stood false at next e = let z : ◌≡◌ {A = ℕ} 0 1 = cc in absurd (omega arith)

pub one_why : (word list : Bool) (next : ℕ) {why : Refusal} → refused why ≡ (demand word (plain 36) >> (demand list (plain 36) >> given next)) → why ≡ plain 36
one_why false list next e = cc
one_why true false next e = cc
one_why true true next e = let z : ◌≡◌ {A = ℕ} 0 1 = cc in absurd (omega arith)

pub not_stood : (test : Bool) (at : ℕ) {why : Refusal} → refused why ≡ (demand test (plain 36) >> given at) → test ≡ false
not_stood true at e = let z : ◌≡◌ {A = ℕ} 0 1 = cc in absurd (omega arith)
not_stood false at e = refl

-- ---- one entry
module _ (words : List ℕ) (place at : ℕ) {word word' : ℕ} {list list' : List ℕ} (w : word ≡ word') (is : list ≡ list') where
  pub other_word : is_word words place word ≡ false → refused (plain 36) ≡ stands_one words place at word' list'
  other_word e = unmet (ap (is_word words place) (sym w) ∙ e) (plain 36) _

  module _ (e : is_word words place word ≡ true) where
    here_so : stands_from words at list ≡ stands_one words place at word' list'
    here_so = ap (λ (l : List ℕ). stands_from words at l) is ∙ met (ap (is_word words place) (sym w) ∙ e) (plain 36) _

    pub other_marks : is_at words at list ≡ false → refused (plain 36) ≡ stands_one words place at word' list'
    other_marks m = unmet m (plain 36) (given (at + length list)) ∙ here_so

    pub marks_so : is_at words at list ≡ true → {next : ℕ} → next ≡ at + length list → given next ≡ stands_one words place at word' list'
    marks_so m n = ap (λ (j : ℕ). given j) n ∙ met m (plain 36) (given (at + length list)) ∙ here_so

-- ---- the loop over the records
module _ (file : List ℕ) (head : Head) (words : List ℕ) (n first : ℕ) where
  abbrev all : List (List ℕ)
  all = marks_by file head words n 0

  abbrev rest : ℕ → List (List ℕ)
  rest k = marks_by file head words (n - k) k

  abbrev tested : ℕ → ℕ → List (List ℕ) → Bool
  tested at k lists = is_at words (first + k) (entries_from (at - first) lists) && is_at words at (joined lists)

  abbrev standing : ℕ → ℕ → List (List ℕ) → Reply ℕ
  standing at k lists = demand (tested at k lists) (plain 36) >> given (at + length (joined lists))

  -- what is left to compare
  pub record Comparing (at k : ℕ) : Type 0 where
    pub within : k ≤ n
    pub above : first + n ≤ at
    pub few : at ≤ first + n + 2 ^ 22 * k
    pub same : standing at k (rest k) ≡ stands_from words first (beside_of all)

  pub comparing_starts : Comparing (first + n) 0
  comparing_starts = let z : n - 0 ≡ n = omega arith in let f : first + 0 ≡ first = omega arith in let long = by_length file head words n 0 in
      let entries = entries_from (length all) all in let many = entries_length (length all) all in
      let b : first + n - first ≡ length all = omega (arith, long) in let behind : first + n ≡ first + length entries = omega (arith, many, long) in
      let ends : first + n + length (joined all) ≡ first + length (beside_of all) = omega (arith, many, long, length-append entries (joined all)) in record {
        within = omega arith;
        above = omega arith;
        few = omega arith;
        same =
            (λ i. demand (is_at words (f i) (entries_from (b i) (marks_by file head words (z i) 0)) && is_at words (first + n) (joined (marks_by file head words (z i) 0)))
            (plain 36) >> given (first + n + length (joined (marks_by file head words (z i) 0))))
            ∙ (λ i. demand (is_at words first entries && is_at words (behind i) (joined all)) (plain 36) >> given (ends i))
            ∙ ap (λ (t : Bool). demand t (plain 36) >> given (first + length (beside_of all))) (sym (at_append words first entries (joined all)));
      }

  module _ {at k : ℕ} (g : Comparing at k) (more : k < n) where
    abbrev list : List ℕ
    list = marks_at_record file head words k

    abbrev later : List (List ℕ)
    later = rest (k + 1)

    abbrev here : Bool
    here = is_word words (first + k) (entry_of (at - first) list)

    was : (demand ((here && is_at words (first + k + 1) (entries_from (at - first + length list) later)) && is_at words at (list ++ joined later))
        (plain 36) >> given (at + length (list ++ joined later))) ≡ stands_from words first (beside_of all)
    unfolding joined entries_from is_at
    was = rw (by_next file head words n k more) at g.same

    split : is_at words at (list ++ joined later) ≡ (is_at words at list && is_at words (at + length list) (joined later))
    split = at_append words at list (joined later)

    -- another word, or other marks
    pub comparing_other : {why : Refusal} → refused why ≡ stands_one words (first + k) at (entry_of (at - first) list) list → refused (plain 36) ≡ stands_from words first (beside_of all)
    comparing_other {why} e = by_word here refl e ∙ was where
      wrong : (a b c : Bool) → ((a && b) && c) ≡ false → refused (plain 36) ≡ (demand ((a && b) && c) (plain 36) >> given (at + length (list ++ joined later)))
      wrong a b c e = sym (ap (λ (t : Bool). demand t (plain 36) >> given (at + length (list ++ joined later))) e)

      by_word : (a : Bool) → here ≡ a → refused why ≡ (demand a (plain 36) >> stands_from words at list)
          → refused (plain 36) ≡ (demand ((here && is_at words (first + k + 1) (entries_from (at - first + length list) later)) && is_at words at (list ++ joined later))
          (plain 36) >> given (at + length (list ++ joined later)))
      by_word false h e = wrong here _ _ (rw h)
      by_word true h e = let marks = not_stood (is_at words at list) (at + length list) e in
          wrong here _ _ (sym (and_not (here && is_at words (first + k + 1) (entries_from (at - first + length list) later)) (is_at words at (list ++ joined later))
          (split ∙ sym (and_first (is_at words at list) _ marks))))

    -- the word and the marks stand
    pub comparing_on : {next : ℕ} → given next ≡ stands_one words (first + k) at (entry_of (at - first) list) list → length list ≤ 2 ^ 22 → Comparing next (k + 1)
    comparing_on {next} e short = let told = by_word here refl e in let next_is = told.2 in let up : first + (k + 1) ≡ first + k + 1 = omega arith in
        let on : next - first ≡ at - first + length list = omega (arith, g.above, next_is) in
        let long : next + length (joined later) ≡ at + length (list ++ joined later) = omega (arith, next_is, length-append list (joined later)) in
        let entries = is_at words (first + k + 1) (entries_from (at - first + length list) later) in let marks = is_at words (at + length list) (joined later) in
        let both_so : (entries && marks) ≡ ((here && entries) && is_at words at (list ++ joined later)) = (λ i. and_rest here entries told.0 i &&
        (and_rest (is_at words at list) marks told.1 ∙ sym split) i) in record {
          within = omega arith;
          above = omega (arith, g.above, next_is);
          few = omega (arith, g.few, next_is, short);
          same =
              (λ i. demand (is_at words (up i) (entries_from (on i) later) && is_at words (next_is i) (joined later)) (plain 36) >> given (long i))
              ∙ ap (λ (t : Bool). demand t (plain 36) >> given (at + length (list ++ joined later))) both_so
              ∙ was;
        } where
          by_word : (a : Bool) → here ≡ a → given next ≡ (demand a (plain 36) >> stands_from words at list) → (here ≡ true) × (is_at words at list ≡ true) × (next ≡ at + length list)
          by_word true h e = let s = stood (is_at words at list) (at + length list) next e in (h, s.0, s.1)
          by_word false h e = let z : ◌≡◌ {A = ℕ} 0 1 = cc in absurd (omega arith)

  pub comparing_ends : {at k : ℕ} → Comparing at k → n ≤ k → given at ≡ stands_from words first (beside_of all)
  unfolding joined entries_from is_at
  comparing_ends {at} {k} g h = let e : at ≡ at + 0 = omega arith in let was = rw (by_done file head words n k h) at g.same in
      ap (λ (j : ℕ). given j) e ∙ was

-- ---- all that stands behind the index
module _ (words beside : List ℕ) (used : ℕ) where
  abbrev behind : List ℕ
  behind = behind_by beside used

  shape : is_at words used behind ≡ (is_word words used (low (used + 1 + length beside)) && is_at words (used + 1) beside)
  unfolding is_at
  shape = refl

  abbrev end : ℕ
  end = used + length behind

  end_is : end ≡ used + 1 + length beside
  end_is = omega arith

  pub behind_other : {why : Refusal} → refused why ≡ stands_from words (used + 1) beside → false ≡ is_behind words behind used
  unfolding is_behind
  behind_other e =
      and_first (is_at words used behind) _ (shape ∙ sym (and_not (is_word words used (low (used + 1 + length beside))) (is_at words (used + 1) beside) (not_stood (is_at words (used + 1)
      beside) _ e)))

  module _ {all : ℕ} (e : given all ≡ stands_from words (used + 1) beside) where
    told : (is_at words (used + 1) beside ≡ true) × (all ≡ used + 1 + length beside)
    told = stood (is_at words (used + 1) beside) (used + 1 + length beside) all e

    same_end : all ≡ end
    same_end = told.1 ∙ sym end_is

    length_word : is_word words used (low all) ≡ is_at words used behind
    length_word = ap (λ (j : ℕ). is_word words used (low j)) told.1 ∙ by_true (is_word words used (low (used + 1 + length beside))) (is_at words (used + 1) beside) told.0 ∙ sym shape where
      by_true : (a b : Bool) → b ≡ true → a ≡ (a && b)
      by_true true b e = sym e
      by_true false b e = refl

    pub behind_length : is_word words used (low all) ≡ false → false ≡ is_behind words behind used
    unfolding is_behind
    behind_length w = and_first (is_at words used behind) _ (sym length_word ∙ w)

    module _ (w : is_word words used (low all) ≡ true) where
      there : is_at words used behind ≡ true
      there = sym length_word ∙ w

      pub behind_large : 2 ^ 32 ≤ all → false ≡ is_behind words behind used
      unfolding is_behind
      behind_large h = and_first (ltb end (2 ^ 32)) (is_empty_from words end) (le-ltb end (2 ^ 32) (omega (arith, h, same_end))) ∙ and_rest (is_at words used behind) _ there

      pub behind_rest : all < 2 ^ 32 → {r : Bool} → r ≡ is_empty_from words all → r ≡ is_behind words behind used
      unfolding is_behind
      behind_rest h e =
          e ∙ ap (λ (j : ℕ). is_empty_from words j) same_end ∙ and_rest (ltb end (2 ^ 32)) (is_empty_from words end) (lt-ltb end (2 ^ 32) (omega (arith, h, same_end)))
          ∙ and_rest (is_at words used behind) _ there

-- ---- where the index ends
pub end_short : (words : List ℕ) → length words < records_at → 0 ≡ end_of words
unfolding end_of
end_short words h = rw (lt-leb _ _ h)

pub end_long : (words : List ℕ) → records_at ≤ length words → length words < word_at words 2051 → 0 ≡ end_of words
unfolding end_of
end_long words h k = rw (le-leb records_at (length words) h, lt-leb _ _ k)

pub end_there : (words : List ℕ) → records_at ≤ length words → word_at words 2051 ≤ length words → word_at words 2051 ≡ end_of words
unfolding end_of
end_there words h k = rw (le-leb records_at (length words) h, le-leb (word_at words 2051) (length words) k)

-- the front of the words
pub front_part : (words : List ℕ) {end : ℕ} → end ≡ end_of words → take (end - 0) (drop 0 words) ≡ take (end_of words) words
front_part words {end} e = let z : end - 0 ≡ end_of words = omega (arith, e) in ap (λ (k : ℕ). take k words) z

-- it is 0, or what the word says
end_either : (words : List ℕ) → 0 < end_of words → end_of words ≡ word_at words 2051
unfolding end_of
end_either words = go (leb records_at (length words)) (leb (word_at words 2051) (length words)) where
  go : (a b : Bool) → 0 < (if a then (if b then word_at words 2051 else 0) else 0) → (if a then (if b then word_at words 2051 else 0) else 0) ≡ word_at words 2051
  go true true h = refl
  go true false h = absurd (omega (arith, h))
  go false b h = absurd (omega (arith, h))

-- ---- an atlas is its index and what stands behind it
module _ (file : List ℕ) (head : Head) (rows : List Row) (tail : List ℕ) where
  abbrev index : List ℕ
  index = index_of file head rows

  abbrev whole : List ℕ
  whole = index ++ (behind_by (beside_of (marks_in file head rows)) (length index) ++ tail)

  pub behind_is : behind_of file head whole (length index) ≡ behind_by (beside_of (marks_in file head rows)) (length index)
  behind_is = ap (λ (lists : List (List ℕ)). behind_by (beside_of lists) (length index)) (marks_by_words file head rows (behind_by (beside_of (marks_in file head rows)) (length index) ++ tail))

module _ (file words : List ℕ) (m : MadeFrom file (length words) words) where
  abbrev own_index : List ℕ
  own_index = index_of file m.head m.rows

  abbrev behind_in : List ℕ
  behind_in = behind_by (beside_of (marks_in file m.head m.rows)) (length own_index)

  abbrev zeros_in : List ℕ
  zeros_in = zeros (length words - length (atlas_of file m.head m.rows))

  atlas_is : atlas_of file m.head m.rows ≡ own_index ++ behind_in
  unfolding atlas_of
  atlas_is = refl

  words_are : words ≡ own_index ++ (behind_in ++ zeros_in)
  words_are = m.whole ∙ ap (λ (a : List ℕ). a ++ zeros_in) atlas_is ∙ append_assoc own_index behind_in zeros_in

  room_in : (length (atlas_of file m.head m.rows) ≤ length words) × (length (atlas_of file m.head m.rows) < 2 ^ 32)
  room_in =
      let t = both (leb (length (atlas_of file m.head m.rows)) (length words)) (ltb (length (atlas_of file m.head m.rows)) (2 ^ 32)) m.room in
      (leb-true _ _ t.0, ltb-true _ _ t.1)

  long_in : length (atlas_of file m.head m.rows) ≡ length own_index + length behind_in
  long_in = ap length atlas_is ∙ length-append own_index behind_in

  end_in : end_of words ≡ length own_index
  end_in =
      let last : word_at words 2051 ≡ length own_index = ap (λ (w : List ℕ). get_or w 2051 0) words_are ∙ index_ends file m.head m.rows (behind_in ++ zeros_in) in
      let least = index_long file m.head m.rows (behind_in ++ zeros_in) in
      sym (end_there words (omega (arith, least, room_in.0, long_in)) (omega (arith, last, room_in.0, long_in))) ∙ last

  front_in : take (end_of words) words ≡ own_index
  front_in = (λ i. take (end_in i) (words_are i)) ∙ take-append_seam own_index (behind_in ++ zeros_in)

  index_given : given own_index ≡ index_in file (length own_index)
  unfolding built_in built_with
  index_given =
      let room = so_both (leb (length own_index) (length own_index)) (ltb (length own_index) (2 ^ 32)) (le-leb (length own_index) (length own_index) (omega arith))
      (lt-ltb (length own_index) (2 ^ 32) (omega (arith, room_in.1, long_in))) in
      met room (plain 35) _ ∙ onward m.listed _ ∙ met m.precise (plain 16) _ ∙ onward m.opened (λ (h : Head). index_with file h (length own_index))

  is_index_in : is_index_of file (take (end_of words) words) ≡ given tt
  unfolding indexed_of indexed_by
  is_index_in = let none : length own_index - length own_index ≡ 0 = omega arith in
      let alone : padded (length own_index) own_index ≡ own_index = ap (λ (k : ℕ). own_index ++ zeros k) none ∙ append-nil own_index in
      ap (is_index_of file) front_in
      ∙ (is_index_exactly file own_index).1 (length own_index, sym (ap (indexed_by (length own_index)) index_given) ∙ (λ i. indexed (given (length own_index)) (alone i)))

  is_behind_in : (head : Head) → given head ≡ head_of file → is_behind words (behind_of file head words (end_of words)) (end_of words) ≡ true
  unfolding is_behind
  is_behind_in head opened =
      let same : head ≡ m.head = given_one (opened ∙ sym m.opened) in
      let stand = at_here (behind_in ++ zeros_in) own_index in
      let parts = both (is_at (own_index ++ (behind_in ++ zeros_in)) (length own_index) behind_in) (is_at (own_index ++ (behind_in ++ zeros_in))
      (length own_index + length behind_in) zeros_in) (sym (at_append (own_index ++ (behind_in ++ zeros_in)) (length own_index) behind_in zeros_in) ∙ stand) in
      let left : length words - length (atlas_of file m.head m.rows) ≡ length (own_index ++ (behind_in ++ zeros_in)) - (length own_index + length behind_in) =
      omega (arith, long_in, ap length words_are) in
      let here : behind_of file head words (end_of words) ≡ behind_in =
      (λ i. behind_of file (same i) (words_are i) (end_in i)) ∙ behind_is file m.head m.rows zeros_in in
      (λ i. is_behind (words_are i) (here i) (end_in i))
      ∙ so_both (is_at (own_index ++ (behind_in ++ zeros_in)) (length own_index) behind_in) _ parts.0
      (so_both (ltb (length own_index + length behind_in) (2 ^ 32)) _ (lt-ltb (length own_index + length behind_in) (2 ^ 32) (omega (arith, room_in.1, long_in)))
      (sym (ap (λ (k : ℕ). is_at (own_index ++ (behind_in ++ zeros_in)) (length own_index + length behind_in) (zeros k)) left) ∙ parts.1))

-- ---- the other way
module _ (file words : List ℕ) {head : Head} (opened : given head ≡ head_of file) (e : is_index_of file (take (end_of words) words) ≡ given tt) (few : end_of words ≤ length words) where
  abbrev front : List ℕ
  front = take (end_of words) words

  front_long : length front ≡ end_of words
  front_long = length-take-le (end_of words) words few

  built : (used : ℕ) × (indexed_of file (length front) ≡ indexed (given used) front)
  built = (is_index_exactly file front).0 e

  made_so : IndexMade file (length front) built.0 front head
  made_so = index_made file (length front) opened (sym built.1)

  abbrev first_index : List ℕ
  first_index = index_of file head made_so.rows

  abbrev zeros_so : List ℕ
  zeros_so = zeros (length front - length first_index)

  ends_so : end_of words ≡ length first_index
  ends_so = let least = index_long file head made_so.rows zeros_so in let fits = made_so.fits in let said = made_so.said in
      let some : records_at ≤ end_of words = omega (arith, least, fits, said, front_long) in
      end_either words (omega (arith, some)) ∙ sym (get_or-take (end_of words) words 2051 0 (omega (arith, some))) ∙ ap (λ (w : List ℕ). get_or w 2051 0) made_so.whole
      ∙ index_ends file head made_so.rows zeros_so

  front_is : front ≡ first_index
  front_is = let none : length front - length first_index ≡ 0 = omega (arith, front_long, ends_so) in
      made_so.whole ∙ ap (λ (k : ℕ). first_index ++ zeros k) none ∙ append-nil first_index

  abbrev others : List ℕ
  others = drop (end_of words) words

  words_so : words ≡ first_index ++ others
  words_so = sym (take-append-drop (end_of words) words) ∙ ap (λ (f : List ℕ). f ++ others) front_is

  -- the records that are read inside the words
  pub records_inside : records_at + 7 * word_at words 2 ≤ length words
  records_inside =
      let third : word_at words 2 ≡ length made_so.rows = ap (λ (w : List ℕ). get_or w 2 0) words_so ∙ rows_there file head made_so.rows others in
      omega (arith, third, index_long file head made_so.rows others, ends_so, few)

  abbrev last_behind : List ℕ
  last_behind = behind_by (beside_of (marks_in file head made_so.rows)) (length first_index)

  behind_so : behind_of file head words (end_of words) ≡ last_behind
  behind_so =
      (λ i. behind_by (beside_of (marks_by file head (words_so i) (word_at (words_so i) 2) 0)) (ends_so i))
      ∙ ap (λ (lists : List (List ℕ)). behind_by (beside_of lists) (length first_index)) (marks_by_words file head made_so.rows others)

  module _ (b : is_behind words (behind_of file head words (end_of words)) (end_of words) ≡ true) where
    abbrev at_end : ℕ
    at_end = length first_index + length last_behind

    tests : (is_at words (length first_index) last_behind ≡ true) × (at_end < 2 ^ 32) × (is_empty_from words at_end ≡ true)
    unfolding is_behind
    tests = let here : is_behind words last_behind (length first_index) ≡ true = sym (λ i. is_behind words (behind_so i) (ends_so i)) ∙ b in
        let p = both (is_at words (length first_index) last_behind) (ltb at_end (2 ^ 32) && is_empty_from words at_end) here in
        let q = both (ltb at_end (2 ^ 32)) (is_empty_from words at_end) p.1 in (p.0, ltb-true at_end (2 ^ 32) q.0, q.1)

    inside : at_end ≤ length words
    inside = at_inside words last_behind (length first_index) tests.0 (omega (arith, ends_so, few))

    abbrev empty : List ℕ
    empty = zeros (length words - at_end)

    rest_is : drop (length first_index) words ≡ last_behind ++ empty
    rest_is =
        at_rest words (last_behind ++ empty) (length first_index) (at_append words (length first_index) last_behind empty
        ∙ so_both (is_at words (length first_index) last_behind) _ tests.0 tests.2) (omega (arith, inside, length-append last_behind empty, length-replicate {A = ℕ} (length words - at_end) 0))

    whole_so : words ≡ padded (length words) (atlas_of file head made_so.rows)
    unfolding atlas_of
    whole_so = let long : length words - at_end ≡ length words - length (first_index ++ last_behind) = omega (arith, length-append first_index last_behind) in
        words_so ∙ ap (λ (d : List ℕ). first_index ++ d) (ap (λ (k : ℕ). drop k words) ends_so ∙ rest_is) ∙ sym (append_assoc first_index last_behind empty)
        ∙ ap (λ (k : ℕ). (first_index ++ last_behind) ++ zeros k) long

    atlas_long : length (atlas_of file head made_so.rows) ≡ at_end
    unfolding atlas_of
    atlas_long = length-append first_index last_behind

    pub atlas_so : given tt ≡ is_atlas_of file words
    atlas_so =
        let room = so_both (leb (length (atlas_of file head made_so.rows)) (length words)) (ltb (length (atlas_of file head made_so.rows)) (2 ^ 32))
        (le-leb (length (atlas_of file head made_so.rows)) (length words) (omega (arith, atlas_long, inside))) (lt-ltb (length (atlas_of file head made_so.rows))
        (2 ^ 32) (omega (arith, atlas_long, tests.1))) in
        let given_so = with_room file (length words) opened made_so.precise made_so.listed room in
        sym ((is_atlas_exactly file words).1 (length (atlas_of file head made_so.rows), sym (made file (length words) given_so refl whole_so)))

-- an index was said yes of
pub is_tied : {x : Reply (Unit {0})} (r : Reply (Unit {0})) → is_err r ≡ false → r ≡ x → x ≡ given tt
is_tied (given tt) fine e = sym e
is_tied (refused why) fine e = differ (sym fine)

-- ---- and no others
module _ (file words : List ℕ) where
  not_test : (b : Bool) → (b ≡ true → ⊥) → refused (plain 36) ≡ demand b (plain 36)
  not_test true h = absurd (h refl)
  not_test false h = refl

  was_made : is_made words (atlas_made file (length words)).reply (atlas_made file (length words)).words ≡ true → MadeFrom file (length words) words
  unfolding is_atlas_of
  was_made b = let built = (is_atlas_exactly file words).0 (ap (λ (t : Bool). demand t (plain 36)) b) in
      subst (MadeFrom file (length words)) (ap (λ (i : Indexed). i.words) built.1) (made_from file (length words) (ap (λ (i : Indexed). i.reply) built.1))

  never : {A : Type 0} {why : Refusal} → ◌≡◌ {A = Reply (Unit {0})} (refused why) (given tt) → A
  never e = let z : ◌≡◌ {A = ℕ} 0 1 = cc in absurd (omega arith)

  pub not_index : (r : Reply (Unit {0})) → is_err r ≡ true → r ≡ is_index_of file (take (end_of words) words) → refused (plain 36) ≡ is_atlas_of file words
  unfolding is_atlas_of
  not_index (given u) no_index e = differ no_index
  not_index (refused why) no_index e = not_test _ (λ b. never (e ∙ is_index_in file words (was_made b)))

  pub not_opened : {why : Refusal} → refused why ≡ head_of file → refused (plain 36) ≡ is_atlas_of file words
  unfolding is_atlas_of
  not_opened e = not_test _ (λ b. never' (e ∙ sym (was_made b).opened)) where
    never' : {why : Refusal} {h : Head} → refused why ≡ given h → ⊥
    never' e = let z : ◌≡◌ {A = ℕ} 0 1 = cc in absurd (omega arith)

  pub not_behind : {head : Head} → given head ≡ head_of file → is_behind words (behind_of file head words (end_of words)) (end_of words) ≡ false → refused (plain 36) ≡ is_atlas_of file words
  unfolding is_atlas_of
  not_behind {head} opened e = not_test _ (λ b. differ (sym e ∙ is_behind_in file words (was_made b) head opened))
