-- What building puts behind the index: entry by entry, and as a whole. Assumes nothing.
use Rattle.numbers.proofs.{Lists.{zeros_drop, sets_append}, Prelude.{ℕ, zero, suc, ◌+◌, ◌-◌, ◌*◌, ◌/◌, ◌^◌, ◌≤◌, ◌<◌, eq-eqb, ne_eqb, lt-ltb, le-leb, le-ltb, leb-true, ltb-true, lt-leb, eqb}}
use Rattle.numbers.proofs.Prelude.{ltb, leb, length, get_or, set, length-append, length-replicate, sets, length-sets, take-append_seam, sets-eq, get_or-set_other, Bool, true, false, List, []}
use Rattle.numbers.proofs.Prelude.{◌∷◌, ◌++◌}
use Rattle.numbers.{proofs.{Prelude.{◌≡◌, refl, sym, ap, subst, ◌∙◌, arith}, Replies.{carried, onward, met, unmet, given_from, given_one, demanded}, Tests.{both}}, specs.Answer.{if◌then◌else◌}}
use Rattle.numbers.specs.{Lists.{zeros, padded}, Reply.{Reply, given, refused, plain, demand, ◌>>=◌, ◌>>◌}, declared.refusal.Refusal.{Refusal}}
use lib.Seq.{drop-append-add}
use Rattle.border.specs.declared.reader.{Encoding.{Encoding}, Reader.{Reader}}
use Rattle.header.specs.{Header.{head_of}, declared.header.Head.{Head}}
use Rattle.index.{proofs.{Sides.{and_first}, Standing.{so_both, and_not}, Stores.{set_before, sets_before, read_below, same_word}}, specs.Index.{joined, records_at, index_of, has_room}}
use Rattle.index.specs.{Index.{built_with, built_in, index_with, index_in, Indexed, indexed, indexed_by, indexed_of}, Table.{table_of}, Tied.{word_at}}
use Rattle.marks.{proofs.Marked.{marks_length}, specs.Marks.{low, marks_from, stretch_edges, group_edges, groups_of, levels_from, counted}}
use Rattle.table.specs.{Find.{is_precision}, declared.rows.Row.{Row}}
use Rattle.atlas.proofs.Beside.{entries_length, index_long, rows_there, marks_by_words}
use Rattle.atlas.specs.{Atlas.{marks_for, marks_in, entry_of, entries_from, beside_of, atlas_of, atlas_with, atlas_in, atlas_made}, declared.course.Course.{Course}}
use Rattle.atlas.specs.inner.{Building.{marks_at_record, marks_by, behind_by, behind_of, size_of, entry_for, PutOne}, Marking.{marks_of}}
use Rattle.writer.specs.inner.Stored.{Stored}
use Rattle.index.proofs.Whole as W

-- ---- the word of an entry
pub entry_is : (at next first : ℕ) (list : List ℕ) → next ≡ at + length list → first ≤ at → entry_for (at - first) (next - first) ≡ entry_of (at - first) list
unfolding entry_of
entry_is at next first [] e h = rw (eq-eqb (at - first) (next - first) (omega (arith, e)))
entry_is at next first (x ∷ xs) e h = rw (ne_eqb (at - first) (next - first) (λ same. omega (arith, e, h, same)))

-- how many words the marks have
pub levels_length : (file : List ℕ) (encoding : Encoding) (count : ℕ) (s : Reader) → length (levels_from count file encoding s) ≡ 11 * count + 11 * groups_of count
levels_length file encoding count s = let fine = marks_from stretch_edges count file encoding s in
    let coarse = marks_from group_edges (groups_of count) file encoding s in
    omega (arith, length-append fine coarse, marks_length stretch_edges count file encoding s, marks_length group_edges (groups_of count) file encoding s)

pub marks_size : (file : List ℕ) (encoding : Encoding) (course : Course) → length (marks_of file encoding course) ≡ size_of course.count
unfolding counted
marks_size file encoding course = go course.count (levels_from course.count file encoding course.first) (levels_length file encoding course.count course.first) where
  go : (count : ℕ) (xs : List ℕ) → length xs ≡ 11 * count + 11 * groups_of count → length (counted count xs) ≡ size_of count
  go zero xs e = refl
  go (suc count) xs e = rw (ne_eqb (suc count) 0 (λ z. omega (arith, z))) (omega (arith, e))

pub groups_few : (count : ℕ) → groups_of count ≤ count / 16 + 1
unfolding groups_of
groups_few count = omega arith

pub size_few : (count : ℕ) → count ≤ 2 ^ 18 → size_of count ≤ 2 ^ 22
size_few count h = choose (eqb count 0) where
  choose : (b : Bool) → (if b then 0 else (1 + 11 * count + 11 * groups_of count)) ≤ 2 ^ 22
  choose true = omega arith
  choose false = omega (arith, h, groups_few count)

-- one entry's word and marks, stored
pub put_one : {before middle after list list' : List ℕ} {place at next end word word' : ℕ} → list ≡ list' → Stored before at list middle next → word ≡ word'
    → Stored middle place (word ∷ []) after end → PutOne before place at word' list' after next
put_one {before} {middle} {after} {list} {list'} {place} {at} {next} {end} {word} {word'} is s w p = record {
  place_after = s.place_after ∙ ap (λ (l : List ℕ). at + length l) is;
  stored = p.stored ∙ (λ i. set (s.stored i) place (w i)) ∙ ap (λ (l : List ℕ). set (sets before at l) place word') is;
}

-- ---- record by record
module _ (file : List ℕ) (head : Head) (words : List ℕ) where
  pub by_length : (more k : ℕ) → length (marks_by file head words more k) ≡ more
  unfolding marks_by
  by_length zero k = refl
  by_length (suc more) k = ap suc (by_length more (k + 1))

  pub by_next : (n k : ℕ) → k < n → marks_by file head words (n - k) k ≡ marks_at_record file head words k ∷ marks_by file head words (n - (k + 1)) (k + 1)
  unfolding marks_by
  by_next n k h = let e : n - k ≡ suc (n - (k + 1)) = omega arith in ap (λ (m : ℕ). marks_by file head words m k) e

  pub by_done : (n k : ℕ) → n ≤ k → marks_by file head words (n - k) k ≡ []
  unfolding marks_by
  by_done n k h = let e : n - k ≡ 0 = omega arith in ap (λ (m : ℕ). marks_by file head words m k) e

-- ---- the loop over the records
module _ (file : List ℕ) (head : Head) (before : List ℕ) (n first : ℕ) where
  abbrev all : List (List ℕ)
  all = marks_by file head before n 0

  abbrev rest : ℕ → List (List ℕ)
  rest k = marks_by file head before (n - k) k

  -- what is left to store
  pub record Entering (now : List ℕ) (at k : ℕ) : Type 0 where
    pub within : k ≤ n
    pub above : first + n ≤ at
    pub few : at ≤ first + n + 2 ^ 22 * k
    pub places : at + length (joined (rest k)) ≡ first + n + length (joined all)
    pub same : sets (sets now at (joined (rest k))) (first + k) (entries_from (at - first) (rest k)) ≡ sets before first (beside_of all)
    pub size : length now ≡ length before
    pub records : (i : ℕ) → i < first → get_or now i 0 ≡ get_or before i 0

  pub entering_starts : Entering before (first + n) 0
  entering_starts = let z : n - 0 ≡ n = omega arith in let f : first + 0 ≡ first = omega arith in let long = by_length file head before n 0 in
      let b : first + n - first ≡ length all = omega (arith, long) in let entries = entries_from (length all) all in
      let many = entries_length (length all) all in let behind : first + n ≡ first + length entries = omega (arith, many, long) in record {
        within = omega arith;
        above = omega arith;
        few = omega arith;
        places = ap (λ (m : ℕ). first + n + length (joined (marks_by file head before m 0))) z;
        same =
            (λ i. sets (sets before (first + n) (joined (marks_by file head before (z i) 0))) (f i) (entries_from (b i) (marks_by file head before (z i) 0)))
            ∙ sets_before entries (joined all) before first (first + n) (omega (arith, behind))
            ∙ ap (λ (j : ℕ). sets (sets before first entries) j (joined all)) behind
            ∙ sym (sets_append entries (joined all) before first);
        size = refl;
        records = λ i h. refl;
      }

  module _ {now : List ℕ} {at k : ℕ} (g : Entering now at k) (more : k < n) (room : records_at + 7 * n ≤ first) where
    abbrev list : List ℕ
    list = marks_at_record file head before k

    abbrev later : List (List ℕ)
    later = rest (k + 1)

    abbrev word : ℕ
    word = entry_of (at - first) list

    list_now : marks_at_record file head now k ≡ list
    list_now = ap (marks_for file head) (g.records (records_at + 7 * k + 2) (omega arith))

    module _ {after : List ℕ} {next : ℕ} (p : PutOne now (first + k) at word list after next) (short : next ≤ at + 2 ^ 22) where
      all_stored : sets after next (joined later) ≡ set (sets now at (list ++ joined later)) (first + k) word
      all_stored =
          ap (λ (m : List ℕ). sets m next (joined later)) p.stored ∙ sym (set_before (joined later) (sets now at list) (first + k) next word (omega (arith, g.above, p.place_after)))
          ∙ ap (λ (m : List ℕ). set m (first + k) word) (ap (λ (j : ℕ). sets (sets now at list) j (joined later)) p.place_after ∙ sym (sets_append list (joined later) now at))

      was : sets (sets now at (list ++ joined later)) (first + k) (word ∷ entries_from (at - first + length list) later) ≡ sets before first (beside_of all)
      unfolding joined entries_from
      was = rw (by_next file head before n k more) at g.same

      place : at + length (list ++ joined later) ≡ first + n + length (joined all)
      unfolding joined
      place = rw (by_next file head before n k more) at g.places

      entered : Entering after next (k + 1)
      entered = let up : first + (k + 1) ≡ suc (first + k) = omega arith in
          let on : next - first ≡ at - first + length list = omega (arith, g.above, p.place_after) in record {
            within = omega arith;
            above = omega (arith, g.above, p.place_after);
            few = omega (arith, g.few, short);
            places = omega (arith, place, p.place_after, length-append list (joined later));
            same =
                ap (λ (m : List ℕ). sets m (first + (k + 1)) (entries_from (next - first) later)) all_stored
                ∙ (λ i. sets (set (sets now at (list ++ joined later)) (first + k) word) (up i) (entries_from (on i) later))
                ∙ was;
            size = ap length p.stored ∙ length-sets (sets now at list) (first + k) (word ∷ []) ∙ length-sets now at list ∙ g.size;
            records = λ i h.
                ap (λ (m : List ℕ). get_or m i 0) p.stored
                ∙ get_or-set_other (sets now at list) (first + k) i word 0 (λ e. omega (arith, e, h))
                ∙ read_below list now at i 0 (omega (arith, h, g.above))
                ∙ g.records i h;
          }

    pub entering_on : {after : List ℕ} {next : ℕ} → PutOne now (first + k) at (entry_of (at - first) (marks_at_record file head now k)) (marks_at_record file head now k) after next
        → next ≤ at + 2 ^ 22
        → Entering after next (k + 1)
    entering_on {after} {next} p short = entered (subst (λ (l : List ℕ). PutOne now (first + k) at (entry_of (at - first) l) l after next) list_now p) short

  pub entering_ends : {now : List ℕ} {at k : ℕ} → Entering now at k → n ≤ k → Stored before first (beside_of all) now at
  unfolding joined entries_from
  entering_ends {now} {at} {k} g h = let none = by_done file head before n k h in let was = rw none at g.same in
      let place = rw none at g.places in record {
        place_after = omega (arith, place, length-append (entries_from (length all) all) (joined all), entries_length (length all) all, by_length file head before n 0);
        stored = was;
      }

-- ---- the length before them
pub behind_stored : {before middle after beside : List ℕ} {used all end : ℕ} → Stored before (used + 1) beside middle all → Stored middle used (low all ∷ []) after end
    → Stored before used (behind_by beside used) after all
behind_stored {before} {middle} {after} {beside} {used} {all} s p = let up : used + 1 ≡ suc used = omega arith in record {
  place_after = omega (arith, s.place_after);
  stored =
      p.stored
      ∙ ap (λ (m : List ℕ). set m used (low all)) s.stored
      ∙ set_before beside before used (used + 1) (low all) (omega arith)
      ∙ (λ i. sets (set before used (low (s.place_after i))) (up i) beside);
}

pub behind_put : (file : List ℕ) (head : Head) (before : List ℕ) {middle after : List ℕ} {used all end n word : ℕ} → n ≡ word_at before 2
    → Stored before (used + 1) (beside_of (marks_by file head before n 0)) middle all → word ≡ low all → Stored middle used (word ∷ []) after end
    → Stored before used (behind_of file head before used) after all
behind_put file head before {middle} {after} {used} {all} e s w p =
    behind_stored (subst (λ (n : ℕ). Stored before (used + 1) (beside_of (marks_by file head before n 0)) middle all) e s) (same_word w p)

-- ---- the reply
unfoldable why_of : Refusal → Reply ℕ → Refusal
why_of w (given used) = w
why_of w (refused why) = why

module _ (file : List ℕ) (n : ℕ) where
  pub not_made : {why : Refusal} {ws : List ℕ} → refused why ≡ atlas_in file n → ws ≡ zeros n → indexed (refused why) ws ≡ atlas_made file n
  unfolding atlas_made indexed_by
  not_made {why} e z = (λ i. indexed (refused why) (z i)) ∙ ap (indexed_by n) e

  pub made : {whole ws : List ℕ} {used : ℕ} → given whole ≡ atlas_in file n → used ≡ length whole → ws ≡ padded n whole → indexed (given used) ws ≡ atlas_made file n
  unfolding atlas_made indexed_by
  made e u z = (λ i. indexed (given (u i)) (z i)) ∙ ap (indexed_by n) e

  pub unopened : {why : Refusal} → refused why ≡ head_of file → refused why ≡ atlas_in file n
  unfolding built_in
  unopened e = carried e _

  -- a room that has none for fewer words has none for more
  more_words : (few many : ℕ) → few ≤ many → has_room n few ≡ false → has_room n many ≡ false
  more_words few many h e = go (has_room n many) refl where
    go : (b : Bool) → has_room n many ≡ b → b ≡ false
    go false m = refl
    go true m = let t = both (leb many n) (ltb many (2 ^ 32)) m in
        let small = so_both (leb few n) (ltb few (2 ^ 32)) (le-leb few n (omega (arith, h, leb-true many n t.0))) (lt-ltb few (2 ^ 32) (omega (arith, h, ltb-true many (2 ^ 32) t.1))) in
        sym small ∙ e

  module _ {head : Head} (opened : given head ≡ head_of file) where
    longer : (rows : List Row) → length (index_of file head rows) ≤ length (atlas_of file head rows)
    unfolding atlas_of
    longer rows = omega (arith, length-append (index_of file head rows) (behind_by (beside_of (marks_in file head rows)) (length (index_of file head rows))))

    abbrev index_from : Reply (List Row) → Reply (List ℕ)
    index_from table = table >>= λ rows. demand (has_room n (length (index_of file head rows))) (plain 35) >> given (index_of file head rows)

    abbrev atlas_from : Reply (List Row) → Reply (List ℕ)
    atlas_from table = table >>= λ rows. demand (has_room n (length (atlas_of file head rows))) (plain 35) >> given (atlas_of file head rows)

    no_atlas : {why : Refusal} (table : Reply (List Row)) → refused why ≡ index_from table → refused why ≡ atlas_from table
    no_atlas (refused w) e = e
    no_atlas {why} (given rows) e = choose (has_room n (length (index_of file head rows))) refl e where
      choose : (b : Bool) → has_room n (length (index_of file head rows)) ≡ b → refused why ≡ (demand b (plain 35) >> given (index_of file head rows))
          → refused why ≡ (demand (has_room n (length (atlas_of file head rows))) (plain 35) >> given (atlas_of file head rows))
      choose true r e = let z : ◌≡◌ {A = ℕ} 0 1 = cc in absurd (omega arith)
      choose false r e = e ∙ unmet (more_words (length (index_of file head rows)) (length (atlas_of file head rows)) (longer rows) r) (plain 35) _

    -- where there is no index there is no atlas
    pub no_index : {why : Refusal} → refused why ≡ index_in file n → refused why ≡ atlas_in file n
    unfolding built_in built_with
    no_index {why} e = by_precision (is_precision head.preamble.precision) refl (e ∙ sym (onward opened (λ (h : Head). index_with file h n))) ∙ onward opened (λ (h : Head). atlas_with file h n)
      where
        by_precision : (b : Bool) → is_precision head.preamble.precision ≡ b → refused why ≡ (demand b (plain 16) >> index_from (table_of file head))
            → refused why ≡ (demand (is_precision head.preamble.precision) (plain 16) >> atlas_from (table_of file head))
        by_precision true p e = no_atlas (table_of file head) e ∙ met p (plain 16) _
        by_precision false p e = e ∙ unmet p (plain 16) _

    -- what the index was refused with, the atlas is
    pub refused_made : {why : Refusal} {ws : List ℕ} → indexed (refused why) ws ≡ indexed_of file n → indexed (refused why) ws ≡ atlas_made file n
    unfolding indexed_of indexed_by why_of
    refused_made {why} {ws} e = go (index_in file n) refl e where
      go : (reply : Reply (List ℕ)) → reply ≡ index_in file n → indexed (refused why) ws ≡ indexed_by n reply → indexed (refused why) ws ≡ atlas_made file n
      go (given words) w e = impossible (ap (λ (i : Indexed). i.reply) e) where
        impossible : {A : Type 0} → refused why ≡ given (length words) → A
        impossible e = let z : ◌≡◌ {A = ℕ} 0 1 = cc in absurd (omega arith)
      go (refused w) same e = not_made (no_index (ap (λ (r : Refusal). refused r) (ap (λ (i : Indexed). why_of w i.reply) e) ∙ same)) (ap (λ (i : Indexed). i.words) e)

    pub refused_told : {why : Refusal} {ws : List ℕ} {r : Reply ℕ} → indexed r ws ≡ indexed_of file n → r ≡ refused why → indexed (refused why) ws ≡ atlas_made file n
    refused_told {why} {ws} e u = refused_made (ap (λ (b : Reply ℕ). indexed b ws) (sym u) ∙ e)

    module _ (precise : is_precision head.preamble.precision ≡ true) {rows : List Row} (listed : given rows ≡ table_of file head) where
      pub with_room : has_room n (length (atlas_of file head rows)) ≡ true → given (atlas_of file head rows) ≡ atlas_in file n
      unfolding built_in built_with
      with_room h = W.with_room atlas_of file head n precise listed h ∙ onward opened (λ (h : Head). atlas_with file h n)

      pub without_room : has_room n (length (atlas_of file head rows)) ≡ false → refused (plain 35) ≡ atlas_in file n
      unfolding built_in built_with
      without_room h = W.without atlas_of file head n precise listed h ∙ onward opened (λ (h : Head). atlas_with file h n)

-- ---- an index that was given, with zeros behind it
pub record IndexMade (file : List ℕ) (n : ℕ) (used : ℕ) (ws : List ℕ) (head : Head) : Type 0 where
  pub precise : is_precision head.preamble.precision ≡ true
  pub rows : List Row
  pub listed : given rows ≡ table_of file head
  pub said : used ≡ length (index_of file head rows)
  pub fits : used ≤ n
  pub small : used < 2 ^ 32
  pub whole : ws ≡ padded n (index_of file head rows)

pub index_made : (file : List ℕ) (n : ℕ) {used : ℕ} {ws : List ℕ} {head : Head} → given head ≡ head_of file → indexed (given used) ws ≡ indexed_of file n → IndexMade file n used ws head
unfolding indexed_of indexed_by built_in built_with
index_made file n {used} {ws} {head} opened e = go (index_in file n) refl e where
  go : (reply : Reply (List ℕ)) → reply ≡ index_in file n → indexed (given used) ws ≡ indexed_by n reply → IndexMade file n used ws head
  go (given words) w e = let here : given words ≡ index_with file head n = w ∙ sym (onward opened (λ (h : Head). index_with file h n)) in
      let p = demanded (is_precision head.preamble.precision) (plain 16) here in let t = given_from (table_of file head) _ p.1 in
      let r = demanded (has_room n (length (index_of file head t.it))) (plain 35) t.onto in let is : words ≡ index_of file head t.it = given_one r.1 in
      let room = both (leb (length (index_of file head t.it)) n) (ltb (length (index_of file head t.it)) (2 ^ 32)) r.0 in
      let used_is : used ≡ length (index_of file head t.it) = given_one (ap (λ (i : Indexed). i.reply) e) ∙ ap length is in record {
        precise = p.0;
        rows = t.it;
        listed = t.is;
        said = used_is;
        fits = omega (arith, used_is, leb-true (length (index_of file head t.it)) n room.0);
        small = omega (arith, used_is, ltb-true (length (index_of file head t.it)) (2 ^ 32) room.1);
        whole = ap (λ (i : Indexed). i.words) e ∙ ap (padded n) is;
      }
  go (refused why) w e = impossible (ap (λ (i : Indexed). i.reply) e) where
    impossible : {A : Type 0} → given used ≡ refused why → A
    impossible e = let z : ◌≡◌ {A = ℕ} 0 1 = cc in absurd (omega arith)

pub index_told : (file : List ℕ) (n : ℕ) {used : ℕ} {ws : List ℕ} {head : Head} {r : Reply ℕ} → given head ≡ head_of file → indexed r ws ≡ indexed_of file n
    → r ≡ given used → IndexMade file n used ws head
index_told file n {used} {ws} opened e u = index_made file n opened (ap (λ (b : Reply ℕ). indexed b ws) (sym u) ∙ e)

-- words over the zeros behind others
pub over_zeros : (n : ℕ) (xs ys : List ℕ) → length xs + length ys ≤ n → sets (padded n xs) (length xs) ys ≡ padded n (xs ++ ys)
over_zeros n xs ys h = let z = zeros (n - length xs) in
    let long : length (xs ++ z) ≡ n = omega (arith, h, length-append xs z, length-replicate {A = ℕ} (n - length xs) 0) in
    let left : n - length xs - length ys ≡ n - length (xs ++ ys) = omega (arith, length-append xs ys) in
    sets-eq ys (xs ++ z) (length xs) (omega (arith, long, h)) ∙ (λ i. (take-append_seam xs z i ++ ys) ++ (drop-append-add xs z (length ys) ∙ zeros_drop (length ys) (n - length xs) ∙ ap zeros left) i)

module _ (file : List ℕ) (n : ℕ) {used : ℕ} {ws : List ℕ} {head : Head} (opened : given head ≡ head_of file) (m : IndexMade file n used ws head) where
  abbrev index : List ℕ
  index = index_of file head m.rows

  abbrev beside : List ℕ
  beside = beside_of (marks_in file head m.rows)

  pub long_enough : (records_at + 7 * word_at ws 2 ≤ used) × (used ≤ length ws) × (used < 2 ^ 32)
  long_enough = let z = zeros (n - length index) in
      let third : word_at ws 2 ≡ length m.rows = ap (λ (w : List ℕ). get_or w 2 0) m.whole ∙ rows_there file head m.rows z in
      let long : length ws ≡ length index + length z = ap length m.whole ∙ length-append index z in
      (omega (arith, third, index_long file head m.rows z, m.said), omega (arith, long, m.said), m.small)

  -- what is put behind it
  is_behind : behind_of file head ws used ≡ behind_by beside (length index)
  is_behind = let z = zeros (n - length index) in
      let by : marks_by file head ws (word_at ws 2) 0 ≡ marks_in file head m.rows = ap (λ (w : List ℕ). marks_by file head w (word_at w 2) 0) m.whole ∙ marks_by_words file head m.rows z in
      (λ i. behind_by (beside_of (by i)) (m.said i))

  whole_is : index ++ behind_by beside (length index) ≡ atlas_of file head m.rows
  unfolding atlas_of
  whole_is = refl

  module _ {after : List ℕ} {all : ℕ} (s : Stored ws used (behind_of file head ws used) after all) where
    pub all_is : all ≡ length (atlas_of file head m.rows)
    all_is = s.place_after ∙ omega (arith, ap length is_behind, m.said, length-append index (behind_by beside (length index)), ap length whole_is)

    pub has_made : all ≤ n → all < 2 ^ 32 → indexed (given all) after ≡ atlas_made file n
    has_made h k =
        let long = all_is in
        let room = so_both (leb (length (atlas_of file head m.rows)) n) (ltb (length (atlas_of file head m.rows)) (2 ^ 32))
        (le-leb (length (atlas_of file head m.rows)) n (omega (arith, h, long))) (lt-ltb (length (atlas_of file head m.rows)) (2 ^ 32) (omega (arith, k, long))) in
        let fits : length index + length (behind_by beside (length index)) ≤ n = omega (arith, h, long, length-append index (behind_by beside (length index)), ap length whole_is) in
        made file n (with_room file n opened m.precise m.listed room) long
        (s.stored ∙ (λ i. sets (m.whole i) (m.said i) (is_behind i)) ∙ over_zeros n index (behind_by beside (length index)) fits ∙ ap (padded n) whole_is)

    no_room : has_room n (length (atlas_of file head m.rows)) ≡ false → {zs : List ℕ} → zs ≡ zeros n → indexed (refused (plain 35)) zs ≡ atlas_made file n
    no_room h z = not_made file n (without_room file n opened m.precise m.listed h) z

    pub too_long : n < all → {zs : List ℕ} → zs ≡ zeros n → indexed (refused (plain 35)) zs ≡ atlas_made file n
    too_long h z = no_room (sym (and_first (leb (length (atlas_of file head m.rows)) n) _ (lt-leb (length (atlas_of file head m.rows)) n (omega (arith, h, all_is))))) z

    pub too_large : 2 ^ 32 ≤ all → {zs : List ℕ} → zs ≡ zeros n → indexed (refused (plain 35)) zs ≡ atlas_made file n
    too_large h z = no_room (sym (and_not (leb (length (atlas_of file head m.rows)) n) _ (le-ltb (length (atlas_of file head m.rows)) (2 ^ 32) (omega (arith, h, all_is))))) z
