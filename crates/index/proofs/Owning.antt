-- Words held against an index, part by part: `is_index` is what its definition says. Assumes nothing.
use Rattle.numbers.proofs.Prelude.{ℕ, zero, suc, ◌+◌, ◌-◌, ◌*◌, ◌^◌, ◌≤◌, ◌<◌, lt-ltb, le-leb, le-ltb, leb-true, ltb-true, lt-leb, eqb-true, eqb, ltb, leb, length, take, length-append}
use Rattle.numbers.proofs.Prelude.{length-replicate, Bool, true, false, ◌&&◌, List, [], ◌∷◌, ◌++◌, ◌≡◌, refl, sym, ap, subst, ◌∙◌, add-zero, arith}
use Rattle.numbers.{proofs.{Refusals.{Listed}, Replies.{given_from, carried, onward, met, unmet, demanded, number_of_lem, given_one, demand_met}, Tests.{differ, both}}, specs.Answer.{if◌then◌else◌}}
use Rattle.numbers.specs.{Lists.{zeros, padded}, Reply.{Reply, given, refused, plain, demand, ◌>>=◌, ◌>>◌}, declared.refusal.Refusal.{Refusal}}
use Rattle.table.specs.{Find.{is_precision}, declared.rows.Row.{Row}}
use Rattle.header.{proofs.Numbered.{header_numbers, head_numbered}, specs.{Header.{head_of}, declared.header.Head.{Head}}}
use Rattle.index.proofs.{Comparing.{stands_place}, Keeping.{packed_length}, SameIndex.{Settled, settled}}
use Rattle.index.proofs.{Standing.{so_both, at_append, at_read, at_inside, at_rest, at_here, same_words, same_self}, Tabling.{records_length}}
use Rattle.index.proofs.Whole.{Holds, lists_of_rows, starts_length, lists_length, bad_precision, bad_table, index_length, with_room, without, fits_room}
use Rattle.index.specs.Index.{four_at, packed_from, words_for, kept_of, records_of, lists_from, joined, starts_from, tiles, records_at, lists_at, index_of, has_room, index_with, indexed_by, built_in}
use Rattle.index.specs.{Index.{indexed_of}, Own.{is_same, held_against, is_index_of}, Table.{bottom, table_of}, Tied.{word_at, keeps_from}, inner.Building.{lists_in}}
use Rattle.index.specs.inner.Own.{is_word, is_at, stands_from, lists_stand, is_empty_from, compared_of, rest_of, own_with}
use Rattle.index.proofs.SameIndex as Si

-- ---- given, or refused by 36
pub data Only {A : Type 0} : Reply A → Type 0 where
  gives : {a : A} → Only (given a)
  other : Only (refused (plain 36))

only_demand : {A : Type 0} (test : Bool) {reply : Reply A} → Only reply → Only (demand test (plain 36) >> reply)
only_demand true o = o
only_demand false o = other

only_then : {A B : Type 0} {reply : Reply A} {next : A → Reply B} → Only reply → ((a : A) → Only (next a)) → Only (reply >>= next)
only_then (gives {a}) h = h a
only_then other h = other

alike : {a b : Reply (Unit {0})} → Only a → Only b → (given tt ≡ a → given tt ≡ b) → (given tt ≡ b → given tt ≡ a) → a ≡ b
alike gives b to from = to refl
alike other gives to from = sym (from refl)
alike other other to from = refl

-- ---- lists
module _ (words : List ℕ) where
  lists_only : (t at : ℕ) (lists : List (List ℕ)) → Only (lists_stand words t at lists)
  unfolding lists_stand
  lists_only t at [] = only_demand (is_word words t at) gives
  lists_only t at (list ∷ lists) = only_demand (is_word words t at) (only_then (only_demand (is_at words at list) gives) (λ next. lists_only (t + 1) next lists))

  lists_given : (t at : ℕ) (lists : List (List ℕ)) {used : ℕ} → given used ≡ lists_stand words t at lists
      → (is_at words t (starts_from at lists) ≡ true) × ((is_at words at (joined lists) ≡ true) × (used ≡ at + length (joined lists)))
  unfolding lists_stand starts_from joined is_at
  lists_given t at [] {used} e = let d = demanded (is_word words t at) (plain 36) e in let is : used ≡ at = given_one d.1 in
      (so_both _ _ d.0 refl, (refl, is ∙ sym (add-zero at)))
  lists_given t at (list ∷ lists) {used} e = let d = demanded (is_word words t at) (plain 36) e in
      let f = given_from (stands_from words at list) (λ next. lists_stand words (t + 1) next lists) d.1 in let p = stands_place words at list f.is in
      let r = lists_given (t + 1) f.it lists f.onto in (
        so_both _ _ d.0 (ap (λ (k : ℕ). is_at words (t + 1) (starts_from k lists)) (sym p.1) ∙ r.0),
        (
          at_append words at list (joined lists) ∙ so_both _ _ p.0 (ap (λ (k : ℕ). is_at words k (joined lists)) (sym p.1) ∙ r.1.0),
          omega (arith, r.1.1, p.1, length-append list (joined lists)),
        ),
      )

  lists_standing : (t at : ℕ) (lists : List (List ℕ)) → is_at words t (starts_from at lists) ≡ true → is_at words at (joined lists) ≡ true
      → given (at + length (joined lists)) ≡ lists_stand words t at lists
  unfolding lists_stand starts_from joined is_at
  lists_standing t at [] s j = ap given (add-zero at) ∙ met (both (is_word words t at) true s).0 (plain 36) (given at)
  lists_standing t at (list ∷ lists) s j = let w = both (is_word words t at) _ s in
      let l = both (is_at words at list) (is_at words (at + length list) (joined lists)) (sym (at_append words at list (joined lists)) ∙ j) in
      let sum : at + length (list ++ joined lists) ≡ at + length list + length (joined lists) = omega (arith, length-append list (joined lists)) in
      let stands : given (at + length list) ≡ stands_from words at list = met l.0 (plain 36) (given (at + length list)) in
      ap given sum ∙ lists_standing (t + 1) (at + length list) lists w.1 l.1 ∙ onward stands (λ next. lists_stand words (t + 1) next lists) ∙ met w.0
      (plain 36) (stands_from words at list >>= λ next. lists_stand words (t + 1) next lists)

  -- kept bytes that are kept
  pub keeps_at : (at : ℕ) (bytes : List ℕ) (more i : ℕ) → at + more ≤ length words → keeps_from words at bytes more i ≡ is_at words at (packed_from bytes more i)
  unfolding keeps_from packed_from is_at
  keeps_at at bytes zero i h = refl
  keeps_at at bytes (suc more) i h = rw (lt-ltb at (length words) (omega arith)) (go (eqb (word_at words at) (four_at bytes i)) (keeps_at (at + 1) bytes more (i + 4) (omega arith))) where
    go : (t : Bool) {a b : Bool} → a ≡ b → (if t then a else false) ≡ (t && b)
    go true e = e
    go false e = refl

  -- five parts, each behind the one before
  laid_at : (a b c d e : List ℕ) (i j k l : ℕ) → i ≡ 0 + length a → j ≡ i + length b → k ≡ j + length c → l ≡ k + length d
      → is_at words 0 (a ++ (b ++ (c ++ (d ++ e)))) ≡ (is_at words 0 a && (is_at words i b && (is_at words j c && (is_at words k d && is_at words l e))))
  laid_at a b c d e i j k l ei ej ek el =
      at_append words 0 a (b ++ (c ++ (d ++ e))) ∙ ap (λ (x : Bool). is_at words 0 a && x) (ap (λ (p : ℕ). is_at words p (b ++ (c ++ (d ++ e)))) (sym ei)
      ∙ at_append words i b (c ++ (d ++ e)) ∙ ap (λ (x : Bool). is_at words i b && x) (ap (λ (p : ℕ). is_at words p (c ++ (d ++ e))) (sym ej) ∙ at_append words j
      c (d ++ e) ∙ ap (λ (x : Bool). is_at words j c && x) (ap (λ (p : ℕ). is_at words p (d ++ e)) (sym ek) ∙ at_append words k d e ∙ ap (λ (p : ℕ). is_at words k d && is_at words p e) (sym el))))

-- ---- in a file with this header
module _ (file : List ℕ) (head : Head) (words : List ℕ) where
  abbrev n : ℕ
  n = length words

  abbrev precision : ℕ
  precision = head.preamble.precision

  abbrev size : ℕ
  size = head.sections.metadata

  -- words held against what building makes of this
  abbrev held : Reply (List ℕ) → Reply (Unit {0})
  held built = held_against words (indexed_by n built).reply (indexed_by n built).words

  -- the rest, for these rows
  pub rest_only : (rows : List Row) → Only {A = Unit {0}} (rest_of file size precision words (length rows) >>= λ k. given tt)
  unfolding rest_of
  rest_only rows =
      only_then (only_demand (leb (lists_at (length rows) size) n) (only_demand (is_at words 0 (length file ∷ size ∷ length rows ∷ []))
      (only_demand (is_at words (records_at + 7 * length rows) (kept_of file size)) (only_then (lists_only words 3 (lists_at (length rows) size)
      (lists_in words precision (length rows) tiles 0)) (λ k. only_demand (ltb k (2 ^ 32)) (only_demand (is_empty_from words k) gives)))))) (λ k. gives)

  module _ (fine : is_precision precision ≡ true) {rows : List Row} (t : given rows ≡ table_of file head) where
    abbrev whole : List ℕ
    whole = index_of file head rows

    abbrev tile_lists : List (List ℕ)
    tile_lists = lists_from precision rows tiles 0

    abbrev begin : ℕ
    begin = lists_at (length rows) size

    abbrev front : List ℕ
    front = length file ∷ size ∷ length rows ∷ []

    abbrev used : ℕ
    used = begin + length (joined tile_lists)

    abbrev records_there : Bool
    records_there = is_at words records_at (records_of rows)

    abbrev rest_there : Reply (Unit {0})
    rest_there = rest_of file size precision words (length rows) >>= λ k. given tt

    used_is : length whole ≡ used
    used_is = index_length file head n fine t

    parts : is_at words 0 whole ≡ (is_at words 0 front && (is_at words 3 (starts_from begin tile_lists) && (records_there && (is_at words (records_at + 7 * length rows)
        (kept_of file size) && is_at words begin (joined tile_lists)))))
    unfolding index_of
    parts =
        laid_at words front (starts_from begin tile_lists) (records_of rows) (kept_of file size) (joined tile_lists) 3 records_at (records_at + 7 * length rows) begin refl
        (omega (arith, starts_length begin tile_lists, lists_length precision rows tiles 0)) (omega (arith, records_length rows)) (omega (arith, packed_length (take size file) (words_for size) 0))

    -- the lists by the records in the words, where these are the rows'
    same_lists : records_there ≡ true → lists_in words precision (length rows) tiles 0 ≡ tile_lists
    same_lists r = lists_of_rows words precision rows tiles 0 there where
      there : Holds words rows 0
      there i h = at_read words (records_of rows) records_at i r (omega (arith, records_length rows))

    held_only : Only (held (index_with file head n))
    unfolding held_against indexed_by
    held_only = by_room (has_room n (length whole)) refl where
      by_room : (h : Bool) → has_room n (length whole) ≡ h → Only (held (index_with file head n))
      by_room true h = subst (λ (x : Reply (List ℕ)). Only (held x)) (with_room index_of file head n fine t h) (demand_only (is_same words (padded n whole))) where
        demand_only : (test : Bool) → Only (demand test (plain 36))
        demand_only true = gives
        demand_only false = other
      by_room false h = subst (λ (x : Reply (List ℕ)). Only (held x)) (without index_of file head n fine t h) other

    -- where the words hold, they are what building leaves
    held_so : given tt ≡ held (index_with file head n) → (has_room n (length whole) ≡ true) × (words ≡ padded n whole)
    unfolding held_against indexed_by
    held_so e = by_room (has_room n (length whole)) refl where
      by_room : (h : Bool) → has_room n (length whole) ≡ h → (has_room n (length whole) ≡ true) × (words ≡ padded n whole)
      by_room true h = let d : given tt ≡ demand (is_same words (padded n whole)) (plain 36) = e ∙ ap held (sym (with_room index_of file head n fine t h)) in
          (h, same_words words (padded n whole) (demand_met (is_same words (padded n whole)) (plain 36) (sym d)))
      by_room false h = let d : given tt ≡ refused (plain 36) = e ∙ ap held (sym (without index_of file head n fine t h)) in let z : ◌≡◌ {A = ℕ} 0 1 = cc in
          absurd (omega arith)

    so_held : length whole ≤ n → length whole < 2 ^ 32 → words ≡ padded n whole → given tt ≡ held (index_with file head n)
    unfolding held_against indexed_by
    so_held fits small e = let same : is_same words (padded n whole) ≡ true = ap (is_same words) (sym e) ∙ same_self words in
        ap (λ (b : Bool). demand b (plain 36)) (sym same) ∙ ap held (fits_room index_of file head n fine t fits small)

    -- all parts of words that building left
    all_there : words ≡ padded n whole → is_at words 0 (whole ++ zeros (n - length whole)) ≡ true
    all_there e = subst (λ (w : List ℕ). is_at w 0 (padded n whole) ≡ true) (sym e) (at_here (padded n whole) [])

    seam : (k : ℕ) → is_at words 0 (whole ++ zeros k) ≡ (is_at words 0 whole && is_at words (length whole) (zeros k))
    seam k = let z : 0 + length whole ≡ length whole = omega arith in at_append words 0 whole (zeros k) ∙ ap (λ (p : ℕ). is_at words 0 whole && is_at words p (zeros k)) z

    whole_there : words ≡ padded n whole → (is_at words 0 whole ≡ true) × (is_at words (length whole) (zeros (n - length whole)) ≡ true)
    whole_there e = both (is_at words 0 whole) (is_at words (length whole) (zeros (n - length whole))) (sym (seam (n - length whole)) ∙ all_there e)

    to_held : records_there ≡ true → given tt ≡ rest_there → given tt ≡ held (index_with file head n)
    unfolding rest_of
    to_held r e = let lists = same_lists r in let b = given_from (rest_of file size precision words (length rows)) (λ k. given tt) e in
        let d1 = demanded (leb begin n) (plain 36) b.is in let d2 = demanded (is_at words 0 front) (plain 36) d1.1 in
        let d3 = demanded (is_at words (records_at + 7 * length rows) (kept_of file size)) (plain 36) d2.1 in
        let l = given_from (lists_stand words 3 begin (lists_in words precision (length rows) tiles 0)) (λ k. demand (ltb k (2 ^ 32)) (plain 36) >>
        (demand (is_empty_from words k) (plain 36) >> given k)) d3.1 in
        let g = lists_given words 3 begin tile_lists (l.is ∙ ap (lists_stand words 3 begin) lists) in
        let d4 = demanded (ltb l.it (2 ^ 32)) (plain 36) l.onto in let d5 = demanded (is_empty_from words l.it) (plain 36) d4.1 in
        let u : l.it ≡ length whole = g.1.1 ∙ sym used_is in
        let all : is_at words 0 whole ≡ true = parts ∙ so_both _ _ d2.0 (so_both _ _ g.0 (so_both _ _ r (so_both _ _ d3.0 g.1.0))) in
        let inside = at_inside words whole 0 all (omega arith) in let fits : length whole ≤ n = omega (arith, inside) in
        let small : length whole < 2 ^ 32 = omega (arith, ltb-true l.it (2 ^ 32) d4.0, u) in
        let rest : is_at words (length whole) (zeros (n - length whole)) ≡ true = ap (is_empty_from words) (sym u) ∙ d5.0 in
        let ends : n ≡ 0 + length (padded n whole) = omega (arith, length-append whole (zeros (n - length whole)), length-replicate {A = ℕ} (n - length whole) 0, fits) in
        so_held fits small (at_rest words (padded n whole) 0 (seam (n - length whole) ∙ so_both _ _ all rest) ends)

    from_held : given tt ≡ held (index_with file head n) → (records_there ≡ true) × (given tt ≡ rest_there)
    unfolding rest_of
    from_held e = let h = held_so e in let room = both (leb (length whole) n) (ltb (length whole) (2 ^ 32)) h.0 in let there = whole_there h.1 in
        let p1 = both (is_at words 0 front) _ (sym parts ∙ there.0) in let p2 = both (is_at words 3 (starts_from begin tile_lists)) _ p1.1 in
        let p3 = both records_there _ p2.1 in
        let p4 = both (is_at words (records_at + 7 * length rows) (kept_of file size)) (is_at words begin (joined tile_lists)) p3.1 in
        let fits : begin ≤ n = omega (arith, leb-true (length whole) n room.0, used_is) in
        let small : ltb used (2 ^ 32) ≡ true = ap (λ (k : ℕ). ltb k (2 ^ 32)) (sym used_is) ∙ room.1 in
        let rest : is_empty_from words used ≡ true = ap (is_empty_from words) (sym used_is) ∙ there.1 in
        let stand : given used ≡ lists_stand words 3 begin (lists_in words precision (length rows) tiles 0) = lists_standing words 3 begin tile_lists p2.0 p4.1
        ∙ ap (lists_stand words 3 begin) (sym (same_lists p3.0)) in (
          p3.0,
          onward
              (met rest (plain 36) (given used)
              ∙ met small (plain 36) (demand (is_empty_from words used) (plain 36) >> given used)
              ∙ onward stand (λ k. demand (ltb k (2 ^ 32)) (plain 36) >> (demand (is_empty_from words k) (plain 36) >> given k))
              ∙ met p4.0 (plain 36) _
              ∙ met p1.0 (plain 36) _
              ∙ met (le-leb begin n fits) (plain 36) _)
              (λ k. given tt),
        )

    opened : ((demand records_there (plain 36) >> given rows) >>= λ rows. (rest_of file size precision words (length rows) >>= λ k. given tt)) ≡ own_with file head words
    unfolding own_with compared_of
    opened = let next : List Row → Reply (Unit {0}) = λ rows. rest_of file size precision words (length rows) >>= λ k. given tt in
        ap (λ (x : Reply (List Row)). x >>= next) (onward t (λ (rows : List Row). demand (is_at words records_at (records_of rows)) (plain 36) >> given rows)) ∙ met fine (plain 16) _

    by_records : (r : Bool) → records_there ≡ r → ((demand r (plain 36) >> given rows) >>= λ rows. (rest_of file size precision words (length rows) >>= λ k. given tt)) ≡ held (index_with file head n)
    by_records true r = alike (rest_only rows) held_only (to_held r) (λ e. (from_held e).1)
    by_records false r = alike other held_only (λ e. let z : ◌≡◌ {A = ℕ} 0 1 = cc in absurd (omega arith)) (λ e. differ (sym r ∙ (from_held e).0))

    rows_own : own_with file head words ≡ held (index_with file head n)
    rows_own = sym opened ∙ by_records records_there refl

  by_table : is_precision precision ≡ true → (table : Reply (List Row)) → Settled table → table ≡ table_of file head → own_with file head words ≡ held (index_with file head n)
  unfolding own_with compared_of held_against indexed_by
  by_table fine (given rows) s t = rows_own fine t
  by_table fine (refused why) Si.bad t = sym (carried (carried t _) _ ∙ met fine (plain 16) _) ∙ ap held (bad_table index_of file head n fine t)

  by_precision : (p : Bool) → is_precision precision ≡ p → own_with file head words ≡ held (index_with file head n)
  unfolding own_with held_against indexed_by table_of
  by_precision true p = by_table p (table_of file head) (settled size bottom _) refl
  by_precision false p = sym (unmet p (plain 16) _) ∙ ap held (bad_precision index_of file head n p)

  pub own_opened : given head ≡ head_of file → own_with file head words ≡ is_index_of file words
  unfolding is_index_of indexed_of built_in
  own_opened e = by_precision (is_precision precision) refl ∙ ap held (onward e (λ (h : Head). index_with file h n))

-- a file that is refused
pub own_unopened : (file words : List ℕ) {why : Refusal} → refused why ≡ head_of file → refused why ≡ is_index_of file words
unfolding is_index_of indexed_of built_in held_against indexed_by
own_unopened file words {why} e =
    ap refused (chosen (eqb why.number 35) refl)
    ∙ ap (λ (x : Reply (List ℕ)). held_against words (indexed_by (length words) x).reply (indexed_by (length words) x).words) (carried e (λ head. index_with file head (length words))) where
      chosen : (t : Bool) → eqb why.number 35 ≡ t → why ≡ (if t then plain 36 else why)
      chosen true is = differ (subst (Listed header_numbers) (eqb-true why.number 35 is) (number_of_lem (head_numbered (λ n h. h) false differ file) (sym e)))
      chosen false is = refl

-- ---- the tests that led to each answer: all but the records
module _ (file : List ℕ) (size precision : ℕ) (words : List ℕ) (n : ℕ) where
  abbrev remaining : Reply ℕ
  remaining = rest_of file size precision words n

  pub rest_short : length words < lists_at n size → refused (plain 36) ≡ remaining
  unfolding rest_of
  rest_short h = unmet (lt-leb (lists_at n size) (length words) h) (plain 36) _

  module _ (room : lists_at n size ≤ length words) where
    pub rest_head : is_at words 0 (length file ∷ size ∷ n ∷ []) ≡ false → refused (plain 36) ≡ remaining
    unfolding rest_of
    rest_head h = unmet h (plain 36) _ ∙ met (le-leb (lists_at n size) (length words) room) (plain 36) _

    module _ (h : is_at words 0 (length file ∷ size ∷ n ∷ []) ≡ true) where
      pub rest_kept : is_at words (records_at + 7 * n) (kept_of file size) ≡ false → refused (plain 36) ≡ remaining
      unfolding rest_of
      rest_kept k = unmet k (plain 36) _ ∙ met h (plain 36) _ ∙ met (le-leb (lists_at n size) (length words) room) (plain 36) _

      module _ (k : is_at words (records_at + 7 * n) (kept_of file size) ≡ true) where
        pub rest_lists : {why : Refusal} → refused why ≡ lists_stand words 3 (lists_at n size) (lists_in words precision n tiles 0) → refused why ≡ remaining
        unfolding rest_of
        rest_lists l = carried l _ ∙ met k (plain 36) _ ∙ met h (plain 36) _ ∙ met (le-leb (lists_at n size) (length words) room) (plain 36) _

        module _ {used : ℕ} (l : given used ≡ lists_stand words 3 (lists_at n size) (lists_in words precision n tiles 0)) where
          behind : (demand (ltb used (2 ^ 32)) (plain 36) >> (demand (is_empty_from words used) (plain 36) >> given used)) ≡ remaining
          unfolding rest_of
          behind =
              onward l (λ (u : ℕ). demand (ltb u (2 ^ 32)) (plain 36) >> (demand (is_empty_from words u) (plain 36) >> given u)) ∙ met k (plain 36) _
              ∙ met h (plain 36) _ ∙ met (le-leb (lists_at n size) (length words) room) (plain 36) _

          pub rest_large : 2 ^ 32 ≤ used → refused (plain 36) ≡ remaining
          rest_large big = unmet (le-ltb used (2 ^ 32) big) (plain 36) _ ∙ behind

          pub rest_behind : used < 2 ^ 32 → is_empty_from words used ≡ false → refused (plain 36) ≡ remaining
          rest_behind small e = unmet e (plain 36) _ ∙ met (lt-ltb used (2 ^ 32) small) (plain 36) _ ∙ behind

          pub rest_ends : used < 2 ^ 32 → is_empty_from words used ≡ true → given used ≡ remaining
          rest_ends small e = met e (plain 36) _ ∙ met (lt-ltb used (2 ^ 32) small) (plain 36) _ ∙ behind

-- ---- and all of it
module _ (file : List ℕ) (head : Head) (words : List ℕ) where
  pub own_imprecise : is_precision head.preamble.precision ≡ false → refused (plain 16) ≡ own_with file head words
  unfolding own_with
  own_imprecise p = unmet p (plain 16) _

  module _ (p : is_precision head.preamble.precision ≡ true) where
    pub own_refused : {why : Refusal} → refused why ≡ compared_of file head words → refused why ≡ own_with file head words
    unfolding own_with
    own_refused e = carried e _ ∙ met p (plain 16) _

    module _ {rows : List Row} {k : ℕ} (e : given rows ≡ compared_of file head words) (counted : k ≡ length rows) where
      left : (rest_of file head.sections.metadata head.preamble.precision words k >>= λ used. given tt) ≡ own_with file head words
      unfolding own_with
      left =
          ap (λ (m : ℕ). rest_of file head.sections.metadata head.preamble.precision words m >>= λ used. given tt) counted
          ∙ onward e (λ (rows : List Row). rest_of file head.sections.metadata head.preamble.precision words (length rows) >>= λ used. given tt) ∙ met p (plain 16) _

      pub own_not : {why : Refusal} → refused why ≡ rest_of file head.sections.metadata head.preamble.precision words k → refused why ≡ own_with file head words
      own_not r = carried r (λ used. given tt) ∙ left

      pub own_so : {used : ℕ} → given used ≡ rest_of file head.sections.metadata head.preamble.precision words k → given tt ≡ own_with file head words
      own_so r = onward r (λ used. given tt) ∙ left
