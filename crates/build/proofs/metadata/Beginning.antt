-- Where the records begin: the loop over the yards. Assumes nothing.
use Rattle.numbers.proofs.Prelude.{ℕ, zero, suc, ◌+◌, ◌-◌, ◌*◌, ◌^◌, ◌≤◌, ◌<◌, length, take, drop, get_or, set, length-append, length-drop, length-map, length-set, length-take, take-take, true, false}
use Rattle.numbers.proofs.Prelude.{List, [], ◌∷◌, ◌++◌, map, flat_map, ◌≡◌, refl, sym, ap, subst, ◌∙◌, suc-mul, add-one, arith}
use Rattle.builder.proofs.{drawing.Sections.{spread_more}, grouping.{Keyed.{texts_equal}, Listed.{numbers_many}, Meant.{First, first_means, starts_inside, texts_itself}, Walks.{item_among}}}
use Rattle.builder.proofs.grouping.Walks.{fewer_inside}
use Rattle.builder.specs.{Grouping.{Items.{starts_from, item_at, Inside}, Keys.{numbers_from, alike, first_of}}, Metadata.{fields_of, written, layout_of, start_of}}
use Rattle.builder.specs.{Metadata.{joined_from, field_bytes}, Sharing.{same_texts, is_in, firsts_after, size_before, good_ones}, Yards.{Text, cut_by, sum_of}, inner.Drawing.Section.{spread}}
use Rattle.build.proofs.metadata.Begun.{cut_join, record_written, numbers_split, spread_behind, spread_at, values_on, fields_new, fields_old, fields_there, fields_part}
use Rattle.build.proofs.metadata.{Itemed.{map_take, map_drop, item_lengths, item_bytes, starts_climb}, Keeping.{starts_within}, Offsets.{total, used, new_place, total_old, total_new}}
use Rattle.build.proofs.{metadata.Shared.{numbers_more, map_more, in_none, in_some}, recording.{Fewer.{written_few}, Spreading.{numbered_at}}}
use Rattle.build.specs.{Metadata.Kept.{values_to, fields_to, joined, begin_of, Ready}, inner.Metadata.Words.{word_in}}

-- the bytes of a record, if all have these fields
abbrev size_in : List Text → List Text → ℕ
size_in fields ts = length (flat_map (written fields (layout_of fields)) ts)

-- the bytes of the records of the first so many yards
abbrev size_to : ℕ → List ℕ → List ℕ → ℕ → ℕ → ℕ
size_to names lengths texts count yard =
    total same_texts texts_equal texts_itself (λ (r : List Text). true) (size_in (fields_to names lengths texts count)) (used same_texts texts_equal texts_itself
    (λ (r : List Text). true) (size_in (fields_to names lengths texts count)) [] (values_to names lengths texts yard))

pub record Beginning (names count : ℕ) (lengths texts before places : List ℕ) (begin field yard : ℕ) : Type 0 where
  pub index : yard ≤ count
  pub placed : places ≡ spread 0 (map (begin_of names lengths texts count) (numbers_from 0 yard)) before
  pub size_is : length places ≡ length before
  pub begin_is : begin ≡ size_to names lengths texts count yard
  pub field_is : field ≡ length (fields_to names lengths texts yard)
  pub bound : begin ≤ get_or (starts_from 0 lengths) (yard * names) 0 + 10 * (yard * names)

number_at : (f : ℕ → ℕ) (n j : ℕ) → j < n → get_or (map f (numbers_from 0 n)) j 0 ≡ f j
number_at f n j h = let e : 0 + j ≡ j = omega arith in numbered_at f 0 n j h ∙ ap f e

-- a part of a front is a part of all
part_of_front : (a b n : ℕ) (l : List ℕ) → b + a ≤ n → take a (drop b (take n l)) ≡ take a (drop b l)
part_of_front a zero n l h = take-take a n l (omega arith)
part_of_front a (suc b) zero l h = absurd (omega arith)
part_of_front a (suc b) (suc n) [] h = refl
part_of_front a (suc b) (suc n) (x ∷ l) h = part_of_front a b n l (omega arith)

sum_lengths : (ts : List Text) → sum_of (map length ts) ≡ length (joined ts)
unfolding sum_of flat_map
sum_lengths [] = refl
sum_lengths (t ∷ ts) = ap (λ (n : ℕ). length t + n) (sum_lengths ts) ∙ sym (length-append t (joined ts))

all_good : (xs : List (List Text)) → good_ones (λ (r : List Text). true) xs ≡ xs
unfolding good_ones
all_good [] = refl
all_good (x ∷ xs) = ap (λ (l : List (List Text)). x ∷ l) (all_good xs)

item_many : (starts texts : List ℕ) (at width : ℕ) → length (item_at starts texts at width) ≡ width
unfolding item_at
item_many starts texts at zero = refl
item_many starts texts at (suc width) = ap suc (item_many starts texts (at + 1) width)

module _ (names records count : ℕ) (words lengths texts starts before : List ℕ) (r : Ready names records count words lengths texts starts before) where
  abbrev item : ℕ → List Text
  item yard = item_at (starts_from 0 lengths) texts (yard * names) names

  abbrev values : ℕ → List (List Text)
  values = values_to names lengths texts

  abbrev all : List Text
  all = fields_to names lengths texts count

  pub begin_starts : Beginning names count lengths texts before before 0 0 0
  unfolding spread numbers_from values_to firsts_after fields_of good_ones total
  begin_starts = record { index = omega arith; placed = refl; size_is = refl; begin_is = refl; field_is = refl; bound = omega arith }

  inside : Inside (starts_from 0 lengths) texts (count * names)
  inside = subst (λ (n : ℕ). Inside (starts_from 0 lengths) texts n) r.all (starts_inside lengths texts r.whole)

  module _ (places : List ℕ) (begin field yard : ℕ) (c : Beginning names count lengths texts before places begin field yard) (h : yard < count) where
    own : Inside (starts_from 0 lengths) texts (yard * names + names)
    own = fewer_inside (starts_from 0 lengths) texts (count * names) (yard * names + names) (item_among yard count names h) inside

    pub here_inside : Inside starts texts (yard * names + names)
    here_inside = subst (λ (s : List ℕ). Inside s texts (yard * names + names)) (sym r.begin) own

    pub here_climb : get_or starts (yard * names) 0 ≤ get_or starts (yard * names + names) 0
    here_climb = subst (λ (s : List ℕ). get_or s (yard * names) 0 ≤ get_or s (yard * names + names) 0) (sym r.begin) (starts_climb (starts_from 0 lengths) texts (yard * names) names own)

    pub here_most : get_or starts (yard * names + names) 0 ≤ length texts
    here_most = subst (λ (s : List ℕ). get_or s (yard * names + names) 0 ≤ length texts) (sym r.begin) (starts_within lengths texts (yard * names + names) own)

    pub here_to : yard * names + names ≤ length lengths
    here_to = omega (arith, item_among yard count names h, r.all)

    pub here_place : 2 * yard < length places
    here_place = omega (arith, h, r.places_room, c.size_is)

    many : (f : ℕ → ℕ) → length (map f (numbers_from 0 yard)) ≡ yard
    many f = length-map (numbers_from 0 yard) f ∙ numbers_many 0 yard

    next_at : (yard + 1) * names ≡ yard * names + names
    next_at = ap (λ (n : ℕ). n * names) (add-one yard) ∙ suc-mul yard names

    pub first_read : get_or places (2 * yard) 0 ≡ first_of (starts_from 0 lengths) texts names count yard
    first_read =
        ap (λ (l : List ℕ). get_or l (2 * yard) 0) c.placed ∙ (spread_behind 0 (map (begin_of names lengths texts count) (numbers_from 0 yard)) before
        (2 * yard) (omega (arith, many (begin_of names lengths texts count))) ∙ r.first yard h)

    module _ (first : ℕ) (is : first ≡ get_or places (2 * yard) 0) where
      means : First (alike (starts_from 0 lengths) texts names yard) 0 yard first
      means = first_means (starts_from 0 lengths) texts names count yard h first (is ∙ first_read)

      on : (n : ℕ) → n ≡ begin_of names lengths texts count yard → set places (2 * yard) n ≡ spread 0 (map (begin_of names lengths texts count) (numbers_from 0 (yard + 1))) before
      on n e = let z : 0 + yard ≡ yard = omega arith in let f : ℕ → ℕ = begin_of names lengths texts count in
          let at : 2 * yard ≡ 0 + 2 * length (map f (numbers_from 0 yard)) = omega (arith, many f) in
          let list : map f (numbers_from 0 (yard + 1)) ≡ map f (numbers_from 0 yard) ++ (f yard ∷ []) = ap (λ (k : ℕ). map f (numbers_from 0 k)) (add-one yard)
          ∙ (ap (map f) (numbers_more 0 yard) ∙ (map_more f (numbers_from 0 yard) ((0 + yard) ∷ []) ∙ ap (λ (k : ℕ). map f (numbers_from 0 yard) ++ (f k ∷ [])) z)) in
          ap (λ (l : List ℕ). set l (2 * yard) n) c.placed ∙ (ap (λ (k : ℕ). set (spread 0 (map f (numbers_from 0 yard)) before) k n) at
          ∙ (ap (λ (k : ℕ). set (spread 0 (map f (numbers_from 0 yard)) before) (0 + 2 * length (map f (numbers_from 0 yard))) k) e
          ∙ (sym (spread_more 0 (map f (numbers_from 0 yard)) (f yard) before) ∙ ap (λ (l : List ℕ). spread 0 l before) (sym list))))

      values_next : values (yard + 1) ≡ values yard ++ (item yard ∷ [])
      values_next = ap values (add-one yard) ∙ values_on names lengths texts yard

      -- ---- a yard whose record came before
      module _ (not : first ≡ yard → ⊥) where
        old : is_in same_texts (item yard) (values yard) ≡ true
        unfolding alike values_to
        old = in_some same_texts item (item yard) 0 yard first (omega arith) (omega (arith, means.most, not)) means.same

        pub first_place : 2 * first < length places
        first_place = omega (arith, means.most, not, here_place)

        same_begin : get_or places (2 * first) 0 ≡ begin_of names lengths texts count yard
        unfolding alike
        same_begin = let f : ℕ → ℕ = begin_of names lengths texts count in let less : first < yard = omega (arith, means.most, not) in
            let z : 2 * first ≡ 0 + 2 * first = omega arith in let eq : item first ≡ item yard = sym (texts_equal (item yard) (item first) means.same) in
            ap (λ (l : List ℕ). get_or l (2 * first) 0) c.placed ∙ (ap (λ (k : ℕ). get_or (spread 0 (map f (numbers_from 0 yard)) before) k 0) z
            ∙ (spread_at 0 (map f (numbers_from 0 yard)) before first (omega (arith, less, many f)) (omega (arith, less, h, r.places_room))
            ∙ (number_at f yard first less ∙ ap (start_of (firsts_after same_texts [] (values count))) eq)))

        pub begin_old : Beginning names count lengths texts before (set places (2 * yard) (get_or places (2 * first) 0)) begin field (yard + 1)
        begin_old = record {
          index = omega arith;
          placed = on (get_or places (2 * first) 0) same_begin;
          size_is = length-set places (2 * yard) (get_or places (2 * first) 0) ∙ c.size_is;
          begin_is = c.begin_is ∙ sym (ap (λ (l : List (List Text)). total same_texts texts_equal texts_itself (λ (r : List Text). true) (size_in all)
              (used same_texts texts_equal texts_itself (λ (r : List Text). true) (size_in all) [] l)) values_next ∙ total_old same_texts texts_equal texts_itself
              (λ (r : List Text). true) (size_in all) (values yard) (item yard) refl old);
          field_is = c.field_is ∙ sym (ap length (ap (fields_to names lengths texts) (add-one yard) ∙ fields_old names lengths texts yard old));
          bound = rw next_at (omega (arith, c.bound, starts_climb (starts_from 0 lengths) texts (yard * names) names own));
        }

      -- ---- a yard with a record of its own
      module _ (mine : first ≡ yard) where
        new : is_in same_texts (item yard) (values yard) ≡ false
        unfolding alike values_to
        new = in_none same_texts item (item yard) 0 yard (λ j a b. means.none j a (omega (arith, b, mine)))

        width : length (item yard) ≡ names
        width = item_many (starts_from 0 lengths) texts (yard * names) names

        begin_here : begin ≡ begin_of names lengths texts count yard
        unfolding start_of values_to is_in
        begin_here = let m : ℕ = count - suc yard in let e : count ≡ yard + suc (count - suc yard) = omega (arith, h) in
            let z : 0 + yard ≡ yard = omega arith in let later : List (List Text) = map item (numbers_from (suc (0 + yard)) (count - suc yard)) in
            let cut : values count ≡ values yard ++ (item yard ∷ later) = ap (λ (n : ℕ). map item (numbers_from 0 n)) e ∙ (numbers_split item 0 yard (count - suc yard)
            ∙ ap (λ (n : ℕ). map item (numbers_from 0 yard) ++ (item n ∷ later)) z) in
            let place = new_place same_texts texts_equal texts_itself (λ (r : List Text). true) (size_in all) [] (values yard) (item yard) later refl refl new in
            c.begin_is ∙ (sym place ∙ (ap (λ (l : List (List Text)). size_before same_texts (size_in all) (item yard) (firsts_after same_texts [] (good_ones (λ (r : List Text). true) l))) (sym cut)
            ∙ ap (λ (l : List (List Text)). size_before same_texts (size_in all) (item yard) (firsts_after same_texts [] l)) (all_good (values count))))

        there : field + names ≤ length all
        there = let t = fields_there names lengths texts count yard h new in omega (arith, t, width, c.field_is)

        pub field_room : field + names ≤ length words
        field_room = omega (arith, there, r.room)

        words_part : take (field + names - field) (drop field words) ≡ map (word_in all) (item yard)
        words_part = let e : field + names - field ≡ names = omega arith in
            ap (λ (n : ℕ). take n (drop field words)) e ∙ (sym (part_of_front names field (length all) words there) ∙ (ap (λ (l : List ℕ). take names (drop field l))
            r.words_are ∙ (ap (take names) (sym (map_drop (word_in all) field all)) ∙ (sym (map_take (word_in all) names (drop field all))
            ∙ ap (map (word_in all)) (ap (λ (n : ℕ). take names (drop n all)) c.field_is ∙ (ap (λ (n : ℕ). take n (drop (length (fields_to names lengths texts yard)) all))
            (sym width) ∙ fields_part names lengths texts count yard h new))))))

        lengths_part : take (yard * names + names - yard * names) (drop (yard * names) lengths) ≡ map length (item yard)
        lengths_part = let e : yard * names + names - yard * names ≡ names = omega arith in
            ap (λ (n : ℕ). take n (drop (yard * names) lengths)) e ∙ sym (item_lengths lengths texts r.whole (yard * names) names here_to)

        texts_part : take (get_or starts (yard * names + names) 0 - get_or starts (yard * names) 0) (drop (get_or starts (yard * names) 0) texts) ≡ joined (item yard)
        texts_part =
            ap (λ (s : List ℕ). take (get_or s (yard * names + names) 0 - get_or s (yard * names) 0) (drop (get_or s (yard * names) 0) texts)) r.begin
            ∙ sym (item_bytes (starts_from 0 lengths) texts (yard * names) names own)

        pub size_asks : (length (take (yard * names + names - yard * names) (drop (yard * names) lengths)) ≤ length (take (field + names - field)
            (drop field words))) × (sum_of (take (yard * names + names - yard * names) (drop (yard * names) lengths)) ≤ length
            (take (get_or starts (yard * names + names) 0 - get_or starts (yard * names) 0) (drop (get_or starts (yard * names) 0) texts))) ×
            (0 + sum_of (take (yard * names + names - yard * names) (drop (yard * names) lengths)) + 10 * length (take (yard * names + names - yard * names) (drop (yard * names) lengths)) < 2 ^ 60)
        size_asks =
            let a : length (take (yard * names + names - yard * names) (drop (yard * names) lengths)) ≡ names = ap length lengths_part ∙ (length-map (item yard) length ∙ width) in
            let b : length (take (field + names - field) (drop field words)) ≡ names = ap length words_part ∙ (length-map (item yard) (word_in all) ∙ width) in
            let s : sum_of (take (yard * names + names - yard * names) (drop (yard * names) lengths)) ≡ length (joined (item yard)) = ap sum_of lengths_part ∙ sum_lengths (item yard) in
            let t : length (take (get_or starts (yard * names + names) 0 - get_or starts (yard * names) 0) (drop (get_or starts (yard * names) 0) texts)) ≡ length
            (joined (item yard)) = ap length texts_part in
            let l = length-take (get_or starts (yard * names + names) 0 - get_or starts (yard * names) 0) (drop (get_or starts (yard * names) 0) texts) in
            let d = length-drop (get_or starts (yard * names) 0) texts in
            (omega (arith, a, b), omega (arith, s, t), omega (arith, s, t, l, d, a, r.bound, here_to))

        size_as : (s : ℕ) → s ≡ length (joined_from (field_bytes records (take (field + names - field) (drop field words))) 0 (cut_by (take (yard * names + names - yard * names)
            (drop (yard * names) lengths)) (take (get_or starts (yard * names + names) 0 - get_or starts (yard * names) 0) (drop (get_or starts (yard * names) 0) texts))))
            → s ≡ size_in all (item yard)
        size_as s e =
            e ∙ (ap (λ (w : List ℕ). length (joined_from (field_bytes records w) 0 (cut_by (take (yard * names + names - yard * names) (drop (yard * names) lengths))
            (take (get_or starts (yard * names + names) 0 - get_or starts (yard * names) 0) (drop (get_or starts (yard * names) 0) texts))))) words_part
            ∙ (ap (λ (l : List ℕ). length (joined_from (field_bytes records (map (word_in all) (item yard))) 0 (cut_by l (take (get_or starts (yard * names + names)
            0 - get_or starts (yard * names) 0) (drop (get_or starts (yard * names) 0) texts))))) lengths_part
            ∙ (ap (λ (l : List ℕ). length (joined_from (field_bytes records (map (word_in all) (item yard))) 0 (cut_by (map length (item yard)) l))) texts_part
            ∙ (ap (λ (ts : List Text). length (joined_from (field_bytes records (map (word_in all) (item yard))) 0 ts)) (cut_join (item yard))
            ∙ (ap length (record_written all records (item yard)) ∙ ap (λ (n : ℕ). length (flat_map (written all n) (item yard))) r.layout)))))

        pub begin_small : begin < 2 ^ 32
        begin_small =
            let w = starts_within lengths texts (yard * names) (fewer_inside (starts_from 0 lengths) texts (yard * names + names) (yard * names) (omega arith) own) in
            omega (arith, c.bound, w, r.bound, here_to)

        module _ (s : ℕ) (e : s ≡ length (joined_from (field_bytes records (take (field + names - field) (drop field words))) 0 (cut_by (take (yard * names + names - yard * names)
            (drop (yard * names) lengths)) (take (get_or starts (yard * names + names) 0 - get_or starts (yard * names) 0) (drop (get_or starts (yard * names) 0) texts))))) where
          size_few : s ≤ get_or (starts_from 0 lengths) (yard * names + names) 0 - get_or (starts_from 0 lengths) (yard * names) 0 + 10 * names
          size_few = let w = written_few all (layout_of all) (item yard) in
              let b : length (joined (item yard)) ≡ length (take (get_or (starts_from 0 lengths) (yard * names + names) 0 - get_or (starts_from 0 lengths) (yard * names) 0)
              (drop (get_or (starts_from 0 lengths) (yard * names) 0) texts)) = ap length (item_bytes (starts_from 0 lengths) texts (yard * names) names own) in
              omega (
                arith,
                size_as s e,
                w,
                b,
                width,
                length-take (get_or (starts_from 0 lengths) (yard * names + names) 0 - get_or (starts_from 0 lengths) (yard * names) 0)
                    (drop (get_or (starts_from 0 lengths) (yard * names) 0) texts),
              )

          climbs : get_or (starts_from 0 lengths) (yard * names) 0 ≤ get_or (starts_from 0 lengths) (yard * names + names) 0
          climbs = starts_climb (starts_from 0 lengths) texts (yard * names) names own

          pub begin_room : begin + s < 2 ^ 33
          begin_room = let w = starts_within lengths texts (yard * names + names) own in omega (arith, c.bound, size_few, climbs, w, r.bound, here_to)

          pub begin_new : Beginning names count lengths texts before (set places (2 * yard) begin) (begin + s) (field + names) (yard + 1)
          begin_new = record {
            index = omega arith;
            placed = on begin begin_here;
            size_is = length-set places (2 * yard) begin ∙ c.size_is;
            begin_is = ap (λ (n : ℕ). n + s) c.begin_is ∙ (ap (λ (n : ℕ). size_to names lengths texts count yard + n) (size_as s e)
                ∙ sym (ap (λ (l : List (List Text)). total same_texts texts_equal texts_itself (λ (r : List Text). true) (size_in all)
                (used same_texts texts_equal texts_itself (λ (r : List Text). true) (size_in all) [] l)) values_next ∙ total_new same_texts texts_equal texts_itself
                (λ (r : List Text). true) (size_in all) (values yard) (item yard) refl new));
            field_is =
                let l : length (fields_to names lengths texts (yard + 1)) ≡ length (fields_to names lengths texts yard) + length (item yard) = ap length
                (ap (fields_to names lengths texts) (add-one yard) ∙ fields_new names lengths texts yard new) ∙ length-append (fields_to names lengths texts yard) (item yard) in
                omega (arith, l, width, c.field_is);
            bound = rw next_at (omega (arith, c.bound, size_few, climbs));
          }

  pub begin_ends : (places : List ℕ) (begin field yard : ℕ) → Beginning names count lengths texts before places begin field yard → count ≤ yard
      → places ≡ spread 0 (map (begin_of names lengths texts count) (numbers_from 0 count)) before
  begin_ends places begin field yard c h = let e : yard ≡ count = omega (arith, c.index) in
      c.placed ∙ ap (λ (n : ℕ). spread 0 (map (begin_of names lengths texts count) (numbers_from 0 n)) before) e
