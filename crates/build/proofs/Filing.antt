-- What is written from the lists that stand is the file of the plan. Assumes nothing.
use Rattle.numbers.proofs.Prelude.{ℕ, ◌+◌, ◌-◌, ◌*◌, ◌/◌, ◌^◌, ◌≤◌, ◌<◌, leb-true, ltb-true, ltb, leb, ℤ, length, take, drop, get_or, length-append, length-take, length-take-le, take-suc, Bool, true}
use Rattle.numbers.{proofs.{Prelude.{false, ◌&&◌, List, [], ◌∷◌, ◌++◌, map, flat_map, zip_with, ◌≡◌, refl, sym, ap, subst, ◌∙◌, mul_comm, add-one, arith}, Tests.{both}}, specs.Answer.{if◌then◌else◌}}
use Rattle.builder.{proofs.{Counting.{cut_many, lengths_room, yards_many, cut_take}, Inlines.{inlined_few}}, specs.Entries.{entry_of_word, table_from, table_of}}
use Rattle.builder.specs.{File.{assembled, entry_of, file_of, head_from, head_of}, Grouping.Keys.{numbers_from}, Metadata.{inlined, is_remote, metadata_of, records_of, remotes}}
use Rattle.builder.specs.{Sharing.{firsts_after, good_ones, is_in, same_text, same_texts, firsts}, Yards.{Lent, Text, Yard, cut_by, plan_of, sum_of, yards_from}, inner.Drawing.Section.{spread}}
use Rattle.build.proofs.{Planned.{all_lengths, few_names}, Slices.{texts_few, value_all, value_bound, value_few, value_whole, plan_values, told, sums}, entries.Tabled.{begins_are, table_stands}}
use Rattle.build.proofs.recording.{Fewer.{fields_few, fields_short, layout_few}, Spreading.{spread_size}}
use Rattle.build.proofs.recording.Written.{recorded_few, recorded_lengths, recorded_section, recorded_size, recorded_texts, recorded_words}
use Rattle.build.specs.{Checked.{lent_as}, Entries.Corners.{InOrder}, Metadata.Kept.{begin_of, fields_to, joined, values_to}, Room.{enough, enough_for, need_of}, declared.room.Need.{Need}}
use Rattle.build.specs.{declared.room.Work.{Work}, inner.{Puts.{Headed, SectionIn, section_from}, Recording.Recorded.{Laying, Recorded}, Whole.{Drew, Filling, file_for}}}

-- ---- long enough
pub record Reach (work : Work) (count fields bytes : ℕ) : Type 0 where
  pub starts : fields < work.starts
  pub keys : fields ≤ work.keys
  pub keys_count : count ≤ work.keys
  pub spare : fields ≤ work.spare
  pub spare_count : count ≤ work.spare
  pub kept : fields ≤ work.kept
  pub held : bytes ≤ work.held
  pub words : fields ≤ work.words
  pub places : 2 * count ≤ work.places
  pub boxes : 4 * count ≤ work.boxes

pub reaches : (w : Work) (count fields bytes : ℕ) → enough w count fields bytes ≡ true → Reach w count fields bytes
unfolding enough
reaches w count fields bytes e = let j : Bool = leb (4 * count) w.boxes in let i : Bool = leb (2 * count) w.places && j in
    let h : Bool = leb fields w.words && i in let g : Bool = leb bytes w.held && h in let f : Bool = leb fields w.kept && g in
    let d : Bool = leb count w.spare && f in let k : Bool = leb fields w.spare && d in let b : Bool = leb count w.keys && k in
    let a : Bool = leb fields w.keys && b in let one = both (ltb fields w.starts) a e in let two = both (leb fields w.keys) b one.1 in
    let three = both (leb count w.keys) k two.1 in let four = both (leb fields w.spare) d three.1 in
    let five = both (leb count w.spare) f four.1 in let six = both (leb fields w.kept) g five.1 in
    let seven = both (leb bytes w.held) h six.1 in let eight = both (leb fields w.words) i seven.1 in
    let nine = both (leb (2 * count) w.places) j eight.1 in record {
      starts = ltb-true fields w.starts one.0;
      keys = leb-true fields w.keys two.0;
      keys_count = leb-true count w.keys three.0;
      spare = leb-true fields w.spare four.0;
      spare_count = leb-true count w.spare five.0;
      kept = leb-true fields w.kept six.0;
      held = leb-true bytes w.held seven.0;
      words = leb-true fields w.words eight.0;
      places = leb-true (2 * count) w.places nine.0;
      boxes = leb-true (4 * count) w.boxes nine.1;
    }

-- ---- the texts behind the records are no longer than all fields inline
firsts_few : (seen xs : List Text) → length (flat_map inlined (firsts_after same_text seen xs)) ≤ length (flat_map inlined xs)
unfolding firsts_after flat_map
firsts_few seen [] = omega arith
firsts_few seen (x ∷ xs) = go (is_in same_text x seen) (firsts_few seen xs) (firsts_few (x ∷ seen) xs) where
  go : (t : Bool) → length (flat_map inlined (firsts_after same_text seen xs)) ≤ length (flat_map inlined xs) →
      length (flat_map inlined (firsts_after same_text (x ∷ seen) xs)) ≤ length (flat_map inlined xs)
      → length (flat_map inlined (if t then firsts_after same_text seen xs else (x ∷ firsts_after same_text (x ∷ seen) xs))) ≤ length (inlined x ++ flat_map inlined xs)
  go true a b = omega (arith, a, length-append (inlined x) (flat_map inlined xs))
  go false a b = omega (arith, b, length-append (inlined x) (flat_map inlined xs), length-append (inlined x) (flat_map inlined (firsts_after same_text (x ∷ seen) xs)))

good_few : (good : Text → Bool) (xs : List Text) → length (flat_map inlined (good_ones good xs)) ≤ length (flat_map inlined xs)
unfolding good_ones flat_map
good_few good [] = omega arith
good_few good (x ∷ xs) = go (good x) (good_few good xs) where
  go : (t : Bool) → length (flat_map inlined (good_ones good xs)) ≤ length (flat_map inlined xs) →
      length (flat_map inlined (if t then (x ∷ good_ones good xs) else good_ones good xs)) ≤ length (inlined x ++ flat_map inlined xs)
  go true a = omega (arith, a, length-append (inlined x) (flat_map inlined xs), length-append (inlined x) (flat_map inlined (good_ones good xs)))
  go false a = omega (arith, a, length-append (inlined x) (flat_map inlined xs))

inline_few : (xs : List Text) → length (flat_map inlined xs) ≤ length (joined xs) + 10 * length xs
unfolding flat_map
inline_few [] = omega arith
inline_few (x ∷ xs) = omega (arith, inline_few xs, inlined_few x, length-append (inlined x) (flat_map inlined xs), length-append x (joined xs))

remotes_few : (fields : List Text) → length (flat_map inlined (remotes fields)) ≤ length (joined fields) + 10 * length fields
unfolding remotes
remotes_few fields = omega (arith, firsts_few [] (good_ones (is_remote fields) fields), good_few (is_remote fields) fields, inline_few fields)

-- ---- what is laid out is a section that can be written
module _ (names count : ℕ) (values strings : List ℕ) (many : length values ≡ count * names) (whole : length strings ≡ sum_of values) (bound : sum_of values + 10 * length values < 2 ^ 32) where
  module _ (before kept held words places : List ℕ) (records remote sizes bytes : ℕ) (own : Recorded names count values strings before kept held words places records remote sizes bytes) where
    abbrev laid_fields : List Text
    laid_fields = fields_to names values strings count

    laid_few : length (joined laid_fields) + 10 * length laid_fields < 2 ^ 32
    laid_few = omega (arith, fields_few names count values strings many, fields_short names count values strings many (omega (arith, whole)), bound)

    pub laid_section : SectionIn records remote sizes bytes kept held words
    unfolding section_from
    laid_section = record {
      kept_in = own.kept_in;
      held_in = own.held_in;
      words_in = own.words_in;
      section = record {
        many = recorded_lengths names count values strings before kept held words places records remote sizes bytes own;
        whole = recorded_texts names count values strings before kept held words places records remote sizes bytes own;
        bound = omega (arith, recorded_few names count values strings before kept held words places records remote sizes bytes own many (omega (arith, whole)), bound);
        words_are = recorded_words names count values strings before kept held words places records remote sizes bytes own;
        size_is = sym (ap length (recorded_section names count values strings before kept held words places records remote sizes bytes own) ∙
            recorded_size names count values strings before kept held words places records remote sizes bytes own);
        small = omega (arith, own.records_are, own.remote_is, layout_few laid_fields, remotes_few laid_fields, laid_few);
      };
    }

-- ---- over what a plan needs
module _ (names : ℕ) (yards lengths texts : List ℕ) (need : Need) (work : Work) (f : Filling names yards lengths texts need work) where
  abbrev lent_lengths : Need → List ℕ
  lent_lengths n = take (n.all - n.front) (drop n.front lengths)

  abbrev lent_texts : Need → List ℕ
  lent_texts n = take (n.sum - n.behind) (drop n.behind texts)

  abbrev count : ℕ
  count = length yards / 4

  abbrev values : List ℕ
  values = take (names + 1 + names * (length yards / 4) - (names + 1)) (drop (names + 1) lengths)

  abbrev behind : ℕ
  behind = sum_of (take (names + 1) lengths)

  abbrev sum : ℕ
  sum = sum_of (take (names + 1 + names * (length yards / 4)) lengths)

  abbrev strings : List ℕ
  strings = take (sum_of (take (names + 1 + names * (length yards / 4)) lengths) - sum_of (take (names + 1) lengths)) (drop (sum_of (take (names + 1) lengths)) texts)

  reach : Reach work count (names + 1 + names * (length yards / 4) - (names + 1)) (sum_of (take (names + 1 + names * (length yards / 4)) lengths) - sum_of (take (names + 1) lengths))
  unfolding need_of
  reach = reaches work count (names + 1 + names * (length yards / 4) - (names + 1)) (sum - behind) (ap (enough_for work) (sym f.is) ∙ f.room)

  many : length values ≡ count * names
  many = value_all names yards lengths texts f.good.counts f.good.fine

  whole : length strings ≡ sum_of values
  whole = value_whole names yards lengths texts f.good.counts f.good.fine behind sum refl refl

  size : sum_of values ≡ sum - behind
  size = omega (arith, sums names yards lengths texts f.good.counts f.good.fine)

  laying : Laying names count values strings work.starts work.keys work.spare work.kept work.held work.words work.places
  laying = let fields : length values ≡ names + 1 + names * (length yards / 4) - (names + 1) = omega (arith, many, mul_comm count names) in record {
    all = many;
    whole = whole;
    few = value_few names yards lengths texts f.good.counts f.good.fine;
    bound = value_bound names yards lengths texts f.good.counts f.good.fine;
    starts_room = omega (arith, fields, reach.starts);
    keys_count = reach.keys_count;
    keys_room = omega (arith, fields, reach.keys);
    spare_count = reach.spare_count;
    spare_room = omega (arith, fields, reach.spare);
    kept_room = omega (arith, fields, reach.kept);
    held_room = omega (arith, size, reach.held);
    words_room = omega (arith, fields, reach.words);
    places_room = reach.places;
  }

  pub filling_laying : Laying names need.count (lent_lengths need) (lent_texts need) work.starts work.keys work.spare work.kept work.held work.words work.places
  unfolding need_of
  filling_laying = subst (λ (n : Need). Laying names n.count (lent_lengths n) (lent_texts n) work.starts work.keys work.spare work.kept work.held work.words
      work.places) (sym f.is) laying

  -- the names and the notice
  pub filling_headed : Headed (take need.front lengths) texts
  unfolding need_of
  filling_headed = let all = told names yards lengths texts f.good.counts f.good.fine in
      let long : length (take (names + 1 + names * (length yards / 4)) lengths) ≡ names + 1 + names * (length yards / 4) = length-take-le
      (names + 1 + names * (length yards / 4)) lengths (all_lengths names yards (length lengths) f.good.counts) in
      let most = texts_few (take (names + 1 + names * (length yards / 4)) lengths) texts all.0 all.1 in
      let room : names * (length yards / 4) ≤ 1044480 = lengths_room names (length yards / 4) (few_names names yards (length lengths) f.good.counts)
      (value_few names yards lengths texts f.good.counts f.good.fine) in
      subst (λ (n : Need). Headed (take n.front lengths) texts) (sym f.is) (record {
        whole = omega (arith, sums names yards lengths texts f.good.counts f.good.fine, all.0);
        bound = omega (
          arith,
          sums names yards lengths texts f.good.counts f.good.fine,
          most,
          long,
          room,
          few_names names yards (length lengths) f.good.counts,
          length-take (names + 1) lengths,
        );
      })

  module _ (before kept held words places : List ℕ) (records remote sizes bytes : ℕ)
      (r : Recorded names need.count (lent_lengths need) (lent_texts need) before kept held words places records remote sizes bytes) where
    own : Recorded names count values strings before kept held words places records remote sizes bytes
    unfolding need_of
    own = subst (λ (n : Need). Recorded names n.count (lent_lengths n) (lent_texts n) before kept held words places records remote sizes bytes) f.is r

    -- the metadata section
    pub filling_section : SectionIn records remote sizes bytes kept held words
    filling_section = laid_section names count values strings many whole laying.bound before kept held words places records remote sizes bytes own

    module _ (kind version precision : ℕ) (lats lons : List ℤ) (pieces : List ℕ) where
      abbrev lent : Lent
      lent = lent_as kind version precision names yards lats lons pieces lengths texts

      valued : map (λ (y : Yard). y.values) (plan_of lent).yards ≡ values_to names values strings count
      valued = plan_values names yards lengths texts f.good.counts f.good.fine behind sum refl refl kind version precision lats lons pieces

      section_is : section_from records (take sizes words) (take sizes kept) (take bytes held) ≡ metadata_of (records_of (plan_of lent).yards)
      unfolding section_from
      section_is =
          recorded_section names count values strings before kept held words places records remote sizes bytes own ∙ ap (λ (vs : List (List Text)). metadata_of (firsts same_texts vs)) (sym valued)

      head_is : head_from kind version precision names (cut_by (take (names + 1) lengths) texts) ≡ head_of (plan_of lent)
      unfolding head_of plan_of
      head_is = let cut : List Text = cut_by lengths texts in
          let long : names < length (cut_by lengths texts) = omega (arith, cut_many lengths texts, all_lengths names yards (length lengths) f.good.counts) in
          let named : names ≡ length (take names (cut_by lengths texts)) = sym (length-take-le names cut (omega (arith, long))) in
          ap (head_from kind version precision names) (cut_take (names + 1) lengths texts ∙ (ap (λ (n : ℕ). take n cut) (add-one names) ∙ take-suc cut names [] long))
          ∙ ap (λ (n : ℕ). head_from kind version precision n (take names cut ++ (get_or cut names [] ∷ []))) named

      table_is : (boxes boxes' : List ℤ) (keys spare spare' : List ℕ) → InOrder (yards_from yards lats lons [] []) boxes boxes' keys spare spare' → (drawn : List ℕ)
          → Drew yards drawn before → work.places ≡ length before
          → table_from 0 0 (map (entry_of_word boxes' places) keys) ≡ table_of (zip_with (entry_of (plan_of lent).yards) (plan_of lent).yards drawn)
      unfolding plan_of spread
      table_is boxes boxes' keys spare spare' o drawn d e =
          let all : length (plan_of lent).yards ≡ count = yards_many yards lats lons pieces (drop (names + 1) (cut_by lengths texts)) in
          let wide : length before ≡ length d.before = ap length d.stored ∙ spread_size 1 drawn d.before in
          table_stands yards lats lons pieces (drop (names + 1) (cut_by lengths texts)) (plan_of lent).yards refl boxes boxes' keys spare spare' o d.before drawn
          [] (map (begin_of names values strings count) (numbers_from 0 count)) places (d.many ∙ sym all) (omega (arith, all, wide, e, reach.places))
          (begins_are (plan_of lent).yards names values strings count valued) (own.placed ∙ ap (spread 0 (map (begin_of names values strings count) (numbers_from 0 count))) d.stored)

      -- the whole file
      pub filling_file : (boxes boxes' : List ℤ) (keys spare spare' : List ℕ) → InOrder (yards_from yards lats lons [] []) boxes boxes' keys spare spare'
          → (drawn : List ℕ) → Drew yards drawn before → work.places ≡ length before → (data' : List ℕ)
          → assembled (head_from kind version precision names (cut_by (take need.front lengths) texts)) (table_from 0 0 (map (entry_of_word boxes' places) keys))
          (section_from records (take sizes words) (take sizes kept) (take bytes held)) data' ≡ file_for lent drawn data'
      unfolding file_of need_of
      filling_file boxes boxes' keys spare spare' o drawn d e data' = let table : List ℕ = table_from 0 0 (map (entry_of_word boxes' places) keys) in
          let section : List ℕ = section_from records (take sizes words) (take sizes kept) (take bytes held) in
          let front : need.front ≡ names + 1 = ap (λ (n : Need). n.front) f.is in
          ap (λ (n : ℕ). assembled (head_from kind version precision names (cut_by (take n lengths) texts)) table section data') front
          ∙ (ap (λ (head : List ℕ). assembled head table section data') head_is
          ∙ (ap (λ (t : List ℕ). assembled (head_of (plan_of lent)) t section data') (table_is boxes boxes' keys spare spare' o drawn d e)
          ∙ ap (λ (s : List ℕ). assembled (head_of (plan_of lent)) (table_of (zip_with (entry_of (plan_of lent).yards) (plan_of lent).yards drawn)) s data') section_is))
