-- The names and the notice as they are lent: what they make of a plan, and when beginning is refused. Assumes nothing.
use Rattle.numbers.proofs.Prelude.{ℕ, suc, ◌+◌, ◌*◌, ◌^◌, ◌≤◌, ◌<◌, min, le-leb, leb-true, lt-leb, ltb, leb, length, take, get_or, length-take, length-take-le, take-suc, Bool}
use Rattle.numbers.proofs.Prelude.{true, false, ◌&&◌, List, [], ◌∷◌, ◌++◌, ◌≡◌, refl, sym, ap, subst, ◌∙◌, arith}
use Rattle.numbers.{proofs.Tests.{both}, specs.{Reply.{Reply, given, refused, plain, demand, ◌>>◌}, declared.refusal.Refusal.{Refusal}}}
use Rattle.writer.specs.Writer.{every}
use Rattle.build.{proofs.{Slices.{texts_few}, metadata.Itemed.{cut_lengths}, recording.Fewer.{joined_sum}}, specs.Metadata.Kept.{joined}}
use Rattle.builder.proofs.Counting.{cut_many, cut_take}
use Rattle.builder.specs.{File.{are_texts, head_from, head_of, is_text, known, readable}, Yards.{Plan, Text, counted_lengths, cut_by, plan_of, sum_of, values_from}}
use Rattle.header.specs.Header.{is_kind}
use Rattle.draft.specs.declared.held.state.Held.{Held}
use Rattle.draft.specs.{Held.{Builder.{Builder, begin, holding, summed}, Sound.{Sound}, State.{front_of, held_as}}}
use Rattle.edit.proofs.changing.Nothing.{held_none, none_held, none_sound}
use Rattle.edit.specs.Changing.Begun.{Checks, first_plan, front_space}
use mathlib.Core.Bool.{and-false}

every_last : {A : Type 0} (good : A → Bool) (xs : List A) (x : A) → every good (xs ++ (x ∷ [])) ≡ (every good xs && (good x && true))
unfolding every
every_last good [] x = refl
every_last good (y ∷ ys) x = ap (λ (b : Bool). good y && b) (every_last good ys x) ∙ go (good y) (every good ys) (good x && true) where
  go : (a b c : Bool) → (a && (b && c)) ≡ ((a && b) && c)
  go true b c = refl
  go false b c = refl

-- where the lengths do not reach, the number of names is no matter
counts_by : (names k : ℕ) (fit : Bool) → leb (names + 1) k ≡ fit → (leb (min names k) 255 && fit) ≡ (leb names 255 && fit)
counts_by names k true e = let h = leb-true (names + 1) k e in let same : min names k ≡ names = omega (arith, h) in ap (λ (n : ℕ). leb n 255 && true) same
counts_by names k false e = and-false (leb (min names k) 255) ∙ sym (and-false (leb names 255))

module _ (kind version precision names : ℕ) (sizes strings : List ℕ) where
  abbrev plan : Plan
  plan = first_plan kind version precision names sizes strings

  abbrev cuts : List Text
  cuts = cut_by sizes strings

  counted : counted_lengths (record { kind = kind; version = version; precision = precision; names = names; yards = []; lats = []; lons = []; pieces = []; lengths = sizes; texts = strings })
      ≡ names + 1
  unfolding counted_lengths values_from
  counted = omega arith

  counts_are : (leb (length plan.names) 255 && plan.numbered) ≡ (leb names 255 && leb (names + 1) (length sizes))
  unfolding plan_of values_from every
  counts_are = let size : length (take names cuts) ≡ min names (length sizes) = length-take names cuts ∙ ap (λ (n : ℕ). min names n) (cut_many sizes strings) in
      ap (λ (n : ℕ). leb (length (take names cuts)) 255 && leb n (length sizes)) counted
      ∙ (ap (λ (n : ℕ). leb n 255 && leb (names + 1) (length sizes)) size ∙ counts_by names (length sizes) (leb (names + 1) (length sizes)) refl)

  module _ (many : names + 1 ≤ length sizes) where
    -- the names and the notice, one after another
    pub front_is : front_of plan ≡ cut_by (take (names + 1) sizes) strings
    unfolding plan_of
    front_is = let up : suc names ≡ names + 1 = omega arith in
        sym (take-suc cuts names [] (omega (arith, many, cut_many sizes strings))) ∙ (ap (λ (n : ℕ). take n cuts) up ∙ sym (cut_take (names + 1) sizes strings))

    pub names_are : length plan.names ≡ names
    unfolding plan_of
    names_are = length-take-le names cuts (omega (arith, many, cut_many sizes strings))

    readable_is : readable (holding plan []) ≡ are_texts (take (names + 1) sizes) strings
    unfolding readable plan_of are_texts every
    readable_is =
        ap (λ (n : ℕ). leb (sum_of (take n sizes)) (length strings) && (every is_text (take names cuts) && (is_text (get_or cuts names []) && true))) counted
        ∙ ap (λ (b : Bool). leb (sum_of (take (names + 1) sizes)) (length strings) && b) (sym (every_last is_text (take names cuts) (get_or cuts names [])) ∙ ap (every is_text) front_is)

  module _ (room lengths texts bytes : ℕ) where
    abbrev begun : Reply Builder
    begun = begin plan room (front_space names sizes lengths texts bytes)

    abbrev lists : Bool
    lists = leb (names + 1) lengths && (leb (sum_of (take (names + 1) sizes)) texts && leb 1 bytes)

    abbrev last : Reply Builder
    last = given (summed (holding plan []) room)

    -- the refusals one after another
    steps : (c r k : Bool) → (leb (length plan.names) 255 && plan.numbered) ≡ c → readable (holding plan []) ≡ r → known plan ≡ k
        → begun ≡ (demand c (plain 25) >> (demand r (plain 26) >> (demand k (plain 27) >> (demand lists (plain 28) >> last))))
    unfolding begin front_space
    steps c r k ec er ek =
        ap (λ (b : Bool). demand b (plain 25) >> (demand (readable (holding plan [])) (plain 26) >> (demand (known plan) (plain 27) >> (demand lists (plain 28) >> last)))) ec
        ∙ (ap (λ (b : Bool). demand c (plain 25) >> (demand b (plain 26) >> (demand (known plan) (plain 27) >> (demand lists (plain 28) >> last)))) er
        ∙ ap (λ (b : Bool). demand c (plain 25) >> (demand r (plain 26) >> (demand b (plain 27) >> (demand lists (plain 28) >> last)))) ek)

    -- a refusal, as the function says it
    refuses : (why : Refusal) (r : Reply Held) → r ≡ refused why → begun ≡ refused why → Checks kind version precision names room sizes strings lengths texts bytes r
    unfolding Checks
    refuses why r e is = subst (Checks kind version precision names room sizes strings lengths texts bytes) (sym e) is

    bad_counts : (leb names 255 && leb (names + 1) (length sizes)) ≡ false → begun ≡ refused (plain 25)
    bad_counts e = steps false (readable (holding plan [])) (known plan) (counts_are ∙ e) refl refl

    pub many_names : 255 < names → (r : Reply Held) → r ≡ refused (plain 25) → Checks kind version precision names room sizes strings lengths texts bytes r
    many_names h r e = refuses (plain 25) r e (bad_counts (ap (λ (b : Bool). b && leb (names + 1) (length sizes)) (lt-leb names 255 h)))

    pub few_sizes : length sizes < names + 1 → (r : Reply Held) → r ≡ refused (plain 25) → Checks kind version precision names room sizes strings lengths texts bytes r
    few_sizes h r e = refuses (plain 25) r e (bad_counts (ap (λ (b : Bool). leb names 255 && b) (lt-leb (names + 1) (length sizes) h) ∙ and-false (leb names 255)))

    module _ (few : names ≤ 255) (many : names + 1 ≤ length sizes) where
      good_counts : (leb (length plan.names) 255 && plan.numbered) ≡ true
      good_counts = counts_are ∙ (ap (λ (b : Bool). b && leb (names + 1) (length sizes)) (le-leb names 255 few) ∙ le-leb (names + 1) (length sizes) many)

      module _ (t : Bool) (tested : t ≡ are_texts (take (names + 1) sizes) strings) where
        pub texts_bad : t ≡ false → (r : Reply Held) → r ≡ refused (plain 26) → Checks kind version precision names room sizes strings lengths texts bytes r
        texts_bad n r e = refuses (plain 26) r e (steps true false (known plan) good_counts (readable_is many ∙ (sym tested ∙ n)) refl)

        module _ (fine : t ≡ true) where
          good_texts : are_texts (take (names + 1) sizes) strings ≡ true
          good_texts = sym tested ∙ fine

          told : (sum_of (take (names + 1) sizes) ≤ length strings) × (every is_text (cut_by (take (names + 1) sizes) strings) ≡ true)
          unfolding are_texts
          told = let two = both (leb (sum_of (take (names + 1) sizes)) (length strings)) (every is_text (cut_by (take (names + 1) sizes) strings)) good_texts in
              (leb-true (sum_of (take (names + 1) sizes)) (length strings) two.0, two.1)

          pub first_whole : sum_of (take (names + 1) sizes) ≤ length strings
          first_whole = told.0

          first_short : sum_of (take (names + 1) sizes) ≤ 65280
          first_short = let short = texts_few (take (names + 1) sizes) strings told.0 told.1 in
              omega (arith, short, length-take-le (names + 1) sizes many, few)

          pub first_small : sum_of (take (names + 1) sizes) + 10 * length (take (names + 1) sizes) < 2 ^ 59
          first_small = omega (arith, first_short, length-take-le (names + 1) sizes many, few)

          module _ (k : Bool) (form : k ≡ ((leb 1 precision && leb precision 31) && (ltb version 2 && is_kind kind))) where
            known_is : known plan ≡ k
            unfolding known plan_of
            known_is = sym form

            pub form_bad : k ≡ false → (r : Reply Held) → r ≡ refused (plain 27) → Checks kind version precision names room sizes strings lengths texts bytes r
            form_bad n r e = refuses (plain 27) r e (steps true true false good_counts (readable_is many ∙ good_texts) (known_is ∙ n))

            module _ (good : k ≡ true) where
              past_form : begun ≡ (demand lists (plain 28) >> last)
              past_form = steps true true true good_counts (readable_is many ∙ good_texts) (known_is ∙ good)

              no_room : lists ≡ false → (r : Reply Held) → r ≡ refused (plain 28) → Checks kind version precision names room sizes strings lengths texts bytes r
              no_room h r e = refuses (plain 28) r e (past_form ∙ ap (λ (b : Bool). demand b (plain 28) >> last) h)

              pub no_lengths : lengths < names + 1 → (r : Reply Held) → r ≡ refused (plain 28) → Checks kind version precision names room sizes strings lengths texts bytes r
              no_lengths h = no_room (ap (λ (b : Bool). b && (leb (sum_of (take (names + 1) sizes)) texts && leb 1 bytes)) (lt-leb (names + 1) lengths h))

              pub no_texts : names + 1 ≤ lengths → texts < sum_of (take (names + 1) sizes) → (r : Reply Held) → r ≡ refused (plain 28) →
                  Checks kind version precision names room sizes strings lengths texts bytes r
              no_texts a h =
                  no_room (ap (λ (b : Bool). b && (leb (sum_of (take (names + 1) sizes)) texts && leb 1 bytes)) (le-leb (names + 1) lengths a)
                  ∙ ap (λ (b : Bool). b && leb 1 bytes) (lt-leb (sum_of (take (names + 1) sizes)) texts h))

              module _ (a : names + 1 ≤ lengths) (b : sum_of (take (names + 1) sizes) ≤ texts) where
                bytes_last : lists ≡ leb 1 bytes
                bytes_last =
                    ap (λ (b : Bool). b && (leb (sum_of (take (names + 1) sizes)) texts && leb 1 bytes)) (le-leb (names + 1) lengths a)
                    ∙ ap (λ (b : Bool). b && leb 1 bytes) (le-leb (sum_of (take (names + 1) sizes)) texts b)

                pub no_bytes : bytes < 1 → (r : Reply Held) → r ≡ refused (plain 28) → Checks kind version precision names room sizes strings lengths texts bytes r
                no_bytes h = no_room (bytes_last ∙ lt-leb 1 bytes h)

                sound : Sound (holding plan []) room
                sound = let counts = both (leb (length plan.names) 255) plan.numbered good_counts in
                    none_sound plan room counts.0 counts.1 (readable_is many ∙ good_texts) (known_is ∙ good)

                module _ (c : 1 ≤ bytes) (head front : ℕ) (eh : head ≡ length (head_from kind version precision names (cut_by (take (names + 1) sizes) strings)))
                    (ef : front ≡ sum_of (take (names + 1) sizes)) where
                  front_size : front ≡ length (joined (front_of plan))
                  front_size =
                      ef ∙ (ap sum_of (sym (cut_lengths (take (names + 1) sizes) strings first_whole)) ∙
                      (sym (joined_sum (cut_by (take (names + 1) sizes) strings)) ∙ ap (λ (l : List Text). length (joined l)) (sym (front_is many))))

                  head_is : head ≡ length (head_of plan)
                  unfolding head_of plan_of
                  head_is =
                      eh ∙ (ap (λ (l : List Text). length (head_from kind version precision names l)) (sym (front_is many))
                      ∙ ap (λ (n : ℕ). length (head_from kind version precision n (front_of plan))) (sym (names_are many)))

                  is_held : held_none kind version precision names room head front ≡ held_as (summed (holding plan []) room)
                  unfolding plan_of
                  is_held = none_held plan room names head front (sym (names_are many)) head_is front_size

                  pub all_good : Checks kind version precision names room sizes strings lengths texts bytes (given (held_none kind version precision names room head front))
                  unfolding Checks
                  all_good =
                      record {
                        gives = past_form ∙ ap (λ (b : Bool). demand b (plain 28) >> last) (bytes_last ∙ le-leb 1 bytes c);
                        is = is_held;
                        sound = sound;
                        few = few;
                        many = many;
                        whole = first_whole;
                        small = first_short;
                        front_is = ef;
                        lengths_room = a;
                        texts_room = b;
                        bytes_room = c;
                      }
