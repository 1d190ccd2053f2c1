-- A builder that begins: from zero lists to the names and the notice at their front. Assumes nothing.
use Rattle.numbers.specs.Reply.{Reply, given, refused}
use Rattle.numbers.proofs.{Lists.{zeros_drop}, Prelude.{ℕ, suc, ◌+◌, ◌-◌, ◌^◌, ◌≤◌, ◌<◌, ℤ, pos, length, take, drop, replicate, length-replicate, length-take-le, List, [], ◌∷◌, ◌++◌, map, ◌≡◌, refl}}
use Rattle.numbers.{proofs.Prelude.{sym, ap, subst, ◌∙◌, arith}, specs.{Lists.{over, zeros}, declared.refusal.Refusal.{Refusal}}}
use Rattle.builder.specs.Yards.{Plan}
use Rattle.header.proofs.Buffers.{over_length}
use Rattle.draft.{proofs.held.{Fronts.{front_made, front_zero}, Texts.{joined_cut}}, specs.Held.{Builder.{holding, summed}, State.{Front, Holds, Lies, Lists, SameRooms, front_of, lists_as}}}
use Rattle.draft.specs.{Held.Totals.{data_of}, declared.held.state.Held.{Held}}
use Rattle.build.{proofs.metadata.Itemed.{cut_lengths}, specs.Metadata.Kept.{joined}}
use Rattle.writer.{proofs.Stores.{stored_front, stored_length}, specs.inner.Stored.{Stored}}
use Rattle.edit.proofs.changing.{Cuts.{cut_all, lists_same}, Firsts.{front_is}, Nothing.{none_lies}}
use Rattle.edit.specs.{Changing.Begun.{Begins, Checked, Checks, blank, first_plan, front_space}, declared.changing.cut.Ends.{Ends}, inner.Changing.Cut.{cut_to}}

-- nothing of any list
abbrev pub no_ends : Ends
no_ends = record { boxes = 0; borders = 0; lengths = 0; texts = 0; bytes = 0 }

module _ (kind version precision names room : ℕ) (sizes strings : List ℕ) where
  -- the lists' lengths are those that were lent
  checks_as : (l l' t t' b b' : ℕ) → l ≡ l' → t ≡ t' → b ≡ b' → (r : Reply Held) → Checks kind version precision names room sizes strings l t b r →
      Checks kind version precision names room sizes strings l' t' b' r
  checks_as l l' t t' b b' el et eb r c =
      subst (λ (n : ℕ). Checks kind version precision names room sizes strings l' t' n r) eb (subst (λ (n : ℕ). Checks kind version precision names room sizes
      strings l' n b r) et (subst (λ (n : ℕ). Checks kind version precision names room sizes strings n t b r) el c))

  module _ (boxes : List ℤ) (borders lengths texts bytes : List ℕ) (boxes₁ : List ℤ) (borders₁ lengths₁ texts₁ bytes₁ : List ℕ)
      (cut : lists_as boxes₁ borders₁ lengths₁ texts₁ bytes₁ ≡ cut_to no_ends (lists_as boxes borders lengths texts bytes)) where
    abbrev before : Lists
    before = lists_as boxes borders lengths texts bytes

    boxes_none : boxes₁ ≡ replicate (length boxes) (pos 0)
    unfolding cut_to
    boxes_none = ap (λ (l : Lists). l.boxes) cut ∙ cut_all (pos 0) boxes

    borders_none : borders₁ ≡ zeros (length borders)
    unfolding cut_to
    borders_none = ap (λ (l : Lists). l.borders) cut ∙ cut_all 0 borders

    lengths_none : lengths₁ ≡ zeros (length lengths)
    unfolding cut_to
    lengths_none = ap (λ (l : Lists). l.lengths) cut ∙ cut_all 0 lengths

    texts_none : texts₁ ≡ zeros (length texts)
    unfolding cut_to
    texts_none = ap (λ (l : Lists). l.texts) cut ∙ cut_all 0 texts

    bytes_none : bytes₁ ≡ zeros (length bytes)
    unfolding cut_to
    bytes_none = ap (λ (l : Lists). l.bytes) cut ∙ cut_all 0 bytes

    blanked : lists_as boxes₁ borders₁ lengths₁ texts₁ bytes₁ ≡ blank before
    unfolding blank
    blanked = lists_same boxes₁ (replicate (length boxes) (pos 0)) borders₁ (zeros (length borders)) lengths₁ (zeros (length lengths)) texts₁ (zeros (length texts)) bytes₁
        (zeros (length bytes)) boxes_none borders_none lengths_none texts_none bytes_none

    pub lengths_same : length lengths₁ ≡ length lengths
    lengths_same = ap length lengths_none ∙ length-replicate (length lengths) 0

    pub texts_same : length texts₁ ≡ length texts
    texts_same = ap length texts_none ∙ length-replicate (length texts) 0

    bytes_same : length bytes₁ ≡ length bytes
    bytes_same = ap length bytes_none ∙ length-replicate (length bytes) 0

    module _ (r : Reply Held) (c : Checks kind version precision names room sizes strings (length lengths₁) (length texts₁) (length bytes₁) r) where
      checks : Checks kind version precision names room sizes strings (length lengths) (length texts) (length bytes) r
      checks = checks_as (length lengths₁) (length lengths) (length texts₁) (length texts) (length bytes₁) (length bytes) lengths_same texts_same bytes_same r c

      pub begin_refused : (why : Refusal) → r ≡ refused why → Begins (first_plan kind version precision names sizes strings) room (front_space names sizes (length lengths)
          (length texts) (length bytes)) before (lists_as boxes₁ borders₁ lengths₁ texts₁ bytes₁) (refused why)
      unfolding Begins Checks
      begin_refused why e = (subst (Checks kind version precision names room sizes strings (length lengths) (length texts) (length bytes)) e checks, blanked)

      module _ (held : Held) (is : r ≡ given held) where
        abbrev plan : Plan
        plan = first_plan kind version precision names sizes strings

        pub checked : Checked kind version precision names room sizes strings (length lengths) (length texts) (length bytes) held
        unfolding Checks
        checked = subst (Checks kind version precision names room sizes strings (length lengths) (length texts) (length bytes)) is checks

        pub names_fit : names + 1 ≤ length sizes
        names_fit = checked.many

        pub strings_fit : held.front ≤ length strings
        strings_fit = omega (arith, checked.front_is, checked.whole)

        size_of : length (take (names + 1) sizes) ≡ names + 1
        size_of = length-take-le (names + 1) sizes names_fit

        pub lengths_fit : length (take (names + 1) sizes) ≤ length lengths₁
        lengths_fit = omega (arith, size_of, checked.lengths_room, lengths_same)

        front_whole : length (take held.front strings) ≡ held.front
        front_whole = length-take-le held.front strings strings_fit

        pub front_small : 0 + length (take held.front strings) < 2 ^ 62
        front_small = omega (arith, front_whole, checked.front_is, checked.small)

        texts_fit : length (take held.front strings) ≤ length texts₁
        texts_fit = omega (arith, front_whole, checked.front_is, checked.texts_room, texts_same)

        module _ (lengths₂ texts₂ : List ℕ) (next : ℕ) (words : lengths₂ ≡ over (take (names + 1) sizes) lengths₁) (put : Stored texts₁ 0 (take held.front strings) texts₂ next) where
          abbrev after : Lists
          after = lists_as boxes₁ borders₁ lengths₂ texts₂ bytes₁

          -- over zeros
          behind : (xs list after' : List ℕ) (n : ℕ) → list ≡ zeros n → after' ≡ xs ++ drop (length xs) list → Front 0 xs after'
          behind xs list after' n e f = front_made 0 xs after' (n - length xs) (f ∙ ap (λ (l : List ℕ). xs ++ l) (ap (drop (length xs)) e ∙ zeros_drop (length xs) n))

          lengths_are : Front 0 (map length (front_of plan)) lengths₂
          lengths_are =
              subst (λ (l : List ℕ). Front 0 l lengths₂) (sym (ap (map length) (front_is kind version precision names sizes strings names_fit) ∙ cut_lengths
              (take (names + 1) sizes) strings checked.whole)) (behind (take (names + 1) sizes) lengths₁ lengths₂ (length lengths) lengths_none words)

          texts_are : Front 0 (joined (front_of plan)) texts₂
          texts_are =
              subst (λ (l : List ℕ). Front 0 l texts₂) (ap (λ (n : ℕ). take n strings) checked.front_is ∙ (sym (joined_cut (take (names + 1) sizes) strings)
              ∙ ap joined (sym (front_is kind version precision names sizes strings names_fit)))) (behind (take held.front strings) texts₁ texts₂
              (length texts) texts_none (stored_front texts₁ (take held.front strings) texts₂ next put texts_fit))

          bytes_are : Front 0 (0 ∷ []) bytes₁
          bytes_are = let e : length bytes ≡ suc (length bytes - 1) = omega (arith, checked.bytes_room) in
              front_made 0 (0 ∷ []) bytes₁ (length bytes - 1) (bytes_none ∙ ap zeros e)

          lies : Lies (holding plan []) (data_of (holding plan [])) after
          lies =
              none_lies plan after (subst (Front (pos 0) []) (sym boxes_none) (front_zero (pos 0) (length boxes))) (subst (Front 0 []) (sym borders_none) (front_zero 0 (length borders)))
              lengths_are texts_are bytes_are

          holds : Holds (summed (holding plan []) room) held after
          unfolding summed
          holds = record { is = checked.is; sound = checked.sound; fresh = refl; lies = lies }

          rooms : SameRooms before after
          rooms =
              record {
                boxes = ap length boxes_none ∙ length-replicate (length boxes) (pos 0);
                borders = ap length borders_none ∙ length-replicate (length borders) 0;
                lengths = ap length words ∙ (over_length (take (names + 1) sizes) lengths₁ lengths_fit ∙ lengths_same);
                texts = stored_length put ∙ texts_same;
                bytes = bytes_same;
              }

          pub begin_done : Begins plan room (front_space names sizes (length lengths) (length texts) (length bytes)) before after (given held)
          unfolding Begins
          begin_done = (summed (holding plan []) room, (checked.gives, (holds, rooms)))
