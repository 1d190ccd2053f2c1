-- The checks of a plan, by those of what is lent. Assumes nothing.
use Rattle.numbers.proofs.Prelude.{ℕ, ◌+◌, ◌*◌, ◌/◌, ◌≤◌, leb-true, eqb, ltb, leb, ℤ, length, take, drop, Bool, true, false, ◌&&◌, List, [], ◌≡◌, sym, ap, ◌∙◌}
use Rattle.numbers.{proofs.Tests.{both}, specs.{Reply.{Reply, given, refused, plain, demand, ◌>>◌}, declared.refusal.Refusal.{Refusal}}}
use Rattle.writer.specs.Writer.{every}
use Rattle.builder.{proofs.{Checking.{borders_alone}, Counting.{counted_is, readable_is, values_many}}, specs.{File.{borders_good, counted, readable, known, are_texts}}}
use Rattle.builder.specs.{Yards.{Plan, Lent, plan_of, yards_from, cut_by, values_from, counted_lengths, counts_good, lengths_good}}
use Rattle.header.specs.Header.{is_kind}
use Rattle.build.specs.Checked.{checked, lent_as}

module _ (names : ℕ) (yards : List ℕ) (lengths : ℕ) (good : counts_good names yards lengths ≡ true) where
  abbrev count : ℕ
  count = length yards / 4

  -- what good counts say
  said : (leb count 4096 ≡ true) × (leb names 255 ≡ true) × (leb (names + 1 + names * count) lengths ≡ true)
  unfolding counts_good lengths_good
  said = let valued : Bool = every (eqb names) (values_from yards) in let reach : Bool = leb (names + 1 + names * (length yards / 4)) lengths in
      let one = both (ltb 0 (length yards / 4)) (leb (length yards / 4) 4096 && (leb names 255 && (valued && reach))) good in
      let two = both (leb (length yards / 4) 4096) (leb names 255 && (valued && reach)) one.1 in
      let three = both (leb names 255) (valued && reach) two.1 in (two.0, three.0, (both valued reach three.1).1)

  pub few_names : names ≤ 255
  few_names = leb-true names 255 said.1

  pub few_yards : length yards / 4 ≤ 4096
  few_yards = leb-true (length yards / 4) 4096 said.0

  pub all_lengths : names + 1 + names * (length yards / 4) ≤ lengths
  all_lengths = leb-true (names + 1 + names * (length yards / 4)) lengths said.2

module _ (kind version precision names : ℕ) (yards : List ℕ) (lats lons : List ℤ) (lengths texts pieces : List ℕ) where
  abbrev lent : Lent
  lent = lent_as kind version precision names yards lats lons pieces lengths texts

  abbrev plan : Plan
  plan = plan_of lent

  abbrev later : Reply (Unit {0})
  later = demand (counted plan) (plain 25) >> (demand (readable plan) (plain 26) >> demand (known plan) (plain 27))

  module _ (r : Reply (Unit {0})) (is : r ≡ borders_good (yards_from yards lats lons [] [])) where
    bordered : borders_good plan.yards ≡ r
    unfolding plan_of
    bordered = borders_alone yards lats lons pieces [] (drop (names + 1) (cut_by lengths texts)) [] ∙ sym is

    pub border_bad : (why : Refusal) → r ≡ refused why → refused why ≡ checked plan
    unfolding checked
    border_bad why e = sym (ap (λ (x : Reply (Unit {0})). x >> later) (bordered ∙ e))

    module _ (ok : r ≡ given tt) where
      past_borders : checked plan ≡ later
      unfolding checked
      past_borders = ap (λ (x : Reply (Unit {0})). x >> later) (bordered ∙ ok)

      module _ (b : Bool) (counts : b ≡ counts_good names yards (length lengths)) where
        counted_by : counted plan ≡ b
        counted_by = counted_is lent ∙ sym counts

        pub counts_bad : b ≡ false → (s : Reply (Unit {0})) → s ≡ refused (plain 25) → s ≡ checked plan
        counts_bad n s e = e ∙
            sym (past_borders ∙ ap (λ (x : Bool). demand x (plain 25) >> (demand (readable plan) (plain 26) >> demand (known plan) (plain 27))) (counted_by ∙ n))

        module _ (good : b ≡ true) where
          past_counts : checked plan ≡ (demand (readable plan) (plain 26) >> demand (known plan) (plain 27))
          past_counts = past_borders ∙ ap (λ (x : Bool). demand x (plain 25) >> (demand (readable plan) (plain 26) >> demand (known plan) (plain 27))) (counted_by ∙ good)

          pub counts_hold : counts_good names yards (length lengths) ≡ true
          counts_hold = sym counts ∙ good

          module _ (t : Bool) (tested : t ≡ are_texts (take (names + 1 + names * (length yards / 4)) lengths) texts) where
            readable_by : readable plan ≡ t
            unfolding counted_lengths
            readable_by =
                sym (readable_is lent counts_hold) ∙ (ap (λ (n : ℕ). are_texts (take (names + 1 + names * n) lengths) texts) (values_many yards) ∙ sym tested)

            pub texts_bad : t ≡ false → (s : Reply (Unit {0})) → s ≡ refused (plain 26) → s ≡ checked plan
            texts_bad n s e = e ∙ sym (past_counts ∙ ap (λ (x : Bool). demand x (plain 26) >> demand (known plan) (plain 27)) (readable_by ∙ n))

            module _ (fine : t ≡ true) (k : Bool) (form : k ≡ ((leb 1 precision && leb precision 31) && (ltb version 2 && is_kind kind))) where
              past_texts : checked plan ≡ demand k (plain 27)
              unfolding known plan_of
              past_texts =
                  past_counts ∙ (ap (λ (x : Bool). demand x (plain 26) >> demand (known plan) (plain 27)) (readable_by ∙ fine) ∙ ap (λ (x : Bool). demand x (plain 27)) (sym form))

              pub form_bad : k ≡ false → (s : Reply (Unit {0})) → s ≡ refused (plain 27) → s ≡ checked plan
              form_bad n s e = e ∙ sym (past_texts ∙ ap (λ (x : Bool). demand x (plain 27)) n)

              pub all_good : k ≡ true → given tt ≡ checked plan
              all_good n = sym (past_texts ∙ ap (λ (x : Bool). demand x (plain 27)) n)
