-- What is summed up over the lists, and what it makes of a builder. Assumes nothing.
use Rattle.numbers.proofs.Prelude.{ℕ, ◌+◌, ℤ, length, List, ◌≡◌, sym, ap, ◌∙◌, arith}
use Rattle.builder.specs.{Borders.{Drawn}, Yards.{Yard}}
use Rattle.add.specs.{declared.afresh.measure.Measured.{Measured}, inner.{Afresh.Afresh.{Lying, Measures}, Growing.Joins.{measured_as, totals_with}}}
use Rattle.draft.specs.{Held.{State.{Stands}, Totals.{Totals, totals_for}}, declared.{held.state.Held.{Held}, summed.sums.Sums.{Sums}}}
use Rattle.draft.specs.inner.Summed.Sums.{SumsUp, sums_of}
use Rattle.numbers.specs.Reply.{Reply}
use Rattle.std.specs.Prelude.{Option, Some, None}

module _ (held : Held) (strings size : ℕ) (boxes : List ℤ) (borders lengths texts places : List ℕ) (s : Option Sums)
    (told : (yards : List Yard) (drawn : Drawn) → Stands yards drawn held.names (held.yards + 1) boxes borders lengths texts → SumsUp yards drawn places s) where
  pub measures_sums : (sums : Sums) → s ≡ Some sums → (r : Reply Held) → r ≡ measured_as held strings (totals_with held size sums)
      → Lying held size boxes borders lengths texts (λ yards drawn. Measures yards drawn held strings places (record { changed = r; records = sums.records }))
  unfolding totals_for
  measures_sums sums is r e yards drawn bytes stands = let up = told yards drawn stands in let it : s ≡ Some (sums_of yards drawn) = up.sums in
      let same : sums ≡ sums_of yards drawn = cc in let t : Totals = totals_for yards drawn in record {
        changed = e ∙ (ap (λ (x : Sums). measured_as held strings (totals_with held size x)) same
            ∙ (ap (λ (n : ℕ). measured_as held strings (record { table = t.table; metadata = t.metadata; bytes = n; yards = held.yards + 1; greatest = t.greatest })) (sym bytes)
            ∙ ap (λ (n : ℕ). measured_as held strings (record { table = t.table; metadata = t.metadata; bytes = length drawn.bytes; yards = n; greatest = t.greatest })) stands.many));
        records = ap (λ (x : Sums). x.records) same;
        begins = up.begins;
      }

  pub measures_broken : s ≡ None → (m : Measured) → Lying held size boxes borders lengths texts (λ yards drawn. Measures yards drawn held strings places m)
  measures_broken none m yards drawn bytes stands = let both : ◌≡◌ {A = Option Sums} None (Some (sums_of yards drawn)) = sym none ∙ (told yards drawn stands).sums in
      let z : ◌≡◌ {A = ℕ} 0 1 = cc in absurd (omega arith)
