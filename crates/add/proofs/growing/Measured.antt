-- What the totals make of a builder's numbers. Assumes nothing.
use Rattle.numbers.{proofs.Prelude.{ℕ, ◌+◌, leb, ℤ, Bool, true, false, ◌≡◌, refl, sym, ap, ◌∙◌}, specs.Reply.{Reply, given, refused, plain}}
use Rattle.builder.specs.File.{up_to}
use Rattle.draft.specs.{Held.{State.{held_with}, Totals.{file_size}}, declared.{held.state.Held.{Held}, summed.sums.Sums.{Sums}}, inner.Summed.Sums.{sized}}
use Rattle.add.specs.inner.Growing.Joins.{measured_as, totals_with}

-- ---- by the sums
module _ (held : Held) (strings size : ℕ) (sums : Sums) (fit : Bool) (e : fit ≡ leb (file_size held.head (sized sums.table sums.metadata (held.bytes + size))) (up_to held.room)) where
  same_size : leb (file_size held.head (totals_with held size sums)) (up_to held.room) ≡ fit
  unfolding file_size
  same_size = sym e

  pub grows_not : fit ≡ false → (r : Reply Held) → r ≡ refused (plain 28) → r ≡ measured_as held strings (totals_with held size sums)
  unfolding measured_as
  grows_not n r is = is ∙ rw (same_size ∙ n) refl

  pub grows_into : fit ≡ true → (greatest : ℤ) → greatest ≡ sums.greatest
      → ◌≡◌ {A = Reply Held} (given (held_with held strings (record { table = sums.table; metadata = sums.metadata; bytes = held.bytes + size; yards = held.yards + 1; greatest = greatest }))) (measured_as held
      strings (totals_with held size sums))
  unfolding measured_as
  grows_into n greatest is =
      ap (λ (z : ℤ). given (held_with held strings (record { table = sums.table; metadata = sums.metadata; bytes = held.bytes + size; yards = held.yards + 1; greatest = z }))) is
      ∙ rw (same_size ∙ n) refl
