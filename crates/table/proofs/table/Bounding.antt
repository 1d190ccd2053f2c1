-- What follows the four bounds of a box follows the four numbers. Assumes nothing.
use Rattle.numbers.{proofs.Prelude.{ℕ, ◌≡◌, refl, ◌∙◌}, specs.{Answer.{Answer, found, failed, refused, ◌>>=◌}, Varint.{Numeral}}}
use Rattle.border.specs.declared.place.Point.{Point}
use Rattle.table.specs.{Rest.{held_by}, Table.{bounds_of, bounded_by, steps_by, entry_by, holds}, declared.table.{Bounded.{Bounded}}}

pub then_then : {A B C : Type 0} (m : Answer A) (f : A → Answer B) (g : B → Answer C) → ((m >>= f) >>= g) ≡ (m >>= λ a. f a >>= g)
then_then (found a) f g = refl
then_then failed f g = refl
then_then (refused n) f g = refl

abbrev box : Numeral → Numeral → Numeral → Numeral → Bounded
box a b c d = record { bounds = bounds_of a.value b.value c.value d.value; next = d.place }

module _ (read : ℕ → Answer Numeral) {A : Type 0} (k : Bounded → Answer A) where
  four : (a b c : Numeral) (m : Answer Numeral) → ((m >>= λ d. found (box a b c d)) >>= k) ≡ (m >>= λ d. k (box a b c d))
  four a b c m = then_then m (λ d. found (box a b c d)) k

  three : (a b : Numeral) (m : Answer Numeral) → ((m >>= λ c. read c.place >>= λ d. found (box a b c d)) >>= k) ≡ (m >>= λ c. read c.place >>= λ d. k (box a b c d))
  three a b m = then_then m (λ c. read c.place >>= λ d. found (box a b c d)) k ∙ (λ i. m >>= λ c. four a b c (read c.place) i)

  two : (a : Numeral) (m : Answer Numeral) → ((m >>= λ b. read b.place >>= λ c. read c.place >>= λ d. found (box a b c d)) >>= k)
      ≡ (m >>= λ b. read b.place >>= λ c. read c.place >>= λ d. k (box a b c d))
  two a m = then_then m (λ b. read b.place >>= λ c. read c.place >>= λ d. found (box a b c d)) k ∙ (λ i. m >>= λ b. three a b (read b.place) i)

  bounds_then : (place : ℕ) → (bounded_by read place >>= k) ≡ (read place >>= λ a. read a.place >>= λ b. read b.place >>= λ c. read c.place >>= λ d. k (box a b c d))
  unfolding bounded_by
  bounds_then place = then_then (read place) (λ a. read a.place >>= λ b. read b.place >>= λ c. read c.place >>= λ d. found (box a b c d)) k
      ∙ (λ i. read place >>= λ a. two a (read a.place) i)

module _ (read : ℕ → Answer Numeral) (place : ℕ) where
  pub entry_bounded : (bounded_by read place >>= λ b. steps_by read b.next b.bounds) ≡ entry_by read place
  unfolding entry_by
  entry_bounded = bounds_then read (λ b. steps_by read b.next b.bounds) place

  pub held_bounded : (fix : Point) → (bounded_by read place >>= λ b. found (holds b.bounds fix)) ≡ held_by read place fix
  unfolding held_by
  held_bounded fix = bounds_then read (λ b. found (holds b.bounds fix)) place
