-- The three sizes, and sums that must fit. Assumes nothing.
use Rattle.numbers.proofs.Prelude.{ℕ, ◌+◌, ◌%◌, ◌^◌, ◌≤◌, ◌<◌, lt-ltb, le-ltb, length, Bool, List, ◌≡◌, ◌∙◌, arith}
use Rattle.numbers.{proofs.{Replies.{carried, onward, met, unmet}}, specs.{Answer.{Answer, found, failed}, Reply.{given, refused, plain, ◌or_else◌}, Varint.{Numeral, reading_of}}}
use Rattle.numbers.specs.declared.{refusal.Refusal.{Refusal}}
use Rattle.header.proofs.Strings.{given_found, read_within}
use Rattle.header.specs.Header.{size_at, sections_from, sections_at}
use Rattle.numbers.specs.Answer as A

-- the place after a size is at most one past the end
pub size_place : (strict : Bool) (file : List ℕ) (place number : ℕ) {numeral : Numeral} → given numeral ≡ size_at strict file place number → numeral.place ≤ length file + 1
size_place strict file place number e = read_within strict file place (given_found (plain number) (reading_of strict file place) e)

-- ---- the sections by how far the sizes were read
module _ (strict : Bool) (file : List ℕ) (place : ℕ) where
  pub no_first : (why : Refusal) → refused why ≡ size_at strict file place 8 → refused why ≡ sections_at strict file place
  unfolding sections_at
  no_first why e = carried e _

  module _ (first : Numeral) (f : given first ≡ size_at strict file place 8) where
    pub no_second : (why : Refusal) → refused why ≡ size_at strict file first.place 9 → refused why ≡ sections_at strict file place
    unfolding sections_at
    no_second why e = carried e _ ∙ onward f _

    module _ (second : Numeral) (s : given second ≡ size_at strict file first.place 9) where
      abbrev sum : ℕ
      sum = first.value % 2 ^ 32 + second.value % 2 ^ 32

      pub too_far : 2 ^ 32 ≤ sum → refused (plain 13) ≡ sections_at strict file place
      unfolding sections_at
      too_far h = unmet (le-ltb sum (2 ^ 32) h) _ _ ∙ onward s _ ∙ onward f _

      module _ (small : sum < 2 ^ 32) where
        pub no_third : (why : Refusal) → refused why ≡ size_at strict file second.place 10 → refused why ≡ sections_at strict file place
        unfolding sections_at
        no_third why e = carried e _ ∙ met (lt-ltb sum (2 ^ 32) small) _ _ ∙ onward s _ ∙ onward f _

        pub all_three : (third : Numeral) → given third ≡ size_at strict file second.place 10
            → sections_from (length file) third.place (first.value % 2 ^ 32) sum third.value ≡ sections_at strict file place
        unfolding sections_at
        all_three third t = onward t _ ∙ met (lt-ltb sum (2 ^ 32) small) _ _ ∙ onward s _ ∙ onward f _
