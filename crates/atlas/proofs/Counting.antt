-- The loop over a border's edges, turn by turn. Assumes nothing.
use Rattle.std.specs.Prelude.{Err}
use Rattle.numbers.{proofs.Prelude.{ℕ, zero, suc, ◌+◌, ◌-◌, ◌^◌, ◌≤◌, ◌<◌, true, false, List, ◌≡◌, refl, sym, ap, ◌∙◌, arith}, specs.{Answer.{Answer, if◌then◌else◌}, Varint.{told}}}
use Rattle.numbers.specs.declared.varint.Stop.{Stop, TheVariants.{Failed, TooLong, Incomplete, OutOfRange, PastEnd}}
use Rattle.verdict.specs.Edge.{same_point}
use Rattle.border.specs.{Trace.{Given, reaches, ended, next_point}, declared.{place.Point.{Point}, reader.{Encoding.{Encoding}, Reader.{Reader}}}}
use Rattle.marks.specs.Marks.{is_markable, edges_then, edges_from, most_points}
use Rattle.numbers.specs.Answer as A

-- a border that can't be read on has no edges
stopped : (first : Point) (s : Reader) (n : ℕ) (go : Reader → Answer ℕ) (stop : Stop) → A.failed ≡ edges_then first s n go (told (Err stop))
unfolding edges_then
stopped first s n go Failed = refl
stopped first s n go TooLong = refl
stopped first s n go Incomplete = refl
stopped first s n go OutOfRange = refl
stopped first s n go PastEnd = refl

many : 0 + most_points ≡ 2 ^ 24
unfolding most_points
many = refl

module _ (file : List ℕ) (encoding : Encoding) (start : Reader) where
  abbrev all : Answer ℕ
  all = edges_from most_points file encoding start.point start 0

  -- counted on from a state, it comes to what the whole border comes to
  pub record Counting (reader : Reader) (n : ℕ) : Type 0 where
    pub left : ℕ
    pub sum : n + left ≡ 2 ^ 24
    pub same : edges_from left file encoding start.point reader n ≡ all

  pub counting_starts : Counting start 0
  counting_starts = record { left = most_points; sum = many; same = refl }

  module _ {reader : Reader} {n : ℕ} (c : Counting reader n) where
    no_fuel : (left : ℕ) → left ≡ 0 → edges_from left file encoding start.point reader n ≡ all → A.failed ≡ all
    unfolding edges_from
    no_fuel zero e same = same
    no_fuel (suc k) e same = absurd (omega (arith, e))

    pub counting_full : 2 ^ 24 ≤ n → A.failed ≡ all
    counting_full h = no_fuel c.left (omega (arith, h, c.sum)) c.same

    module _ (more : n < 2 ^ 24) where
      abbrev fuel : ℕ
      fuel = c.left - 1

      abbrev onward : Reader → Answer ℕ
      onward t = edges_from fuel file encoding start.point t (n + 1)

      unrolled : (left : ℕ) → 0 < left → edges_from left file encoding start.point reader n
          ≡ edges_then start.point reader n (λ t. edges_from (left - 1) file encoding start.point t (n + 1)) (next_point file encoding reader)
      unfolding edges_from
      unrolled zero h = absurd (omega (arith, h))
      unrolled (suc k) h = let e : suc k - 1 ≡ k = omega arith in rw e

      whole : edges_then start.point reader n onward (next_point file encoding reader) ≡ all
      whole = sym (unrolled c.left (omega (arith, more, c.sum))) ∙ c.same

      pub counting_stops : (stop : Stop) → told (Err stop) ≡ next_point file encoding reader → A.failed ≡ all
      counting_stops stop e = stopped start.point reader n onward stop ∙ ap (edges_then start.point reader n onward) e ∙ whole

      pub counting_ends : A.found ended ≡ next_point file encoding reader → (if same_point reader.point start.point then A.found n else A.failed) ≡ all
      unfolding edges_then
      counting_ends e = ap (edges_then start.point reader n onward) e ∙ whole

      module _ (later : Reader) (is : A.found (reaches later) ≡ next_point file encoding reader) where
        here : (if is_markable start.point reader then onward later else A.failed) ≡ all
        unfolding edges_then
        here = ap (edges_then start.point reader n onward) is ∙ whole

        pub counting_not : is_markable start.point reader ≡ false → A.failed ≡ all
        counting_not m = rw m at here

        pub counting_on : is_markable start.point reader ≡ true → Counting later (n + 1)
        counting_on m = record { left = fuel; sum = omega (arith, more, c.sum); same = rw m at here }
