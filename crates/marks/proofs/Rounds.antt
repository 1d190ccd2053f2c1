-- A border that comes round: state by state to its end, back at its first point. Assumes nothing.
use Rattle.numbers.{proofs.Prelude.{ℕ, zero, suc, ◌+◌, ◌<◌, Bool, true, false, List, ◌≡◌, refl, arith}, specs.Answer.{Answer, found, if◌then◌else◌}}
use Rattle.border.specs.{Trace.{Given, reaches, ended, next_point}, declared.{place.Point.{Point}, reader.{Encoding.{Encoding}, Reader.{Reader}}}}
use Rattle.verdict.specs.Edge.{same_point}
use Rattle.marks.specs.Marks.{is_markable, edges_then, edges_from}
use Rattle.marks.proofs.Boxes.{same_point_is}
use Rattle.numbers.specs.Answer as A

module _ (file : List ℕ) (encoding : Encoding) (first : Point) where
  -- so many edges from a state on, each from a state whose mark gives it back
  pub data Round : Reader → ℕ → Type 0 where
    closes : {s : Reader} → next_point file encoding s ≡ found ended → s.point ≡ first → Round s 0
    goes : {s t : Reader} {n : ℕ} → next_point file encoding s ≡ found (reaches t) → is_markable first s ≡ true → Round t n → Round s (suc n)

  -- what a count that is found says, counted on from a number
  pub record Counts (s : Reader) (from most n : ℕ) : Type 0 where
    pub edges : ℕ
    pub round : Round s edges
    pub sum : n ≡ from + edges
    pub few : edges < most

  not_found : {n : ℕ} {C : Type 0} → A.failed ≡ found n → C
  not_found e = let z : ◌≡◌ {A = ℕ} 0 1 = cc in absurd (omega arith)

  one_more : (s : Reader) (from most n : ℕ) (go : Reader → Answer ℕ) (a : Answer Given) → next_point file encoding s ≡ a
      → ((t : Reader) → go t ≡ found n → Counts t (from + 1) most n) → edges_then first s from go a ≡ found n → Counts s from (suc most) n
  unfolding edges_then
  one_more s from most n go (found (reaches t)) e h g = by_test (is_markable first s) refl g where
    by_test : (b : Bool) → is_markable first s ≡ b → (if b then go t else A.failed) ≡ found n → Counts s from (suc most) n
    by_test true m g = let c = h t g in record { edges = suc c.edges; round = goes e m c.round; sum = omega (arith, c.sum); few = omega (arith, c.few) }
    by_test false m g = not_found g
  one_more s from most n go (found ended) e h g = by_test (same_point s.point first) refl g where
    by_test : (b : Bool) → same_point s.point first ≡ b → (if b then found from else A.failed) ≡ found n → Counts s from (suc most) n
    by_test true m g = let z : from ≡ n = cc in
        record { edges = 0; round = closes e (same_point_is s.point first m); sum = omega (arith, z); few = omega arith }
    by_test false m g = not_found g
  one_more s from most n go A.failed e h g = not_found g
  one_more s from most n go (A.refused k) e h g = not_found g

  pub counts : (most : ℕ) (s : Reader) (from n : ℕ) → edges_from most file encoding first s from ≡ found n → Counts s from most n
  unfolding edges_from
  counts zero s from n e = not_found e
  counts (suc most) s from n e = one_more s from most n _ (next_point file encoding s) refl (λ t. counts most t (from + 1) n) e
