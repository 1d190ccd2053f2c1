-- The marks of a border by its first state. Assumes nothing.
use Rattle.std.specs.{Prelude.{Result}, Result.{result_unwrap_or}}
use Rattle.numbers.proofs.Prelude.{ℕ, zero, suc, ◌+◌, ◌/◌, ◌^◌, ◌≤◌, ltb, Bool, true, false, List, [], ◌∷◌, ◌≡◌, refl, sym, ◌∙◌, arith}
use Rattle.numbers.{proofs.Answers.{found_one}, specs.{Answer.{Answer, if◌then◌else◌}, Varint.{told}, declared.varint.Stop.{Stop}}}
use Rattle.border.specs.{Trace.{Given, reaches, ended, next_point, border_at}, declared.{place.Point.{Point}, reader.{Encoding.{Encoding}, Reader.{Reader}}}}
use Rattle.marks.specs.Marks.{next_or, is_markable, edges_then, edges_from, most_points, few_edges, stretches_of, stretches_from, stretches_in, levels_from, counted, marks_at}
use Rattle.atlas.proofs.Nexts.{none_next}
use Rattle.verdict.specs.Edge.{same_point}
use Rattle.numbers.specs.Answer as A

-- ---- there are few
module _ (first : Point) (s : Reader) (n more : ℕ) (go : Reader → Answer ℕ) (few : (t : Reader) (m : ℕ) → go t ≡ A.found m → m ≤ n + 1 + more) where
  few_then : (a : Answer Given) {m : ℕ} → edges_then first s n go a ≡ A.found m → m ≤ n + suc more
  unfolding edges_then
  few_then (A.found (reaches t)) {m} e = choose (is_markable first s) e where
    choose : (b : Bool) → (if b then go t else A.failed) ≡ A.found m → m ≤ n + suc more
    choose true e = omega (arith, few t m e)
    choose false e = let z : ◌≡◌ {A = ℕ} 0 1 = cc in absurd (omega arith)
  few_then (A.found ended) {m} e = choose (same_point s.point first) e where
    choose : (b : Bool) → (if b then A.found n else A.failed) ≡ A.found m → m ≤ n + suc more
    choose true e = omega (arith, found_one e)
    choose false e = let z : ◌≡◌ {A = ℕ} 0 1 = cc in absurd (omega arith)
  few_then A.failed e = let z : ◌≡◌ {A = ℕ} 0 1 = cc in absurd (omega arith)
  few_then (A.refused k) e = let z : ◌≡◌ {A = ℕ} 0 1 = cc in absurd (omega arith)

edges_few : (more : ℕ) (file : List ℕ) (encoding : Encoding) (first : Point) (s : Reader) (n : ℕ) {m : ℕ} → edges_from more file encoding first s n ≡ A.found m → m ≤ n + more
unfolding edges_from
edges_few zero file encoding first s n e = let z : ◌≡◌ {A = ℕ} 0 1 = cc in absurd (omega arith)
edges_few (suc more) file encoding first s n e =
    few_then first s n more (λ t. edges_from more file encoding first t (n + 1)) (λ t m e. edges_few more file encoding first t (n + 1) e) (next_point file encoding s) e

pub stretches_few : (file : List ℕ) (encoding : Encoding) (s : Reader) → stretches_in file encoding s ≤ 2 ^ 18
unfolding stretches_from stretches_of most_points
stretches_few file encoding s = go (edges_from most_points file encoding s.point s 0) refl where
  go : (a : Answer ℕ) → edges_from most_points file encoding s.point s 0 ≡ a → stretches_from a ≤ 2 ^ 18
  go (A.found n) e = choose (ltb few_edges n) (edges_few most_points file encoding s.point s 0 e) where
    choose : (b : Bool) → n ≤ 0 + 2 ^ 24 → (if b then (n + 127) / 128 else 0) ≤ 2 ^ 18
    choose true h = omega (arith, h)
    choose false h = omega arith
  go A.failed e = omega arith
  go (A.refused k) e = omega arith

module _ (file : List ℕ) (encoding : Encoding) (place : ℕ) {start : Reader} (opens : start ≡ border_at place) where
  abbrev from : Reader → List ℕ
  from s = counted (stretches_in file encoding s) (levels_from (stretches_in file encoding s) file encoding s)

  pub no_course : (next : Result Given Stop) → told next ≡ next_point file encoding start → result_unwrap_or next ended ≡ ended → (xs : List ℕ) → counted 0 xs ≡ marks_at file encoding place
  unfolding marks_at counted
  no_course next e o xs = sym (none_next next [] from o) ∙ (λ i. next_or (e i) [] from) ∙ (λ i. next_or (next_point file encoding (opens i)) [] from)

  pub a_course : (first : Reader) → A.found (reaches first) ≡ next_point file encoding start → {count : ℕ} → count ≡ stretches_in file encoding first
      → counted count (levels_from count file encoding first) ≡ marks_at file encoding place
  unfolding marks_at next_or
  a_course first e c =
      (λ i. counted (c i) (levels_from (c i) file encoding first)) ∙ (λ i. next_or (e i) [] from) ∙ (λ i. next_or (next_point file encoding (opens i)) [] from)
