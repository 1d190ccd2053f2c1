-- The distance that a judgement by marks begins with is no more than the least one. Assumes nothing.
use Rattle.numbers.{proofs.Prelude.{ℕ, zero, suc, ◌+◌, ◌≤◌, ltb-true, ltb, Bool, true, false, List, ◌≡◌, refl, arith}, specs.Answer.{if◌then◌else◌}}
use Rattle.border.specs.declared.place.Point.{Point}
use Rattle.verdict.specs.{Distance.{to_vertex}, Step.{Step, found, meets}}
use Rattle.marks.specs.{Judging.{count_in, nearer_by, nearest_of, near_in}, Words.{start_in}}
use Rattle.verdict.specs.Step as S

nearer_less : (m : Step ℕ) (near : ℕ) → nearer_by m near ≤ near
unfolding nearer_by
nearer_less (found d) near = go (ltb d near) refl where
  go : (b : Bool) → ltb d near ≡ b → (if b then d + 1 else near) ≤ near
  go true e = let h = ltb-true d near e in omega (arith, h)
  go false e = omega arith
nearer_less (meets v) near = omega arith
nearer_less (S.refused n) near = omega arith

nearest_less : (words : List ℕ) (fix : Point) (n at near : ℕ) → nearest_of words fix n at near ≤ near
unfolding nearest_of
nearest_less words fix zero at near = omega arith
nearest_less words fix (suc more) at near = let later = nearest_less words fix more (at + 11) (nearer_by (to_vertex (start_in words at) fix) near) in
    let now = nearer_less (to_vertex (start_in words at) fix) near in omega (arith, later, now)

pub near_less : (words : List ℕ) (at : ℕ) (fix : Point) (asked : Bool) (least : ℕ) → near_in words at fix asked least ≤ least
near_less words at fix true least = nearest_less words fix (count_in words at) (at + 1) least
near_less words at fix false least = omega arith
