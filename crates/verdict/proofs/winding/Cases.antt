-- What a definition by cases gives at the variants that a `let .. else` leaves. Assumes nothing.
use Rattle.numbers.proofs.Prelude.{ℕ, tag_of, [], ◌∷◌, ◌≡◌, refl, OneOf, miss}
use Rattle.verdict.specs.{Step.{meets}, Winding.{across_by}, declared.{edge.Edge.{Edge}, step.{Tally.{Tally}, Verdict.TheVariants.{OnBorderSegment}}}}
use Rattle.border.specs.declared.place.Point.{Point}
use Rattle.verdict.specs.contracts.edge.Edge as Edge'
use Rattle.verdict.specs.declared.edge.Edge.TheVariants as E

-- a straight edge
pub straight_across : (fix : Point) (edge : Edge) (q : ℕ) (tally : Tally) → OneOf (1 ∷ 2 ∷ []) (tag_of Edge'.the_type edge) → meets OnBorderSegment ≡ across_by fix edge q tally
unfolding across_by
straight_across fix (E.Sloped line) q tally o = absurd (miss (1 ∷ 2 ∷ []) 0 tt o)
straight_across fix (E.EqualLongitude lon) q tally o = refl
straight_across fix (E.EqualLatitude lat) q tally o = refl
