-- Marks along a border, as document 04 has them: for each 128 edges the box of the stretch's points, its first point, and what a reader needs to go on from there; behind them the same for each
-- sixteen of these stretches.
use Rattle.std.specs.Prelude.{if◌then◌else◌, ◌+◌, ◌/◌, ◌%◌, ◌^◌, ◌&&◌, ◌∷◌, ◌++◌}
use Rattle.numbers.specs.{Answer.{Answer, found}, Prelude.{ℕ, zero, suc, ltb, ℤ, mag, Bool, true, not, List, [], w32, of_z}}
use Rattle.border.specs.{Box.{Box, grown}, Trace.{Given, reaches, ended, next_point, border_at}, declared.{place.Point.{Point}, reader.{Encoding.{Encoding}, Reader.{Reader}, Run.{Run}}}}
use Rattle.border.specs.declared.reader.Run.TheVariants.{Idle, Forward, Backward}
use Rattle.verdict.specs.Edge.{same_point}
use Rattle.numbers.specs.Answer as A

-- on from the state at the next point; where there is none, this
unfoldable pub next_or : {A : Type 0} → Answer Given → A → (Reader → A) → A
next_or (found (reaches s)) none go = go s
next_or (found ended) none go = none
next_or A.failed none go = none
next_or (A.refused n) none go = none

-- ---- a stretch
-- the box of its points, and the state at the last
pub record Span : Type 0 where
  pub box : Box
  pub last : Reader

abbrev pub spanned : Box → Reader → Span
spanned box s = record { box = box; last = s }

-- over so many edges from a state, or up to the border's end, with a box of what came before
unfoldable pub span_over : ℕ → List ℕ → Encoding → Reader → Box → Span
span_over zero file encoding s box = spanned box s
span_over (suc more) file encoding s box = next_or (next_point file encoding s) (spanned box s) (λ t. span_over more file encoding t (grown box t.point))

-- from a state's own point on
abbrev pub span_from : ℕ → List ℕ → Encoding → Reader → Span
span_from edges file encoding s = span_over edges file encoding s (record { low = s.point; high = s.point })

-- ---- its mark
-- a coordinate as a word: its 32 bits
abbrev pub word_of : ℤ → ℕ
word_of z = of_z w32 z

-- a number of a state as a word; those of a border that has marks fit
abbrev pub low : ℕ → ℕ
low n = n % 2 ^ 32

-- a run: 0 for none, 1 for one that is read forward, 2 backward; its next place and its end
unfoldable pub kind_of : Run → ℕ
kind_of Idle = 0
kind_of (Forward next end) = 1
kind_of (Backward next end) = 2

unfoldable pub next_of : Run → ℕ
next_of Idle = 0
next_of (Forward next end) = next
next_of (Backward next end) = next

unfoldable pub end_of : Run → ℕ
end_of Idle = 0
end_of (Forward next end) = end
end_of (Backward next end) = end

-- eleven words: the box's lower corner and upper corner, the first point, the place, the moves left, and the run
abbrev pub mark_of : Reader → Box → List ℕ
mark_of s box =
    word_of box.low.lat.0 ∷ word_of box.low.lon.0 ∷ word_of box.high.lat.0 ∷ word_of box.high.lon.0
    ∷ word_of s.point.lat.0 ∷ word_of s.point.lon.0
    ∷ low s.place ∷ low s.moves ∷ kind_of s.run ∷ low (next_of s.run) ∷ low (end_of s.run) ∷ []

-- of so many stretches, each of so many edges
unfoldable pub marks_from : ℕ → ℕ → List ℕ → Encoding → Reader → List ℕ
marks_from edges zero file encoding s = []
marks_from edges (suc more) file encoding s =
    let span = span_from edges file encoding s in
    mark_of s span.box ++ marks_from edges more file encoding span.last

-- ---- which borders have marks
abbrev pub is_short : ℕ → Bool
is_short n = ltb n (2 ^ 32)

abbrev pub is_short_run : Run → Bool
is_short_run Idle = true
is_short_run (Forward next end) = is_short next && is_short end
is_short_run (Backward next end) = is_short next && is_short end

abbrev pub is_narrow : Point → Bool
is_narrow p = ltb (mag p.lat.0) (2 ^ 31) && ltb (mag p.lon.0) (2 ^ 31)

-- a state between the first point and the closing one, whose numbers are words: its mark gives it back
unfoldable pub is_markable : Point → Reader → Bool
is_markable first s =
    s.begun && (not s.closed && (same_point s.first first && (is_short s.place && (is_short s.moves && (is_short_run s.run && is_narrow s.point)))))

-- what one more turn of the count comes to
unfoldable pub edges_then : Point → Reader → ℕ → (Reader → Answer ℕ) → Answer Given → Answer ℕ
edges_then first s n go (found (reaches t)) = if is_markable first s then go t else A.failed
edges_then first s n go (found ended) = if same_point s.point first then found n else A.failed
edges_then first s n go A.failed = A.failed
edges_then first s n go (A.refused k) = A.failed

-- How many edges there are from a state on, fewer than so many, counted on from a number: the border reads without fault or refusal, closes, and is then back at its first point.
unfoldable pub edges_from : ℕ → List ℕ → Encoding → Point → Reader → ℕ → Answer ℕ
edges_from zero file encoding first s n = A.failed
edges_from (suc more) file encoding first s n = edges_then first s n (λ t. edges_from more file encoding first t (n + 1)) (next_point file encoding s)

-- how many edges a stretch has; the last one may have fewer
unfoldable pub stretch_edges : ℕ
stretch_edges = 128

unfoldable pub stretches_of : ℕ → ℕ
stretches_of edges = (edges + 127) / 128

-- how many stretches a group has, and how many edges; the last one may have fewer
unfoldable pub group_wide : ℕ
group_wide = 16

unfoldable pub group_edges : ℕ
group_edges = 2048

unfoldable pub groups_of : ℕ → ℕ
groups_of stretches = (stretches + 15) / 16

-- a border has marks with more edges than this, and at most so many points
unfoldable pub few_edges : ℕ
few_edges = 256

unfoldable pub most_points : ℕ
most_points = 2 ^ 24

-- how many stretches a border with this first state has that has marks, else 0
unfoldable pub stretches_from : Answer ℕ → ℕ
stretches_from (found n) = if ltb few_edges n then stretches_of n else 0
stretches_from A.failed = 0
stretches_from (A.refused k) = 0

abbrev pub stretches_in : List ℕ → Encoding → Reader → ℕ
stretches_in file encoding s = stretches_from (edges_from most_points file encoding s.point s 0)

-- the marks of so many stretches, and behind them those of their groups
abbrev pub levels_from : ℕ → List ℕ → Encoding → Reader → List ℕ
levels_from n file encoding s = marks_from stretch_edges n file encoding s ++ marks_from group_edges (groups_of n) file encoding s

-- how many stretches, and all marks; nothing for none
unfoldable pub counted : ℕ → List ℕ → List ℕ
counted zero marks = []
counted (suc n) marks = suc n ∷ marks

-- The marks of the border at a place.
unfoldable pub marks_at : List ℕ → Encoding → ℕ → List ℕ
marks_at file encoding place =
    next_or (next_point file encoding (border_at place)) [] (λ s. counted (stretches_in file encoding s) (levels_from (stretches_in file encoding s) file encoding s))
