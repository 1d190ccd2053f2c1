-- A border that is judged by its marks is judged as by all its points, at every location, with the distance too. Assumes nothing.
use Rattle.numbers.proofs.Prelude.{ℕ, zero, suc, ◌+◌, ◌-◌, ◌*◌, ◌/◌, ◌≤◌, ◌<◌, lt-ltb, le-leb, ltb-true, ltb, pos, length, length-append, Bool, true, false, List, [], ◌∷◌, ◌++◌, ◌≡◌, refl, sym, ap}
use Rattle.numbers.{proofs.{Prelude.{subst, ◌∙◌, arith}, Tests.{differ}}, specs.Answer.{Answer, found, if◌then◌else◌}}
use Rattle.border.{proofs.Trace.{point_trace}, specs.{Trace.{Given, reaches, ended, next_point, trace_of, border_at}, declared.place.{FixedLat.{FixedLat}, FixedLon.{FixedLon}, Point.{Point}}}}
use Rattle.border.specs.declared.reader.{Encoding.{Encoding}, Reader.{Reader}}
use Rattle.verdict.{proofs.NearerStart.{Below, nearer_start}, specs.{Edge.{same_point}, Step.{Step, meets, ◌>>=◌}, Verdict.{Judgement, none, after, along, passing, closed_at, then_on, judge, judged_at}}}
use Rattle.verdict.specs.declared.step.{Tally.{Tally}, Verdict.TheVariants.{OnBorderVertex}}
use Rattle.marks.specs.{Judging.{groups_by, is_inside, judged_from, near_in, is_below, judged_by}, Marks.{next_or, span_from, mark_of, marks_from, is_narrow, edges_from, stretch_edges, stretches_of}}
use Rattle.marks.specs.{Marks.{group_edges, groups_of, few_edges, most_points, stretches_from, stretches_in, levels_from, counted, marks_at}, Words.{word_at, mark_wide, start_in}}
use Rattle.marks.proofs.{Marked.{marks_length, marked_so, coarse_judges}, Nearest.{near_less}, Parts.{then_through, judges_all}, ReadBack.{At, at_left, at_right, start_back}}
use Rattle.marks.proofs.Rounds.{Round, counts}
use Rattle.numbers.specs.Answer as A
use Rattle.verdict.specs.Verdict as J
use Rattle.verdict.specs.Step as S

-- ---- the numbers
record Numbers (m : ℕ) : Type 0 where
  edges : 0 < m
  count : 0 < stretches_of m
  few : m ≤ stretches_of m * stretch_edges
  full : stretches_of m * stretch_edges < m + stretch_edges
  all : m ≤ groups_of (stretches_of m) * group_edges
  room : 2 * (groups_of (stretches_of m) * group_edges) < 2147483647

numbers : (m : ℕ) → m < most_points → ltb few_edges m ≡ true → Numbers m
unfolding stretches_of stretch_edges groups_of group_edges few_edges most_points
numbers m h g = let big = ltb-true 256 m g in
    record { edges = omega (arith, big); count = omega (arith, big); few = omega (arith, big); full = omega (arith, big); all = omega arith; room = omega (arith, h) }

module _ (file : List ℕ) (encoding : Encoding) (border : ℕ) (words : List ℕ) (at : ℕ) (lat : FixedLat) (lon : FixedLon) (asked : Bool) (least : ℕ) where
  abbrev fix : Point
  fix = record { lat = lat; lon = lon }

  abbrev start : Tally
  start = record { winding = pos 0; least = least }

  begun : (p : Point) (t u : Tally) → passing fix asked none p t ≡ S.found u → u ≡ t
  unfolding passing along
  begun p t u e = go (same_point p fix) e where
    go : (b : Bool) → (if b then meets OnBorderVertex else S.found t) ≡ S.found u → u ≡ t
    go true e = let z : ◌≡◌ {A = ℕ} 0 1 = cc in absurd (omega arith)
    go false e = cc

  -- the whole border, from its first point on
  whole : (s : Reader) → next_point file encoding (border_at border) ≡ found (reaches s)
      → then_on asked least (passing fix asked none s.point start) (λ u. judge fix asked (after s.point) u (trace_of file encoding s)) ≡ judged_at file encoding border lat lon asked least
  unfolding judged_at judge
  whole s e = ap (judge fix asked none start) (point_trace file encoding (border_at border) s (sym e))

  module _ (s : Reader) (is : next_point file encoding (border_at border) ≡ found (reaches s)) (m : ℕ) (n : Numbers m) (round : Round file encoding s.point s m) where
    abbrev marks : List ℕ
    marks = marks_from stretch_edges (stretches_of m) file encoding s

    abbrev groups : List ℕ
    groups = marks_from group_edges (groups_of (stretches_of m)) file encoding s

    module _ (here : At words at (stretches_of m ∷ (marks ++ groups))) (fits : at + suc (length (marks ++ groups)) ≤ length words) where
      abbrev count : ℕ
      count = stretches_of m

      abbrev behind : ℕ
      behind = at + 1 + count * mark_wide

      first_word : word_at words at ≡ count
      first_word = let e : at ≡ at + 0 = omega arith in ap (λ (k : ℕ). word_at words k) e ∙ here 0 (omega arith)

      later : At words (at + 1) (marks ++ groups)
      later = at_right words at (count ∷ []) (marks ++ groups) here

      fine : At words (at + 1) marks
      fine = at_left words (at + 1) marks groups later

      coarse : At words behind groups
      coarse = subst (λ (k : ℕ). At words (at + 1 + k) groups) (marks_length stretch_edges count file encoding s) (at_right words (at + 1) marks groups later)

      inside : is_inside words at ≡ true
      inside = let long = marks_length stretch_edges count file encoding s in let wide = marks_length group_edges (groups_of count) file encoding s in
          let more : at < length words = omega (arith, fits) in
          let few : count + groups_of count ≤ (length words - (at + 1)) / 11 = omega (arith, fits, long, wide, length-append marks groups) in
          rw (first_word, lt-ltb at (length words) more, lt-ltb 0 count n.count, le-leb (count + groups_of count) ((length words - (at + 1)) / 11) few)

      own_narrow : is_narrow s.point ≡ true
      own_narrow = (marked_so file encoding s.point s m round n.edges).narrow

      first_so : (k : ℕ) → 0 < k → At words (at + 1) (marks_from stretch_edges k file encoding s) → start_in words (at + 1) ≡ s.point
      unfolding marks_from
      first_so zero h there = absurd (omega (arith, h))
      first_so (suc more) h there = let box = (span_from stretch_edges file encoding s).box in
          start_back words (at + 1) s box (at_left words (at + 1) (mark_of s box) (marks_from stretch_edges more file encoding (span_from stretch_edges file encoding s).last) there) own_narrow

      -- what the marks come to behind the first point, and what the points do
      abbrev by_marks : Tally → Step Tally
      by_marks = groups_by file encoding fix asked words s.point (groups_of count) behind count (at + 1)

      abbrev by_points : Tally → Judgement
      by_points u = judge fix asked (after s.point) u (trace_of file encoding s)

      by_parts : judged_from file encoding words at fix asked least ≡ then_on asked least (passing fix asked none s.point start >>= by_marks) (closed_at asked)
      unfolding judged_from
      by_parts = rw (inside, first_so count n.count fine, first_word)

      from_start : then_on asked least (by_marks start) (closed_at asked) ≡ by_points start
      from_start =
          judges_all file encoding fix asked s.point (groups_of count * group_edges) s m by_marks round n.all
          (coarse_judges file encoding s.point own_narrow fix asked words (groups_of count) count s m behind (at + 1) refl round n.few n.full coarse fine) start (omega (arith, n.room))

      by_marks_lem : judged_from file encoding words at fix asked least ≡ judged_at file encoding border lat lon asked least
      by_marks_lem =
          by_parts ∙ then_through asked least (passing fix asked none s.point start) by_marks (closed_at asked) by_points
          (λ u e. subst (λ (t : Tally). then_on asked least (by_marks t) (closed_at asked) ≡ by_points t) (sym (begun s.point start u e)) from_start) ∙ whole s is

  nothing : {C : Type 0} → 0 < length {A = ℕ} [] → C
  nothing h = absurd (omega (arith, h))

  counted_some : (k : ℕ) (xs : List ℕ) → 0 < k → counted k xs ≡ k ∷ xs
  unfolding counted
  counted_some zero xs h = absurd (omega (arith, h))
  counted_some (suc k) xs h = refl

  counted_none : {C : Type 0} (xs : List ℕ) → 0 < length (counted 0 xs) → C
  unfolding counted
  counted_none xs h = nothing h

  abbrev Goal : List ℕ → Type 0
  Goal marks = 0 < length marks → At words at marks → at + length marks ≤ length words → judged_from file encoding words at fix asked least ≡ judged_at file encoding border lat lon asked least

  module _ (s : Reader) (is : next_point file encoding (border_at border) ≡ found (reaches s)) where
    by_count : (a : Answer ℕ) → edges_from most_points file encoding s.point s 0 ≡ a → Goal (counted (stretches_from a) (levels_from (stretches_from a) file encoding s))
    unfolding stretches_from
    by_count (found m) e = by_test (ltb few_edges m) refl where
      by_test : (b : Bool) → ltb few_edges m ≡ b → Goal (counted (if b then stretches_of m else 0) (levels_from (if b then stretches_of m else 0) file encoding s))
      by_test true g some here fits = let c = counts file encoding s.point most_points s 0 m e in let same : c.edges ≡ m = omega (arith, c.sum) in
          let n = numbers m (subst (λ (k : ℕ). k < most_points) same c.few) g in
          let list = counted_some (stretches_of m) (levels_from (stretches_of m) file encoding s) n.count in
          by_marks_lem s is m n (subst (Round file encoding s.point s) same c.round) (subst (At words at) list here) (subst (λ (xs : List ℕ). at + length xs ≤ length words) list fits)
      by_test false g some here fits = counted_none (levels_from 0 file encoding s) some
    by_count A.failed e = λ some here fits. counted_none (levels_from 0 file encoding s) some
    by_count (A.refused k) e = λ some here fits. counted_none (levels_from 0 file encoding s) some

  by_first : (a : Answer Given) → next_point file encoding (border_at border) ≡ a
      → Goal (next_or a [] (λ s. counted (stretches_in file encoding s) (levels_from (stretches_in file encoding s) file encoding s)))
  unfolding next_or
  by_first (found (reaches s)) e = by_count s e (edges_from most_points file encoding s.point s 0) refl
  by_first (found ended) e = λ some here fits. nothing some
  by_first A.failed e = λ some here fits. nothing some
  by_first (A.refused k) e = λ some here fits. nothing some

  -- Where the marks of a border stand in the words, the judgement by them from any least distance is the border's own.
  from_is_plain : 0 < length (marks_at file encoding border) → At words at (marks_at file encoding border) → at + length (marks_at file encoding border) ≤ length words
      → judged_from file encoding words at fix asked least ≡ judged_at file encoding border lat lon asked least
  unfolding marks_at
  from_is_plain = by_first (next_point file encoding (border_at border)) refl

-- a verdict that is below
below_so : (near : ℕ) (j : Judgement) → is_below near j ≡ true → Below near j
unfolding is_below
below_so near (J.reached v d) e = ltb-true d near e
below_so near (J.failed d) e = differ e
below_so near (J.refused n) e = differ e

-- Where the marks of a border stand in the words, the judgement by them is the border's own, with the distance and without it.
pub marked_is_plain : (file : List ℕ) (encoding : Encoding) (border : ℕ) (words : List ℕ) (at : ℕ) (lat : FixedLat) (lon : FixedLon) (asked : Bool) (least : ℕ)
    → 0 < length (marks_at file encoding border) → At words at (marks_at file encoding border) → at + length (marks_at file encoding border) ≤ length words
    → judged_by file encoding words at lat lon asked least ≡ judged_at file encoding border lat lon asked least
unfolding judged_by
marked_is_plain file encoding border words at lat lon asked least some here fits = by_test (is_below near (judged near)) refl where
  fix : Point
  fix = record { lat = lat; lon = lon }

  near : ℕ
  near = near_in words at fix asked least

  judged : ℕ → Judgement
  judged = judged_from file encoding words at fix asked

  plain : (d : ℕ) → judged d ≡ judged_at file encoding border lat lon asked d
  plain d = from_is_plain file encoding border words at lat lon asked d some here fits

  starts : (asked : Bool) → Below (near_in words at fix asked least) (judged_at file encoding border lat lon asked (near_in words at fix asked least))
      → judged_at file encoding border lat lon asked (near_in words at fix asked least) ≡ judged_at file encoding border lat lon asked least
  starts true low = sym (nearer_start file encoding border lat lon (near_in words at fix true least) least (near_less words at fix true least) low)
  starts false low = refl

  by_test : (b : Bool) → is_below near (judged near) ≡ b → (if b then judged near else judged least) ≡ judged_at file encoding border lat lon asked least
  by_test true e = plain near ∙ starts asked (subst (Below near) (plain near) (below_so near (judged near) e))
  by_test false e = plain least
