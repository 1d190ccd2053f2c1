-- The judgement by marks that stand in words is the judgement by the points of the border that they are of. Assumes nothing.
use Rattle.numbers.proofs.Prelude.{ℕ, zero, suc, ◌+◌, ◌-◌, ◌*◌, ◌≤◌, ◌<◌, min, ltb-true, ltb-false, ltb, length, length-append, Bool, true, false, List, ◌≡◌, refl, sym, ap, subst, ◌∙◌, zero-mul}
use Rattle.numbers.proofs.Prelude.{suc-mul, arith}
use Rattle.border.specs.{Box.{Box, grown}, declared.{place.Point.{Point}, reader.{Encoding.{Encoding}, Reader.{Reader}}}}
use Rattle.verdict.specs.{Step.{Step}, declared.step.Tally.{Tally}}
use Rattle.marks.specs.Judging.{stretch_by, end_in, points_by, stretches_by, groups_by}
use Rattle.marks.specs.{Marks.{next_or, span_over, span_from, mark_of, marks_from, is_narrow, stretch_edges, group_wide, group_edges, groups_of}, Words.{mark_wide}}
use Rattle.marks.proofs.{Groups.{last_over, last_none, last_both, last_round, last_ended, marks_both}, Parts.{Judges, judges_none, judges_both, judges_ended}}
use Rattle.marks.proofs.{ReadBack.{At, at_left, at_right, Narrow, grown_narrow, Markable, markable, low_back, high_back, start_back, state_back}, Rounds.{Round, closes, goes}}
use Rattle.marks.proofs.Stretches.{points_judge, stretch_judges}

-- how many words the marks of so many stretches have
pub marks_length : (edges more : ℕ) (file : List ℕ) (encoding : Encoding) (s : Reader) → length (marks_from edges more file encoding s) ≡ more * 11
unfolding marks_from
marks_length edges zero file encoding s = sym (zero-mul 11)
marks_length edges (suc more) file encoding s = let span = span_from edges file encoding s in
    omega (arith, marks_length edges more file encoding span.last, length-append (mark_of s span.box) (marks_from edges more file encoding span.last), suc-mul more 11)

-- ---- the numbers of a group
record Grouped (more left n few : ℕ) : Type 0 where
  some : 0 < n
  full : few * stretch_edges < n + stretch_edges
  split : few + (left - few) ≡ left
  most : few * stretch_edges ≤ group_edges
  next : more ≡ groups_of (left - few)
  less : n - group_edges ≤ (left - few) * stretch_edges
  fuller : (left - few) * stretch_edges < n - group_edges + stretch_edges
  ends : more ≡ 0 → n - group_edges ≡ 0

grouped : (more left n : ℕ) → suc more ≡ groups_of left → n ≤ left * stretch_edges → left * stretch_edges < n + stretch_edges → Grouped more left n (min group_wide left)
unfolding groups_of group_wide stretch_edges group_edges
grouped more left n g few full = record {
  some = omega (arith, g, full);
  full = omega (arith, full);
  split = omega arith;
  most = omega arith;
  next = omega (arith, g);
  less = omega (arith, few);
  fuller = omega (arith, full);
  ends = λ z. omega (arith, z, g, few);
}

-- a group has all its stretches, or it is the last
group_whole : {C : Type 0} (left n : ℕ) → n ≤ left * stretch_edges → (min group_wide left * stretch_edges ≡ group_edges → C) → (n ≤ min group_wide left * stretch_edges → C) → C
unfolding group_wide stretch_edges group_edges
group_whole {C} left n few full last = go (ltb left 16) refl where
  go : (b : Bool) → ltb left 16 ≡ b → C
  go true e = last (omega (arith, ltb-true left 16 e, few))
  go false e = full (omega (arith, ltb-false left 16 e))

some_edges : 0 < stretch_edges
unfolding stretch_edges
some_edges = omega arith

more_edges : 0 < group_edges
unfolding group_edges
more_edges = omega arith

module _ (file : List ℕ) (encoding : Encoding) (first : Point) where
  pub marked_so : (s : Reader) (n : ℕ) → Round file encoding first s n → 0 < n → Markable first s
  marked_so s zero r h = absurd (omega (arith, h))
  marked_so s (suc n) (goes e m r) h = markable first s m

module _ (file : List ℕ) (encoding : Encoding) (first : Point) (narrow : is_narrow first ≡ true) where
  round_narrow : (s : Reader) (n : ℕ) → Round file encoding first s n → is_narrow s.point ≡ true
  round_narrow s n (closes e p) = ap is_narrow p ∙ narrow
  round_narrow s n (goes e m r) = (markable first s m).narrow

  span_narrow : (edges : ℕ) (s : Reader) (n : ℕ) (box : Box) → Round file encoding first s n → Narrow box → Narrow (span_over edges file encoding s box).box
  unfolding span_over next_or
  span_narrow zero s n box r h = h
  span_narrow (suc more) s zero box (closes e p) h = rw e h
  span_narrow (suc more) s (suc n) box (goes {t = t} e m r) h = rw e (span_narrow more t n (grown box t.point) r (grown_narrow box t.point h (round_narrow t n r)))

  at_first : (s : Reader) (n : ℕ) → Round file encoding first s n → n ≡ 0 → s.point ≡ first
  at_first s zero (closes e p) h = p
  at_first s (suc n) r h = absurd (omega (arith, h))

  module _ (fix : Point) (asked : Bool) (words : List ℕ) where
    abbrev last : ℕ → Reader → Reader
    last = last_over file encoding

    abbrev Judged : ℕ → Reader → (Tally → Step Tally) → Type 0
    Judged = Judges file encoding fix asked

    -- where a stretch leads that has so many behind it
    end_so : (edges more : ℕ) (s : Reader) (n at : ℕ) (to : Point) → Round file encoding first s n → At words (at + mark_wide) (marks_from edges more file encoding s) → (more ≡ 0 → to ≡ s.point)
        → end_in words to more at ≡ s.point
    unfolding end_in marks_from
    end_so edges zero s n at to r there h = h refl
    end_so edges (suc more) s n at to r there h =
        start_back words (at + mark_wide) s (span_from edges file encoding s).box (at_left words (at + mark_wide) (mark_of s (span_from edges file encoding s).box)
        (marks_from edges more file encoding (span_from edges file encoding s).last) there) (round_narrow s n r)

    module _ (s : Reader) (n at : ℕ) (r : Round file encoding first s n) (some : 0 < n) where
      -- the stretch of one mark, by what is inside
      mark_judges : (edges : ℕ) → 0 < edges → At words at (mark_of s (span_from edges file encoding s).box) → (to : Point) → to ≡ (last edges s).point
          → (inside : Tally → Step Tally) → Judged edges s inside → Judged edges s (stretch_by file encoding fix asked words first at to inside)
      unfolding stretch_by
      mark_judges edges more here to leads inside j t = let box = (span_from edges file encoding s).box in let own = round_narrow s n r in
          let fits = span_narrow edges s n (record { low = s.point; high = s.point }) r (record { low = own; high = own }) in
          rw (low_back words at s box here fits, high_back words at s box here fits, start_back words at s box here own, leads)
          (stretch_judges file encoding fix asked first edges more s n r inside j t)

      -- inside a stretch are its points
      points_so : At words at (mark_of s (span_from stretch_edges file encoding s).box) → Judged stretch_edges s (points_by file encoding fix asked words first at)
      points_so here t = let box = (span_from stretch_edges file encoding s).box in
          rw (state_back words at s box here first (marked_so file encoding first s n r some), start_back words at s box here (round_narrow s n r))
          (points_judge file encoding fix asked first stretch_edges s n r t)

    -- Marks of so many stretches, none of which is behind the border's end.
    fine_judges : (k : ℕ) (s : Reader) (n at : ℕ) (to : Point) → Round file encoding first s n → k * stretch_edges < n + stretch_edges → At words at (marks_from stretch_edges k file encoding s)
        → to ≡ (last (k * stretch_edges) s).point → Judged (k * stretch_edges) s (stretches_by file encoding fix asked words first k at to)
    unfolding stretches_by marks_from
    fine_judges zero s n at to r full here leads = rw (zero-mul stretch_edges) (judges_none file encoding fix asked s)
    fine_judges (suc more) s n at to r full here leads = let box = (span_from stretch_edges file encoding s).box in let t = last stretch_edges s in
        let mark = mark_of s box in let later = marks_from stretch_edges more file encoding t in
        let many : suc more * stretch_edges ≡ stretch_edges + more * stretch_edges = omega (arith, suc-mul more stretch_edges) in
        let some : 0 < n = omega (arith, full, many) in let behind = last_round file encoding first stretch_edges s n r in
        let there : At words (at + mark_wide) later = at_right words at mark later here in
        let on : to ≡ (last (more * stretch_edges) t).point = leads ∙ ap (λ (k : ℕ). (last k s).point) many ∙ ap (λ (u : Reader). u.point) (last_both file
        encoding stretch_edges (more * stretch_edges) s) in
        let ends = end_so stretch_edges more t (n - stretch_edges) at to behind there (λ z. on ∙ no_more t more z) in
        subst (λ (k : ℕ). Judged k s (stretches_by file encoding fix asked words first (suc more) at to)) (sym many) (judges_both file encoding fix asked
        stretch_edges (more * stretch_edges) s _ (stretches_by file encoding fix asked words first more (at + mark_wide) to) (mark_judges s n at r some stretch_edges
        some_edges (at_left words at mark later here) (end_in words to more at) ends (points_by file encoding fix asked words first at) (points_so s n at r some
        (at_left words at mark later here))) (fine_judges more t (n - stretch_edges) (at + mark_wide) to behind (omega (arith, full, many)) there on)) where
          no_more : (t : Reader) (more : ℕ) → more ≡ 0 → (last (more * stretch_edges) t).point ≡ t.point
          no_more t more z = ap (λ (k : ℕ). (last k t).point) (ap (λ (k : ℕ). k * stretch_edges) z ∙ zero-mul stretch_edges) ∙ ap (λ (u : Reader). u.point) (last_none file encoding t)

    -- the groups of all stretches
    pub coarse_judges : (g left : ℕ) (s : Reader) (n at fine : ℕ) → g ≡ groups_of left → Round file encoding first s n → n ≤ left * stretch_edges → left * stretch_edges < n + stretch_edges
        → At words at (marks_from group_edges g file encoding s) → At words fine (marks_from stretch_edges left file encoding s)
        → Judged (g * group_edges) s (groups_by file encoding fix asked words first g at left fine)
    unfolding groups_by marks_from
    coarse_judges zero left s n at fine g r few full here inside = rw (zero-mul group_edges) (judges_none file encoding fix asked s)
    coarse_judges (suc more) left s n at fine g r few full here inside = let k = min group_wide left in let number = grouped more left n g few full in
        let t = last group_edges s in let mark = mark_of s (span_from group_edges file encoding s).box in let later = marks_from group_edges more file encoding t in
        let behind = last_round file encoding first group_edges s n r in let there : At words (at + mark_wide) later = at_right words at mark later here in
        let to = end_in words first more at in let many : suc more * group_edges ≡ group_edges + more * group_edges = omega (arith, suc-mul more group_edges) in
        let same : last group_edges s ≡ last (k * stretch_edges) s = group_whole left n few (λ e. ap (λ (edges : ℕ). last edges s) (sym e)) (λ h. last_ended file
        encoding first (k * stretch_edges) group_edges s n r h number.most) in
        let leads = end_so group_edges more t (n - group_edges) at first behind there (λ z. sym (at_first t (n - group_edges) behind (number.ends z))) in
        let parted = ap (λ (m : ℕ). marks_from stretch_edges m file encoding s) (sym number.split) ∙ marks_both file encoding stretch_edges k (left - k) s in
        let now = marks_from stretch_edges k file encoding s in let after = marks_from stretch_edges (left - k) file encoding (last (k * stretch_edges) s) in
        let stands = subst (At words fine) parted inside in
        let own = fine_judges k s n fine to r number.full (at_left words fine now after stands) (leads ∙ ap (λ (u : Reader). u.point) same) in
        let whole : Judged group_edges s (stretches_by file encoding fix asked words first k fine to) = group_whole left n few
        (λ e. subst (λ (edges : ℕ). Judged edges s (stretches_by file encoding fix asked words first k fine to)) e own) (λ h. judges_ended file encoding fix
        asked first (k * stretch_edges) group_edges s n (stretches_by file encoding fix asked words first k fine to) r h number.most own) in
        let rest : At words (fine + k * mark_wide) (marks_from stretch_edges (left - k) file encoding t) = subst (λ (u : Reader). At words (fine + k * mark_wide)
        (marks_from stretch_edges (left - k) file encoding u)) (sym same) (subst (λ (m : ℕ). At words (fine + m) after) (marks_length stretch_edges k file encoding s)
        (at_right words fine now after stands)) in
        subst (λ (edges : ℕ). Judged edges s (groups_by file encoding fix asked words first (suc more) at left fine)) (sym many)
        (judges_both file encoding fix asked group_edges (more * group_edges) s _ (groups_by file encoding fix asked words first more (at + mark_wide) (left - k) (fine + k * mark_wide))
        (mark_judges s n at r number.some group_edges more_edges (at_left words at mark later here) to leads (stretches_by file encoding fix asked words first k fine to) whole)
        (coarse_judges more (left - k) t (n - group_edges) (at + mark_wide) (fine + k * mark_wide) number.next behind number.less number.fuller there rest))
