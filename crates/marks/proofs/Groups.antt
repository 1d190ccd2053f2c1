-- Stretches one after another: so many of them are one stretch of all their edges, and their marks stand part by part. Assumes nothing.
use Rattle.numbers.{proofs.Prelude.{ℕ, zero, suc, ◌+◌, ◌-◌, ◌*◌, ◌≤◌, List, ◌++◌, append_assoc, ◌≡◌, refl, sym, ap, ◌∙◌, zero-mul, suc-mul, arith}, specs.Answer.{Answer, found}}
use Rattle.border.specs.{Box.{Box, grown}, Trace.{Given, closed, reaches, ended, next_point, trace_of}, declared.{place.Point.{Point}, reader.{Encoding.{Encoding}, Reader.{Reader}}}}
use Rattle.marks.specs.Marks.{next_or, Span, spanned, span_over, span_from, mark_of, marks_from}
use Rattle.marks.proofs.{Rounds.{Round, closes}, Spans.{spans, ended_trace}}
use Rattle.numbers.specs.Answer as A

module _ (file : List ℕ) (encoding : Encoding) where
  -- where there is no further point nothing is spanned
  ends_here : (edges : ℕ) (s : Reader) (box : Box) → ((go : Reader → Span) → next_or (next_point file encoding s) (spanned box s) go ≡ spanned box s)
      → span_over edges file encoding s box ≡ spanned box s
  unfolding span_over
  ends_here zero s box h = refl
  ends_here (suc more) s box h = h _

  -- over some edges, and then over others
  over_both : (a b : ℕ) (s : Reader) (box : Box) → span_over (a + b) file encoding s box ≡ span_over b file encoding (span_over a file encoding s box).last (span_over a file encoding s box).box
  unfolding span_over next_or
  over_both zero b s box = let e : 0 + b ≡ b = omega arith in ap (λ (k : ℕ). span_over k file encoding s box) e
  over_both (suc a) b s box = let e : suc a + b ≡ suc (a + b) = omega arith in ap (λ (k : ℕ). span_over k file encoding s box) e
      ∙ go (next_point file encoding s) refl (λ t. over_both a b t (grown box t.point)) where
        go : (next : Answer Given) → next_point file encoding s ≡ next → ((t : Reader) → span_over (a + b) file encoding t (grown box t.point) ≡ span_over b file
            encoding (span_over a file encoding t (grown box t.point)).last (span_over a file encoding t (grown box t.point)).box) → next_or next (spanned box s)
            (λ t. span_over (a + b) file encoding t (grown box t.point)) ≡ span_over b file encoding (next_or next (spanned box s) (λ t. span_over a file encoding t (grown box t.point))).last
            (next_or next (spanned box s) (λ t. span_over a file encoding t (grown box t.point))).box
        go (found (reaches t)) e h = h t
        go (found ended) e h = sym (ends_here b s box (λ k. rw e))
        go A.failed e h = sym (ends_here b s box (λ k. rw e))
        go (A.refused n) e h = sym (ends_here b s box (λ k. rw e))

  -- where they lead does not depend on the box of what came before
  last_alike : (edges : ℕ) (s : Reader) (box box' : Box) → (span_over edges file encoding s box).last ≡ (span_over edges file encoding s box').last
  unfolding span_over next_or
  last_alike zero s box box' = refl
  last_alike (suc more) s box box' = go (next_point file encoding s) (λ t. last_alike more t (grown box t.point) (grown box' t.point)) where
    go : (next : Answer Given) → ((t : Reader) → (span_over more file encoding t (grown box t.point)).last ≡ (span_over more file encoding t (grown box' t.point)).last)
        → (next_or next (spanned box s) (λ t. span_over more file encoding t (grown box t.point))).last
        ≡ (next_or next (spanned box' s) (λ t. span_over more file encoding t (grown box' t.point))).last
    go (found (reaches t)) h = h t
    go (found ended) h = refl
    go A.failed h = refl
    go (A.refused n) h = refl

  -- the state behind so many edges
  abbrev pub last_over : ℕ → Reader → Reader
  last_over edges s = (span_from edges file encoding s).last

  pub last_none : (s : Reader) → last_over 0 s ≡ s
  unfolding span_over
  last_none s = refl

  pub last_both : (a b : ℕ) (s : Reader) → last_over (a + b) s ≡ last_over b (last_over a s)
  last_both a b s = ap (λ (span : Span). span.last) (over_both a b s (record { low = s.point; high = s.point })) ∙ last_alike b (last_over a s) _ _

  -- the marks of some stretches, and behind them those of the others
  pub marks_both : (edges a b : ℕ) (s : Reader) → marks_from edges (a + b) file encoding s ≡ marks_from edges a file encoding s ++ marks_from edges b file encoding (last_over (a * edges) s)
  unfolding marks_from span_over
  marks_both edges zero b s = let e : 0 + b ≡ b = omega arith in let z : s ≡ last_over (zero * edges) s = ap (λ (k : ℕ). last_over k s) (sym (zero-mul edges)) in
      (λ i. marks_from edges (e i) file encoding (z i))
  marks_both edges (suc a) b s = let e : suc a + b ≡ suc (a + b) = omega arith in let t = last_over edges s in
      let mark = mark_of s (span_from edges file encoding s).box in let m : edges + a * edges ≡ suc a * edges = omega (arith, suc-mul a edges) in
      let z : last_over (a * edges) t ≡ last_over (suc a * edges) s = sym (last_both edges (a * edges) s) ∙ ap (λ (k : ℕ). last_over k s) m in
      ap (λ (k : ℕ). marks_from edges k file encoding s) e
      ∙ ap (λ (l : List ℕ). mark ++ l) (marks_both edges a b t ∙ ap (λ (u : Reader). marks_from edges a file encoding t ++ marks_from edges b file encoding u) z)
      ∙ sym (append_assoc mark (marks_from edges a file encoding t) (marks_from edges b file encoding (last_over (suc a * edges) s)))

-- ---- a border that comes round
module _ (file : List ℕ) (encoding : Encoding) (first : Point) where
  pub last_round : (edges : ℕ) (s : Reader) (n : ℕ) → Round file encoding first s n → Round file encoding first (last_over file encoding edges s) (n - edges)
  last_round edges s n r = (spans file encoding first edges s n (record { low = s.point; high = s.point }) r).behind

  -- at its end it stays, over however many edges
  pub last_stays : (edges : ℕ) (s : Reader) (n : ℕ) → Round file encoding first s n → n ≡ 0 → last_over file encoding edges s ≡ s
  unfolding next_or
  last_stays edges s zero (closes e p) h = ap (λ (span : Span). span.last) (ends_here file encoding edges s (record { low = s.point; high = s.point }) (λ go. rw e))
  last_stays edges s (suc n) r h = absurd (omega (arith, h))

  -- so that edges behind its end do not count
  pub last_ended : (a b : ℕ) (s : Reader) (n : ℕ) → Round file encoding first s n → n ≤ a → a ≤ b → last_over file encoding b s ≡ last_over file encoding a s
  last_ended a b s n r few more = let e : b ≡ a + (b - a) = omega (arith, more) in
      ap (λ (k : ℕ). last_over file encoding k s) e ∙ last_both file encoding a (b - a) s ∙ last_stays (b - a) (last_over file encoding a s) (n - a) (last_round a s n r) (omega (arith, few))

  pub at_end : (s : Reader) (n : ℕ) → Round file encoding first s n → n ≡ 0 → trace_of file encoding s ≡ closed
  at_end s zero (closes e p) h = ended_trace file encoding first s e
  at_end s (suc n) r h = absurd (omega (arith, h))
