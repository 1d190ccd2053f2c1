-- The loop over the points of a stretch, turn by turn. Assumes nothing.
use Rattle.std.specs.{Prelude.{Result}, Result.{result_unwrap_or}}
use Rattle.numbers.{proofs.Prelude.{ℕ, zero, suc, ◌+◌, ◌-◌, ◌≤◌, ◌<◌, List, ◌≡◌, refl, sym, ap, ◌∙◌, arith}, specs.{Varint.{told}, declared.varint.Stop.{Stop}}}
use Rattle.border.specs.{Box.{Box, grown}, Trace.{Given, reaches, ended, next_point}, declared.reader.{Encoding.{Encoding}, Reader.{Reader}}}
use Rattle.marks.specs.Marks.{next_or, Span, spanned, span_over, span_from}
use Rattle.atlas.proofs.Nexts.{none_next}
use Rattle.numbers.specs.Answer as A

module _ (edges : ℕ) (file : List ℕ) (encoding : Encoding) (start : Reader) where
  abbrev all : Span
  all = span_from edges file encoding start

  -- after so many edges, with this box: the rest leads to where the whole stretch leads
  pub record Spanning (box : Box) (reader : Reader) (n : ℕ) : Type 0 where
    pub left : ℕ
    pub sum : n + left ≡ edges
    pub same : span_over left file encoding reader box ≡ all

  pub spanning_starts : Spanning (record { low = start.point; high = start.point }) start 0
  spanning_starts = record { left = edges; sum = omega arith; same = refl }

  module _ {box : Box} {reader : Reader} {n : ℕ} (s : Spanning box reader n) where
    no_fuel : (left : ℕ) → left ≡ 0 → span_over left file encoding reader box ≡ all → spanned box reader ≡ all
    unfolding span_over
    no_fuel zero e same = same
    no_fuel (suc k) e same = absurd (omega (arith, e))

    pub spanning_full : edges ≤ n → spanned box reader ≡ all
    spanning_full h = no_fuel s.left (omega (arith, h, s.sum)) s.same

    module _ (more : n < edges) where
      abbrev fuel : ℕ
      fuel = s.left - 1

      abbrev onward : Reader → Span
      onward t = span_over fuel file encoding t (grown box t.point)

      unrolled : (left : ℕ) → 0 < left → span_over left file encoding reader box
          ≡ next_or (next_point file encoding reader) (spanned box reader) (λ t. span_over (left - 1) file encoding t (grown box t.point))
      unfolding span_over
      unrolled zero h = absurd (omega (arith, h))
      unrolled (suc k) h = let e : suc k - 1 ≡ k = omega arith in rw e

      whole : next_or (next_point file encoding reader) (spanned box reader) onward ≡ all
      whole = sym (unrolled s.left (omega (arith, more, s.sum))) ∙ s.same

      pub spanning_ends : (next : Result Given Stop) → told next ≡ next_point file encoding reader → result_unwrap_or next ended ≡ ended → spanned box reader ≡ all
      spanning_ends next e o = sym (none_next next (spanned box reader) onward o) ∙ (λ i. next_or (e i) (spanned box reader) onward) ∙ whole

      pub spanning_on : (later : Reader) → A.found (reaches later) ≡ next_point file encoding reader → {box' : Box} → box' ≡ grown box later.point → Spanning box' later (n + 1)
      unfolding next_or
      spanning_on later is g =
          record {
            left = fuel;
            sum = omega (arith, more, s.sum);
            same = ap (span_over fuel file encoding later) g ∙ (λ i. next_or (is i) (spanned box reader) onward) ∙ whole;
          }
