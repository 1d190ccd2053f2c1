-- `index::tied::keeps` meets its contract. The loop's invariant is `Comparing`.
use Rattle.numbers.proofs.Prelude.{eq-eqb, ne_eqb, sym, ◌∙◌}
use Rattle.index.proofs.{Tying.{comparing_next, comparing_differs, comparing_ends}}
use Rattle.index.proofs.tied.keeps.Goals as goal

pub returns-then-index-at : goal.returns-then-index-at
returns-then-index-at c =
    comparing_differs _ _ _ _ c.loop-place.invariant c.loop-place-test.true (ne_eqb _ _ (λ e. c.if-index-at.true (e ∙ sym c.four_at.ensures)))

pub loop-place-preserved : goal.loop-place-preserved
loop-place-preserved c =
    comparing_next _ _ _ _ c.loop-place.invariant c.loop-place-test.true (eq-eqb _ _ (c.if-index-at.false ∙ c.four_at.ensures))

pub returns : goal.returns
returns c =
    comparing_ends _ _ _ _ c.loop-place.invariant c.loop-place-test.false
