-- `atlas::same::same_level` meets its contract: what is left to compare comes to what the whole does.
use Rattle.numbers.proofs.Prelude.{ℕ, ◌-◌, ◌+◌, ◌≡◌, sym, ap, ◌∙◌, arith}
use Rattle.index.specs.inner.Own.{is_at}
use Rattle.marks.specs.Marks.{marks_from}
use Rattle.atlas.proofs.{Standing.{mark_not, mark_so, no_marks}}
use Rattle.atlas.proofs.same.same_level.Goals as goal

pub returns-then-not-stand : goal.returns-then-not-stand
returns-then-not-stand c =
    mark_not _ _ _ _ _ c.span_from-reach.ensures _ _ (omega (arith, c.loop-test.true)) (ap (is_at _ _) (sym c.mark_of.ensures) ∙ sym c.stand.ensures ∙ c.if-not-stand.true)
    ∙ c.loop.invariant.0

pub loop-preserved : goal.loop-preserved
loop-preserved c =
    let less : c.args.count - (c.loop.counter + 1) ≡ c.args.count - c.loop.counter - 1 = omega arith in (
      ap (λ (n : ℕ). is_at c.args.words.now (c.loop.at + 11) (marks_from c.args.edges n c.args.file.now c.args.encoding c.span_from-reach.result.last)) less
          ∙ mark_so _ _ _ _ _ c.span_from-reach.ensures _ _ (omega (arith, c.loop-test.true)) (ap (is_at _ _) (sym c.mark_of.ensures) ∙ sym c.stand.ensures
          ∙ c.if-not-stand.false) ∙ c.loop.invariant.0,
      omega (arith, c.loop.invariant.1, c.loop-test.true),
    )

pub returns : goal.returns
unfolding is_at
returns c =
    sym (ap (is_at _ _) (no_marks _ _ _ _ _ (omega (arith, c.loop-test.false)))) ∙ c.loop.invariant.0
