-- `notes::chains::texts::same_items` meets its contract.
use Rattle.numbers.proofs.Prelude.{arith}
use Rattle.builder.{proofs.grouping.Walks.{fewer_inside, same_starts, same_differs, same_goes, same_ends}}
use Rattle.notes.proofs.chains.texts.same_items.Goals as goal

pub loop-i-init : goal.loop-i-init
loop-i-init c =
    (omega arith, λ one other. same_starts _ _ _ _ _)

pub returns-then-not-same_one : goal.returns-then-not-same_one
returns-then-not-same_one c one other =
    let h = c.loop-i-test.true in
    let same = c.same_one.ensures (fewer_inside _ _ _ _ (omega (arith, h)) one) (fewer_inside _ _ _ _ (omega (arith, h)) other) in
    same_differs _ _ _ _ _ _ (c.loop-i.invariant.1 one other) h _ same c.if-not-same_one.true

pub loop-i-preserved : goal.loop-i-preserved
loop-i-preserved c =
    let h = c.loop-i-test.true in (
      omega (arith, h),
      λ one other. same_goes _ _ _ _ _ _ (c.loop-i.invariant.1 one other) h _ (c.same_one.ensures (fewer_inside _ _ _ _ (omega (arith, h)) one)
          (fewer_inside _ _ _ _ (omega (arith, h)) other)) c.if-not-same_one.false,
    )

pub returns : goal.returns
returns c one other =
    same_ends _ _ _ _ _ _ (c.loop-i.invariant.1 one other) c.loop-i-test.false
