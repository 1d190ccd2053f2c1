-- `draft::summed::sums::greatest_of` meets its contract.
use Rattle.numbers.proofs.Prelude.{arith}
use Rattle.draft.proofs.summed.{Souths.{none_greatest, seek_starts, seek_up, seek_on, seek_ends}}
use Rattle.draft.proofs.summed.sums.greatest_of.Goals as goal
use Rattle.draft.proofs.summed.sums.greatest_of.Goals.{then-greatest-south, else-greatest-south}

pub returns-then-count-eq0 : goal.returns-then-count-eq0
returns-then-count-eq0 c =
    none_greatest _ _ c.if-count-eq0.true

pub loop-yard-init : goal.loop-yard-init
loop-yard-init c =
    seek_starts _ _ c.if-count-eq0.false (record { sfits = c.greatest-1.given })

pub loop-yard-preserved : goal.loop-yard-preserved
loop-yard-preserved c = elim c.if-greatest-south.branch [
  | then-greatest-south w ↦ rw (w.greatest-is) (seek_up _ _ _ _ c.loop-yard.invariant c.loop-yard-test.true (record { sfits = c.south-1.given }) w.if-greatest-south.true)
  | else-greatest-south w ↦ rw (w.greatest-is) (seek_on _ _ _ _ c.loop-yard.invariant c.loop-yard-test.true (record { sfits = c.south-1.given }) w.if-greatest-south.false)
]

pub returns : goal.returns
returns c =
    seek_ends _ _ _ _ c.loop-yard.invariant c.loop-yard-test.false
