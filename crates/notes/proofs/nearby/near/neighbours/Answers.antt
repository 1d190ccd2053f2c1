-- `notes::nearby::near::neighbours` meets its contract.
use Rattle.numbers.proofs.Prelude.{ℕ, zero, suc, ◌-◌, ◌≤◌, ◌≡◌, refl, arith}
use Rattle.std.specs.Prelude.{Option, Some, None, SomeIff}
use Rattle.notes.specs.Chains.Chains.{word_of}
use Rattle.notes.proofs.nearby.{Seeks.{seek_starts, seek_low, seek_lesser, seek_high, seek_greater, seek_ends}}
use Rattle.notes.proofs.nearby.near.neighbours.Goals as goal
use Rattle.notes.proofs.nearby.near.neighbours.Goals.{then-here-south+then-below-here, then-here-south+else-below-here, else-here-south+then-here-above, else-here-south+else-here-above}

-- a yard and one more, as an Option
one_more : (number : ℕ) (yard : Option ℕ) → SomeIff yard (1 ≤ number) (number - 1) → word_of yard ≡ number
one_more zero None h = refl
one_more (suc number) None h = absurd (h (omega arith))
one_more number (Some yard) h = omega (arith, h.0, h.1)

pub loop-yard-init : goal.loop-yard-init
loop-yard-init c =
    seek_starts _ _ _

pub returns : goal.returns
returns c =
    rw (one_more _ _ c.checked_sub.ensures, one_more _ _ c.checked_sub-2.ensures)
    (seek_ends _ _ _ _ _ _ _ _ c.loop-yard.invariant c.loop-yard-test.false c.south_at-south.ensures.0)

pub loop-yard-preserved : goal.loop-yard-preserved
loop-yard-preserved c =
    elim c.if-here-south.branch [
      | then-here-south+then-below-here w ↦ rw (w.low-is, w.below-is, w.high-is, w.above-is)
          (seek_low _ _ _ _ _ _ _ _ c.loop-yard.invariant c.loop-yard-test.true _ c.south_at-here.ensures w.if-here-south.true w.if-below-here.true)
      | then-here-south+else-below-here w ↦ rw (w.low-is, w.below-is, w.high-is, w.above-is)
          (seek_lesser _ _ _ _ _ _ _ _ c.loop-yard.invariant c.loop-yard-test.true _ c.south_at-here.ensures w.if-here-south.true w.if-below-here.false)
      | else-here-south+then-here-above w ↦ rw (w.low-is, w.below-is, w.high-is, w.above-is)
          (seek_high _ _ _ _ _ _ _ _ c.loop-yard.invariant c.loop-yard-test.true _ c.south_at-here.ensures w.if-here-south.false w.if-here-above.true)
      | else-here-south+else-here-above w ↦ rw (w.low-is, w.below-is, w.high-is, w.above-is)
          (seek_greater _ _ _ _ _ _ _ _ c.loop-yard.invariant c.loop-yard-test.true _ c.south_at-here.ensures w.if-here-south.false w.if-here-above.false)
    ]
