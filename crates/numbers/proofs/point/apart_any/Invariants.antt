-- `numbers::point::apart_any` meets its contract.
use Rattle.numbers.proofs.{Prelude.{refl, arith}, point.{BothBits.{Stands, at_low, place_small, added_fits, added_last, goes_on, smaller}}}
use Rattle.numbers.proofs.point.apart_any.Given as goal

abbrev pub invariant-loop-rest : goal.invariant-loop-rest
invariant-loop-rest l = Stands l.w l.both l.rest l.place

abbrev pub decreases-loop-rest : goal.decreases-loop-rest
decreases-loop-rest l = l.rest
