-- `numbers::point::apart_any` meets its contract.
use Rattle.numbers.proofs.{Prelude.{refl, arith}, point.{BothBits.{Stands, at_low, place_small, added_fits, added_last, goes_on, smaller}}}
use Rattle.numbers.proofs.point.apart_any.Goals as goal

pub overflow_add-both : goal.overflow_add-both
overflow_add-both c =
    record { fits = added_fits _ c.loop-rest.both c.loop-rest.rest c.loop-rest.place _ c.ranges.w.fits c.apart-in-loop-rest.ensures c.loop-rest.invariant }

pub returns-then-rest-eq0 : goal.returns-then-rest-eq0
returns-then-rest-eq0 c =
    added_last _ c.loop-rest.both c.loop-rest.rest c.loop-rest.place _ c.ranges.w.fits c.apart-in-loop-rest.ensures c.loop-rest.invariant c.if-rest-eq0.true
