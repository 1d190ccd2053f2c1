-- `tzif::times::last_not_after` meets its contract. The loop narrows the place between two bounds.
use Rattle.numbers.proofs.Prelude.{◌-◌}
use Rattle.tzif.proofs.{Lasts.{Narrowed}}
use Rattle.tzif.specs.Times.{time_in}
use Rattle.tzif.proofs.times.last_not_after.Given as goal

abbrev pub invariant-loop-low : goal.invariant-loop-low
invariant-loop-low l = Narrowed (time_in l.file l.times) l.times.count l.instant l.low l.high

abbrev pub decreases-loop-low : goal.decreases-loop-low
decreases-loop-low l = l.high - l.low
