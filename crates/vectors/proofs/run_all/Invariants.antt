-- Each line begins behind the one before it.
use Rattle.std.proofs.Common.{length, ◌-◌}
use Rattle.vectors.proofs.run_all.Given as goal

abbrev pub decreases-loop-at : goal.decreases-loop-at
decreases-loop-at l = length l.text - l.at
