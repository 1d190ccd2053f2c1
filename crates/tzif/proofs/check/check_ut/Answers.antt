-- `tzif::check::check_ut` meets its contract.
use Rattle.tzif.specs.Check.{check_ut}
use Rattle.tzif.proofs.check.check_ut.Goals.{then-is_standard, else-is_standard}
use Rattle.tzif.proofs.check.check_ut.Goals as goal

pub returns : goal.returns
unfolding check_ut
returns c =
    elim c.if-is_standard.branch [
      | then-is_standard w ↦ rw (← c.is_standard.ensures, w.if-is_standard.true) (cc)
      | else-is_standard w ↦ rw (← c.is_standard.ensures, w.if-is_standard.false) (cc)
    ]
