-- `tzif::leap::spaced` meets its contract.
use Rattle.numbers.proofs.Prelude.{◌+◌, ◌-◌, lt-leb, sym, arith}
use Rattle.tzif.proofs.{Laws.{same_leb}}
use Rattle.tzif.proofs.leap.spaced.Goals as goal

pub returns-then-time-lt2419199 : goal.returns-then-time-lt2419199
returns-then-time-lt2419199 c =
    sym (lt-leb (c.args.before + 2419199) c.args.time (omega arith))

pub returns : goal.returns
returns c =
    same_leb c.args.before (c.args.time - 2419199) (c.args.before + 2419199) c.args.time (λ h. omega arith) (λ h. omega arith)
