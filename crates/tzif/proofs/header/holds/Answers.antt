-- `tzif::header::holds` meets its contract.
use Rattle.numbers.proofs.Prelude.{◌+◌, ◌-◌, lt-leb, sym, arith}
use Rattle.tzif.proofs.{Laws.{same_leb}}
use Rattle.tzif.proofs.header.holds.Goals as goal

pub returns-then-length-size : goal.returns-then-length-size
returns-then-length-size c =
    sym (lt-leb (c.args.at + c.args.size) c.args.length (omega arith))

pub returns : goal.returns
returns c =
    same_leb c.args.at (c.args.length - c.args.size) (c.args.at + c.args.size) c.args.length (λ h. omega arith) (λ h. omega arith)
