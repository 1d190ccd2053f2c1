-- `tzif::text::octet_or_zero` meets its contract.
use Rattle.numbers.proofs.Prelude.{List·getD-eq-default, sym}
use Rattle.tzif.proofs.text.octet_or_zero.Goals as goal

pub returns : goal.returns
returns c =
    sym (List·getD-eq-default c.args.name.now 0 c.if-i-name.false)
