-- `numbers::varint::strictly` meets its contract.
use Rattle.numbers.proofs.{Laws.{exits}, Prelude.{refl, sym, ap, ◌∙◌}, varint.{Strict.{kept, cut}}}
use Rattle.numbers.specs.{Varint.{told, whole_of}}
use Rattle.numbers.proofs.varint.strictly.Goals as goal

pub returns-in_err-number : goal.returns-in_err-number
unfolding whole_of
returns-in_err-number c =
    exits c.from_residual.result c.in_err-number.was refl c.from_residual.ensures.1 _

pub returns-then-is_complete : goal.returns-then-is_complete
returns-then-is_complete c =
    kept (c.args.file.now) (ap told c.in_ok-number.was) (sym c.is_complete.ensures ∙ c.if-is_complete.true)

pub returns : goal.returns
returns c =
    cut (c.args.file.now) (ap told c.in_ok-number.was) (sym c.is_complete.ensures ∙ c.if-is_complete.false)
