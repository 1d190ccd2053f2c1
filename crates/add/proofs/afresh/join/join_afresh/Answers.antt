-- `add::afresh::join::join_afresh` meets its contract.
use Rattle.numbers.proofs.Prelude.{sym, ◌∙◌, arith}
use Rattle.add.proofs.afresh.{Joining.{measured_notable, grew_not, grew_into}}
use Rattle.add.proofs.afresh.join.join_afresh.Goals as goal

pub returns-then-is_err : goal.returns-then-is_err
returns-then-is_err c =
    grew_not c.args.builder c.args.strings c.args.size _ _ _ _ _ c.measure-measured.result c.measure-measured.ensures (sym c.is_err.ensures.value ∙ c.if-is_err.true) _ _

pub overflow_add-builder : goal.overflow_add-builder
overflow_add-builder c =
    omega (arith, c.requires.0.few_yards)

pub note_afresh-requires : goal.note_afresh-requires
note_afresh-requires c =
    measured_notable c.args.builder _ _ _ _ _ c.requires.0 _ _ _ _ _ c.places-1.given c.requires.1

pub returns : goal.returns
returns c =
    grew_into c.args.builder c.args.strings c.args.size _ _ _ _ _ c.measure-measured.result c.measure-measured.ensures (sym c.is_err.ensures.value ∙ c.if-is_err.false) _ _ _ c.note_afresh.ensures
