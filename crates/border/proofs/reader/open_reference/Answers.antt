-- `border::reader::open_reference` meets its contract.
use Rattle.numbers.{proofs.{Laws.{exits, goes_on}, Prelude.{sfits_of, sym, ap, ◌∙◌, w32, to_z-of_z}}, specs.{Answer.{found}, Varint.{reading_of}}}
use Rattle.border.proofs.reader.{Turns.{reference_opens}}
use Rattle.border.specs.{Reader.{again, onward, reference}, declared.reader.{Reader.{Reader}, Run.TheVariants.{Idle}}}
use Rattle.border.proofs.reader.open_reference.Goals as goal

pub returns-in_err-start : goal.returns-in_err-start
unfolding reference
returns-in_err-start c =
    exits c.from_residual.result c.in_err-start.was c.read_number.ensures c.from_residual.ensures.1 _

pub returns-in_err-length : goal.returns-in_err-length
unfolding reference
returns-in_err-length c =
    exits c.from_residual-in_err-length.result c.in_err-length.was c.read_number-2.ensures c.from_residual-in_err-length.ensures.1 _
    ∙ goes_on c.read_number.result c.read_number.ensures c.in_ok-start.was _

pub returns-in_err-run : goal.returns-in_err-run
unfolding reference
returns-in_err-run c =
    exits c.from_residual-in_err-run.result c.in_err-run.was (rw (to_z-of_z w32 _ (sfits_of c.signed.type_inv) ∙ c.signed.ensures) at c.open_run.ensures) c.from_residual-in_err-run.ensures.1 _
    ∙ goes_on c.read_number-2.result c.read_number-2.ensures c.in_ok-length.was _ ∙ goes_on c.read_number.result c.read_number.ensures c.in_ok-start.was _

pub returns : goal.returns
returns c =
    ap (λ (t : Reader). found (again t)) c.go_on.ensures ∙ sym (reference_opens (reading_of c.args.strict c.args.file.now) c.args.file.now c.args.base (onward
    c.args.reader c.args.place c.args.reader.moves Idle) (rw c.in_ok-start.was at c.read_number.ensures) (rw c.in_ok-length.was at c.read_number-2.ensures) (rw
    (to_z-of_z w32 _ (sfits_of c.signed.type_inv) ∙ c.signed.ensures, c.in_ok-run.was) at c.open_run.ensures))
