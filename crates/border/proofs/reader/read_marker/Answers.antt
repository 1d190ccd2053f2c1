-- `border::reader::read_marker` meets its contract.
use Rattle.numbers.{proofs.{Laws.{exits}, Prelude.{sym, ap, ◌∙◌}}, specs.{Answer.{found}, Varint.{reading_of}}}
use Rattle.border.proofs.reader.{Turns.{mark_closes, mark_opens, mark_repeats}}
use Rattle.border.specs.{Reader.{gives, onward, marker}, declared.reader.{Reader.{Reader}, Run.TheVariants.{Idle}}}
use Rattle.border.proofs.reader.read_marker.Goals as goal

pub returns-in_err-mark : goal.returns-in_err-mark
unfolding marker
returns-in_err-mark c =
    exits c.from_residual.result c.in_err-mark.was c.read_number.ensures c.from_residual.ensures.1 _

pub returns-then-mark-eq0 : goal.returns-then-mark-eq0
returns-then-mark-eq0 c =
    ap (λ (t : Reader). found (gives t)) c.close.ensures ∙ sym (mark_closes (reading_of c.args.strict c.args.file.now) c.args.file.now c.args.base (onward
    c.args.reader c.args.place c.args.reader.moves Idle) (rw c.in_ok-mark.was at c.read_number.ensures) c.if-mark-eq0.true)

pub returns-then-mark-eq1 : goal.returns-then-mark-eq1
returns-then-mark-eq1 c =
    c.open_reference.ensures ∙ sym (mark_opens (reading_of c.args.strict c.args.file.now) c.args.file.now c.args.base (onward c.args.reader c.args.place
    c.args.reader.moves Idle) (rw c.in_ok-mark.was at c.read_number.ensures) c.if-mark-eq0.false c.if-mark-eq1.true)

pub returns : goal.returns
returns c =
    ap (λ (t : Reader). found (gives t)) c.arrive.ensures ∙ sym (mark_repeats (reading_of c.args.strict c.args.file.now) c.args.file.now c.args.base (onward
    c.args.reader c.args.place c.args.reader.moves Idle) (rw c.in_ok-mark.was at c.read_number.ensures) c.if-mark-eq0.false c.if-mark-eq1.false)
