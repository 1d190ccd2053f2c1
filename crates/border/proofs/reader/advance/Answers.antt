-- `border::reader::advance` meets its contract.
use Rattle.numbers.{proofs.{Laws.{exits}, Prelude.{sym, ap, ◌∙◌}}, specs.Answer.{found}}
use Rattle.border.proofs.reader.{Turns.{advances}}
use Rattle.border.specs.{Reader.{gives, onward, advanced}, declared.reader.Reader.{Reader}}
use Rattle.border.proofs.reader.advance.Goals as goal

pub returns-in_err-point : goal.returns-in_err-point
unfolding advanced
returns-in_err-point c =
    exits c.from_residual.result c.in_err-point.was c.move_by.ensures c.from_residual.ensures.1 _

pub returns : goal.returns
returns c =
    ap (λ (t : Reader). found (gives t)) c.arrive.ensures ∙ sym (advances (onward c.args.reader c.args.place c.args.reader.moves c.args.run) c.args.by (rw
    c.in_ok-point.was at c.move_by.ensures))
