-- `salvage::moves::ending::border_end` meets its contract. The loop's invariant: what is left of the border ends as the whole does; the measure is what can still be read.
use Rattle.numbers.proofs.{Laws.{exits, goes_on}, Prelude.{sym, ◌∙◌}}
use Rattle.border.{proofs.{Trace.{point_less}}, specs.Trace.{trace_of}}
use Rattle.salvage.proofs.moves.{Ends.{going, end_step, end_goes}}
use Rattle.salvage.proofs.moves.ending.border_end.Goals as goal

pub returns-in_err-later : goal.returns-in_err-later
returns-in_err-later c =
    exits c.from_residual.result c.in_err-later.was c.next_point.ensures c.from_residual.ensures.1 (going (trace_of c.args.file.now c.args.encoding))
    ∙ sym (end_step c.args.file.now c.args.encoding c.loop-later.reader) ∙ c.loop-later.invariant

pub returns-in_default : goal.returns-in_default
unfolding going
returns-in_default c =
    goes_on c.next_point.result c.next_point.ensures (rw c.in_default.is at c.in_ok-later.was) (going (trace_of c.args.file.now c.args.encoding))
    ∙ sym (end_step c.args.file.now c.args.encoding c.loop-later.reader) ∙ c.loop-later.invariant

pub loop-later-smaller : goal.loop-later-smaller
loop-later-smaller c =
    point_less c.args.file.now c.args.encoding c.loop-later.reader c.in-Some.later (rw (c.in_ok-later.was, c.in-Some.is) at c.next_point.ensures)

pub loop-later-preserved : goal.loop-later-preserved
loop-later-preserved c =
    end_goes c.args.file.now c.args.encoding c.loop-later.reader c.in-Some.later (rw (c.in_ok-later.was, c.in-Some.is) at c.next_point.ensures) ∙ c.loop-later.invariant
