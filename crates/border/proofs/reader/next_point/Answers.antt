-- `border::reader::next_point` meets its contract. The loop's invariant: from here on the next point is the same; the measure is what can still be read.
use Rattle.numbers.{proofs.{Laws.{exits}, Prelude.{refl, sym, ap, ◌∙◌}}, specs.Answer.{Answer, ◌>>=◌}}
use Rattle.border.proofs.{Trace.{next_step, again_less, again_same}}
use Rattle.border.specs.{Reader.{Turn}, Trace.{round_again, next_point}}
use Rattle.border.proofs.reader.next_point.Goals as goal

pub returns-in_err-later : goal.returns-in_err-later
returns-in_err-later c =
    exits c.from_residual.result c.in_err-later.was c.turn_once.ensures c.from_residual.ensures.1 (round_again (next_point c.args.file.now c.args.encoding))
    ∙ sym (next_step c.args.file.now c.args.encoding c.loop-later.state) ∙ c.loop-later.invariant

pub returns-in-Gives : goal.returns-in-Gives
unfolding round_again
returns-in-Gives c =
    ap (λ (t : Answer Turn). t >>= round_again (next_point c.args.file.now c.args.encoding)) (rw (c.in_ok-later.was, c.in-Gives.is) at c.turn_once.ensures)
    ∙ sym (next_step c.args.file.now c.args.encoding c.loop-later.state) ∙ c.loop-later.invariant

pub returns-in-Ended : goal.returns-in-Ended
unfolding round_again
returns-in-Ended c =
    ap (λ (t : Answer Turn). t >>= round_again (next_point c.args.file.now c.args.encoding)) (rw (c.in_ok-later.was, c.in-Ended.is) at c.turn_once.ensures)
    ∙ sym (next_step c.args.file.now c.args.encoding c.loop-later.state) ∙ c.loop-later.invariant

pub loop-later-smaller : goal.loop-later-smaller
loop-later-smaller c =
    again_less c.args.file.now c.args.encoding c.loop-later.state c.in-Again.later (rw (c.in_ok-later.was, c.in-Again.is) at c.turn_once.ensures)

pub loop-later-preserved : goal.loop-later-preserved
loop-later-preserved c =
    again_same c.args.file.now c.args.encoding c.loop-later.state c.in-Again.later (rw (c.in_ok-later.was, c.in-Again.is) at c.turn_once.ensures) ∙ c.loop-later.invariant
