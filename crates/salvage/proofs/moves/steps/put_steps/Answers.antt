-- `salvage::moves::steps::put_steps` meets its contract. The measure is what can still be read.
use Rattle.numbers.proofs.Prelude.{sym, ◌∙◌}
use Rattle.border.{proofs.{Trace.{point_less}}, specs.{Encoding.{encoded_by}, declared.reader.Version.TheVariants.{Packed}}}
use Rattle.salvage.proofs.moves.{Capping.{capped_form}, Ends.{point_of}, steps.{Stepping.{steps_start, steps_go, steps_end, steps_over}}}
use Rattle.salvage.specs.Moves.Moves.{step_bytes}
use Rattle.salvage.proofs.moves.steps.put_steps.Goals as goal

pub loop-later-init : goal.loop-later-init
loop-later-init c =
    rw c.open_border-reader.ensures (steps_start _ _ _ _ _ _)

pub returns : goal.returns
returns c =
    steps_over _ _ _ _ _ _ _ _ _ c.loop-later.invariant c.next_point.result (sym c.unwrap_or.ensures ∙ c.in_default.is) c.next_point.ensures

pub returns-then-later : goal.returns-then-later
returns-then-later c =
    steps_end _ _ _ _ _ _ _ _ c.loop-later.invariant (point_of c.next_point.result (sym c.unwrap_or.ensures ∙ c.in-Some.is) c.next_point.ensures) c.if-later.true c.put_number-behind.ensures c.put_number.ensures

pub loop-later-smaller : goal.loop-later-smaller
loop-later-smaller c =
    point_less c.args.file.now (encoded_by c.args.strict Packed c.args.«data») c.loop-later.reader c.in-Some.later (point_of c.next_point.result (sym c.unwrap_or.ensures ∙ c.in-Some.is) c.next_point.ensures)

pub loop-later-preserved : goal.loop-later-preserved
unfolding step_bytes
loop-later-preserved c =
    steps_go _ _ _ _ _ _ _ _ c.loop-later.invariant (point_of c.next_point.result (sym c.unwrap_or.ensures ∙ c.in-Some.is) c.next_point.ensures) c.if-later.false (capped_form c.step_number.ensures
    c.put_number-next.ensures)
