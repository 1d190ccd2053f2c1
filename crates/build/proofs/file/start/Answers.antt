-- `build::file::start` meets its contract.
use Rattle.numbers.proofs.Prelude.{sym, ◌∙◌, arith}
use Rattle.build.proofs.{Ending.{start_refused, start_drawn, checked_good, good_some}}
use Rattle.numbers.proofs.Replies.{passed_on}
use Rattle.build.proofs.file.start.Goals as goal

pub returns-in_err-check_plan : goal.returns-in_err-check_plan
returns-in_err-check_plan c =
    start_refused _ _ _ _ _ _ _ c.args.plan.pieces.now _ _ _ _ _ _ _ c.check_plan.result c.check_plan.ensures _ c.in_err-check_plan.was _ (passed_on _ c.from_residual.ensures.1)

pub draw-requires : goal.draw-requires
draw-requires c = (
  good_some c.args.plan.asked.kind c.args.plan.asked.version c.args.plan.asked.precision _ _ c.args.plan.lats.now c.args.plan.lons.now c.args.plan.pieces.now _ _ (checked_good _ _ _ _ _ _ _
      _ _ _ (sym c.check_plan.ensures ∙ c.in_ok-check_plan.was)),
  omega (
    arith,
    c.data_room-room.ensures,
  ),
  omega (arith, c.data_room-room.ensures),
  omega (arith, c.data_room-room.ensures),
  c.requires,
)

pub returns : goal.returns
returns c =
    start_drawn _ _ _ _ _ _ _ c.args.plan.pieces.now _ _ (sym c.check_plan.ensures
    ∙ c.in_ok-check_plan.was) _ _ _ _ _ _ c.data_room-room.ensures _ c.draw.ensures
