-- `add::joining::join::join` meets its contract.
use Rattle.numbers.proofs.Prelude.{sym, ◌∙◌}
use Rattle.add.proofs.joining.{Joining.{joins_it, joins_back}, Settling.{measuring_as, placed_after}}
use Rattle.add.proofs.joining.join.join.Goals as goal

pub settle-added-requires : goal.settle-added-requires
settle-added-requires c =
    measuring_as _ _ _ _ _ _ _ _ _ _ _ _ _ _ _ _ _ _ _ _ _ _ _ c.borders-1.given c.lengths-1.given c.texts-1.given c.boxes-1.given c.requires.2

pub take_back-requires : goal.take_back-requires
take_back-requires c =
    placed_after _ _ _ _ _ _ c.requires.1 c.boxes-1.given c.borders-1.given c.lengths-1.given c.texts-1.given c.bytes-1.given

pub returns-then-is_err : goal.returns-then-is_err
returns-then-is_err c = (
  joins_back c.args.builder _ c.args.strings c.args.yard.lats.now c.args.yard.lons.now c.args.yard.sizes.now c.args.yard.values.now c.args.border.now _ c.requires.0 c.requires.1 _
      c.put_yard.ensures _ _ _ c.settle-added.ensures.0 (sym c.is_err.ensures.value ∙ c.if-is_err.true) _ c.take_back.ensures,
  c.settle-added.ensures.1,
)

pub returns-else-is_err : goal.returns-else-is_err
returns-else-is_err c = (
  joins_it c.args.builder _ c.args.strings c.args.yard.lats.now c.args.yard.lons.now c.args.yard.sizes.now c.args.yard.values.now c.args.border.now _ c.requires.0 c.requires.1 _
      c.put_yard.ensures _ _ _ c.settle-added.ensures.0 (sym c.is_err.ensures.value ∙ c.if-is_err.false),
  c.settle-added.ensures.1,
)
