-- `tzif::local::found_at` meets its contract.
use Rattle.numbers.proofs.Prelude.{sym, ap, ◌∙◌, w64, to_z-of_z}
use Rattle.std.specs.Prelude.{Ok}
use Rattle.tzif.proofs.{Goods.{zone_good, table_held}, Laws.{led_on, ended_by, passed_on}}
use Rattle.tzif.proofs.local.found_at.Goals as goal

pub returns-in_err-zone : goal.returns-in_err-zone
returns-in_err-zone c =
    (ended_by c.read_zone.ensures _ c.in_err-zone.was c.from_residual.ensures.1 _, rw (passed_on _ c.from_residual.ensures.1) tt)

pub by_table-requires : goal.by_table-requires
by_table-requires c =
    zone_good c.args.file.now (sym c.read_zone.ensures ∙ c.in_ok-zone.was)

pub returns : goal.returns
returns c = (
  led_on c.read_zone.ensures c.in_ok-zone.was _ (ap Ok (rw (to_z-of_z w64 c.args.instant c.ranges.instant) at (rw c.lifted.ensures at c.by_table.ensures))),
  rw c.by_table.ensures (table_held (zone_good c.args.file.now (sym c.read_zone.ensures ∙ c.in_ok-zone.was)) _),
)
