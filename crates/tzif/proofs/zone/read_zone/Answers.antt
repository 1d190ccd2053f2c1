-- `tzif::zone::read_zone` meets its contract.
use Rattle.numbers.proofs.Prelude.{false, eq-eqb, ne_eqb, sym, ◌∙◌, arith}
use Rattle.tzif.proofs.{Goods.{block_read}, Laws.{past, stopped, led_on, ended_by}, Zones.{header_held}}
use Rattle.tzif.specs.Zone.{read_zone_by}
use Rattle.tzif.proofs.zone.read_zone.Goals as goal

pub returns-in_err-demand : goal.returns-in_err-demand
unfolding read_zone_by
returns-in_err-demand c =
    stopped c.demand.ensures _ c.in_err-demand.was c.from_residual.ensures.1 _

pub returns-in_err-first : goal.returns-in_err-first
unfolding read_zone_by
returns-in_err-first c =
    past c.demand.ensures c.in_ok-demand.was _ (ended_by c.read_block.ensures _ c.in_err-first.was c.from_residual-in_err-first.ensures.1 _)

pub octet-requires : goal.octet-requires
octet-requires c =
    omega (arith, header_held c.args.file.now false 0 (sym c.read_block.ensures ∙ c.in_ok-first.was))

pub read_short-requires : goal.read_short-requires
read_short-requires c =
    (block_read c.args.file.now false 0 (sym c.read_block.ensures ∙ c.in_ok-first.was)).within

pub returns-then-octet-eq0 : goal.returns-then-octet-eq0
unfolding read_zone_by
returns-then-octet-eq0 c =
    past c.demand.ensures c.in_ok-demand.was _ (led_on c.read_block.ensures c.in_ok-first.was _ (rw (← c.octet.ensures.same, eq-eqb _ _ c.if-octet-eq0.true)
    c.read_short.ensures))

pub read_long-requires : goal.read_long-requires
read_long-requires c =
    let block = sym c.read_block.ensures ∙ c.in_ok-first.was in
    record { within = (block_read c.args.file.now false 0 block).within; in_bounds = omega (arith, header_held c.args.file.now false 0 block) }

pub returns : goal.returns
unfolding read_zone_by
returns c =
    past c.demand.ensures c.in_ok-demand.was _ (led_on c.read_block.ensures c.in_ok-first.was _ (rw (← c.octet.ensures.same, ne_eqb _ _ c.if-octet-eq0.false)
    c.read_long.ensures))
