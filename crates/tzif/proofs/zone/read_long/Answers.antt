-- `tzif::zone::read_long` meets its contract.
use Rattle.numbers.proofs.Prelude.{true, sym, ◌∙◌, refl, arith}
use Rattle.tzif.proofs.{Goods.{block_read}, Laws.{led_on, ended_by}, Zones.{footer_within}}
use Rattle.tzif.specs.Zone.{read_long}
use Rattle.tzif.proofs.zone.read_long.Goals as goal

pub returns-in_err-block : goal.returns-in_err-block
unfolding read_long
returns-in_err-block c =
    ended_by (rw c.end_of.ensures at c.read_block.ensures) _ c.in_err-block.was c.from_residual.ensures.1 _

pub end_of-end-requires : goal.end_of-end-requires
end_of-end-requires c =
    omega (arith, (block_read c.args.file.now true c.end_of.result (sym c.read_block.ensures ∙ c.in_ok-block.was)).within.end)

pub returns-in_err-size : goal.returns-in_err-size
unfolding read_long
returns-in_err-size c =
    led_on (rw c.end_of.ensures at c.read_block.ensures) c.in_ok-block.was _ (ended_by (rw c.end_of-end.ensures at c.read_footer.ensures) _ c.in_err-size.was
    c.from_residual-in_err-size.ensures.1 _)

pub overflow_add-string : goal.overflow_add-string
overflow_add-string c =
    omega (arith, footer_within c.args.file.now c.end_of-end.result (sym c.read_footer.ensures ∙ c.in_ok-size.was))

pub returns : goal.returns
unfolding read_long
returns c =
    led_on (rw c.end_of.ensures at c.read_block.ensures) c.in_ok-block.was _ (led_on (rw c.end_of-end.ensures at c.read_footer.ensures) c.in_ok-size.was _
    (rw (c.octet-version.ensures.same, c.end_of-end.ensures) refl))
