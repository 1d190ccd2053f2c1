-- `table::usual::highest` meets its contract: the byte between the two can add nothing.
use Rattle.numbers.proofs.Prelude.{sfits_of, ◌∙◌, w32, to_z-of_z}
use Rattle.table.proofs.usual.{Usual.{high_even, high_odd}}
use Rattle.table.proofs.usual.highest.Goals as goal

pub returns-then-low-eq0 : goal.returns-then-low-eq0
returns-then-low-eq0 c =
    high_even c.args.file.now c.args.place c.wide-low.ensures.0 c.wide-high.ensures.0 c.wide-high.ensures.1 c.if-low-eq0.true _ (to_z-of_z w32 _ (sfits_of
    c.signed.type_inv) ∙ c.signed.ensures)

pub returns : goal.returns
returns c =
    high_odd c.args.file.now c.args.place c.wide-low.ensures.0 c.wide-high.ensures.0 c.wide-high.ensures.1 c.if-low-eq0.false _ (to_z-of_z w32 _ (sfits_of
    c.signed-2.type_inv) ∙ c.signed-2.ensures)
