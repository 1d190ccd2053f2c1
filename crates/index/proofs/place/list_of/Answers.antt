-- `index::place::list_of` meets its contract, by the test that led to each answer.
use Rattle.numbers.proofs.Prelude.{sym, ◌∙◌}
use Rattle.index.proofs.{Placing.{no_precision, no_head, tile_same, outside, stands}}
use Rattle.index.proofs.place.list_of.Goals as goal

pub returns-then-not-is_precision : goal.returns-then-not-is_precision
returns-then-not-is_precision c =
    rw c.alone.ensures (no_precision c.args.length c.args.head c.args.index.now c.args.location (sym c.is_precision.ensures ∙ c.if-not-is_precision.true))

pub returns-then-not-is_headed : goal.returns-then-not-is_headed
returns-then-not-is_headed c =
    rw c.alone-then-not-is_headed.ensures (no_head c.args.length c.args.head c.args.index.now c.args.location (sym c.is_precision.ensures
    ∙ c.if-not-is_precision.false) (sym c.is_headed.ensures ∙ c.if-not-is_headed.true))

pub returns-then-is_inside : goal.returns-then-is_inside
returns-then-is_inside c =
    let tile = tile_same c.args.head c.args.location c.fix_of.ensures c.tile_of-t.ensures.0 in
    stands c.args.length c.args.head c.args.index.now c.args.location (sym c.is_precision.ensures ∙ c.if-not-is_precision.false) (sym c.is_headed.ensures
    ∙ c.if-not-is_headed.false) tile (sym c.is_inside.ensures ∙ c.if-is_inside.true) c.wide-from.ensures.0 c.wide-end.ensures.0

pub returns : goal.returns
returns c =
    let tile = tile_same c.args.head c.args.location c.fix_of.ensures c.tile_of-t.ensures.0 in
    rw c.alone-2.ensures (outside c.args.length c.args.head c.args.index.now c.args.location (sym c.is_precision.ensures
    ∙ c.if-not-is_precision.false) (sym c.is_headed.ensures ∙ c.if-not-is_headed.false) tile (sym c.is_inside.ensures ∙ c.if-is_inside.false))
