-- `index::tiles::end_of` meets its contract.
use Rattle.numbers.proofs.Prelude.{◌+◌, ◌^◌, eq-eqb, ne_eqb, sym, ◌∙◌}
use Rattle.index.specs.Tiles.{span_of}
use Rattle.index.proofs.tiles.end_of.Goals as goal

pub returns-then-i-power_of_two : goal.returns-then-i-power_of_two
unfolding span_of
returns-then-i-power_of_two c =
    rw (eq-eqb (c.args.i + 1) (2 ^ c.args.power) (c.if-i-power_of_two.true ∙ c.power_of_two.ensures))

pub returns : goal.returns
unfolding span_of
returns c =
    rw (ne_eqb (c.args.i + 1) (2 ^ c.args.power) (λ e. c.if-i-power_of_two.false (e ∙ sym c.power_of_two.ensures))) c.begins_at.ensures
