-- `slip::slip::is_on_globe` meets its contract.
use Rattle.numbers.proofs.Prelude.{of_bits, Bool, ◌&&◌, sym, ap, ◌∙◌}
use Rattle.slip.specs.Slip.{within, on_globe}
use Rattle.table.specs.Find.{half_turn}
use Rattle.slip.proofs.slip.is_on_globe.Goals as goal

pub returns-then-is_within : goal.returns-then-is_within
unfolding of_bits on_globe
returns-then-is_within c =
    c.is_within-then-is_within.ensures ∙ ap (λ (t : Bool). t && within half_turn c.args.fix.lon) (sym (sym c.is_within.ensures ∙ c.if-is_within.true))

pub returns : goal.returns
unfolding of_bits on_globe
returns c =
    ap (λ (t : Bool). t && within half_turn c.args.fix.lon) (sym (sym c.is_within.ensures ∙ c.if-is_within.false))
