-- `slip::slip::slip_at` meets its contract.
use Rattle.numbers.{proofs.Prelude.{rules, length, refl, ◌∙◌}}
use Rattle.header.proofs.Buffers.{of_length}
use Rattle.slip.proofs.{Stamps.{reply_so}}
use Rattle.slip.specs.Slip.{slip_at, slipped_at}
use Rattle.slip.proofs.slip.slip_at.Goals as goal

pub returns : goal.returns
unfolding slipped_at
returns c =
    c.or_zeroed.ensures ∙ reply_so (slip_at c.args.fix c.args.map.now c.args.atlas.now c.args.zones.now) c.fill-stamped.result _ _ _ refl refl (of_length _ (length c.args.out.now)
    c.zero.ensures) c.fill-stamped.ensures (search rules) (search rules) (search rules)
