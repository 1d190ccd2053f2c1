-- `request::sentence::is_rmc` meets its contract.
use Rattle.numbers.proofs.Prelude.{length, lt-leb, ◌∙◌}
use Rattle.request.proofs.{Replied.{rmc_short}}
use Rattle.request.proofs.sentence.is_rmc.Goals as goal

pub returns-else-text-ge2 : goal.returns-else-text-ge2
returns-else-text-ge2 c =
    lt-leb 2 (length c.args.text.now) c.if-text-ge2.false ∙ rmc_short c.args.text.now c.if-text-ge2.false
