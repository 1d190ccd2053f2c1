-- `tzif::local::local_time` meets its contract.
use Rattle.numbers.proofs.Prelude.{length, ap, ◌∙◌, w64, to_z-of_z}
use Rattle.tzif.specs.Local.{lent, local_time_by}
use Rattle.tzif.proofs.local.local_time.Goals as goal

pub returns : goal.returns
unfolding local_time_by
returns c =
    c.reply.ensures ∙ ap (lent c.args.file.now (length c.args.text.now)) (rw (to_z-of_z w64 c.args.instant c.ranges.instant) at c.found_at.ensures.0)
