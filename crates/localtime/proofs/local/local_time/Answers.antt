-- `localtime::local::local_time` meets its contract.
use Rattle.numbers.proofs.Prelude.{length, ap, ◌∙◌, w64, to_z-of_z}
use Rattle.localtime.specs.Local.{local_time_by, scale_at}
use Rattle.tzif.specs.Local.{lent}
use Rattle.localtime.proofs.local.local_time.Goals as goal

pub returns : goal.returns
unfolding local_time_by
returns c =
    let same = to_z-of_z w64 c.args.instant c.ranges.instant in
    (c.reply-time.ensures ∙ ap (lent c.args.file.now (length c.args.text.now)) (rw same at c.answer_at-answered.ensures.0), c.answer_at-answered.ensures.2 ∙ ap (scale_at c.args.file.now) same)
