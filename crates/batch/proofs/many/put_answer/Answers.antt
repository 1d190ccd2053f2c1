-- `batch::many::put_answer` meets its contract.
use Rattle.batch.proofs.{Stamping.{answer_put}}
use Rattle.batch.proofs.many.put_answer.Goals as goal

pub returns : goal.returns
returns c =
    answer_put c.args.answers.now c.args.zones c.requires.0
