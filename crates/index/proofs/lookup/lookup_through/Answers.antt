-- `index::lookup::lookup_through` meets its contract: the file is opened, and looked up in with its header.
use Rattle.numbers.proofs.Prelude.{length, sym, ◌∙◌}
use Rattle.index.proofs.{Through.{through_unopened, through_opened}}
use Rattle.index.proofs.lookup.lookup_through.Goals as goal

pub returns-in-Err : goal.returns-in-Err
returns-in-Err c =
    through_unopened (length c.args.hits.now) (length c.args.text.now) c.args.file.now c.args.index.now c.args.location c.args.asked (sym c.in-Err.is ∙ c.head_of.ensures) c.zero_both.ensures.0 c.zero_both.ensures.1

pub returns : goal.returns
returns c =
    c.through_in.ensures ∙ through_opened (length c.args.hits.now) (length c.args.text.now) c.args.file.now c.args.index.now c.args.location c.args.asked (sym c.in-Ok.is ∙ c.head_of.ensures)
