-- `index::lookup::lookup_indexed` meets its contract: the file is opened, the words are held against it, and it is looked up in through them.
use Rattle.numbers.proofs.Prelude.{length, sym, ◌∙◌}
use Rattle.index.proofs.{Through.{indexed_unopened, indexed_untied, indexed_tied}}
use Rattle.index.proofs.lookup.lookup_indexed.Goals as goal

pub returns-in-Err : goal.returns-in-Err
returns-in-Err c =
    indexed_unopened (length c.args.hits.now) (length c.args.text.now) c.args.file.now c.args.index.now c.args.location c.args.asked (sym c.in-Err.is ∙ c.head_of.ensures) c.zero_both.ensures.0 c.zero_both.ensures.1

pub returns-in-Err-tied_with : goal.returns-in-Err-tied_with
returns-in-Err-tied_with c =
    indexed_untied (length c.args.hits.now) (length c.args.text.now) c.args.file.now c.args.index.now c.args.location c.args.asked (sym c.in-Ok.is ∙ c.head_of.ensures) (sym c.in-Err-tied_with.is ∙ c.tied_with.ensures) c.zero_both-in-Err-tied_with.ensures.0
    c.zero_both-in-Err-tied_with.ensures.1

pub returns : goal.returns
returns c =
    c.through_in.ensures ∙ indexed_tied (length c.args.hits.now) (length c.args.text.now) c.args.file.now c.args.index.now c.args.location c.args.asked (sym c.in-Ok.is ∙ c.head_of.ensures) (sym c.in_default.is ∙ c.tied_with.ensures)
