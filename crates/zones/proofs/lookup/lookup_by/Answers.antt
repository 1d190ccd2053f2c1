-- `zones::lookup::lookup_by` meets its contract: the file is opened, and looked up in with its header.
use Rattle.numbers.proofs.Prelude.{length, sym, ◌∙◌}
use Rattle.zones.proofs.{GivenHead.{not_looked_by, looked_by_given}}
use Rattle.zones.proofs.lookup.lookup_by.Goals as goal

pub returns-in-Err : goal.returns-in-Err
returns-in-Err c =
    not_looked_by c.args.file.now c.args.location (length c.args.hits.now) (length c.args.text.now) c.args.strict c.args.asked (sym c.in-Err.is
    ∙ c.head_by.ensures) c.zero_both.ensures.0 c.zero_both.ensures.1

pub returns : goal.returns
returns c =
    c.lookup_in.ensures ∙ looked_by_given c.args.file.now c.args.location (length c.args.hits.now) (length c.args.text.now) c.args.strict c.args.asked (sym c.in-Ok.is ∙ c.head_by.ensures)
