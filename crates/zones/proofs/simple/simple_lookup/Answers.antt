-- `zones::simple::simple_lookup` meets its contract: the file is opened, and looked up in with its header.
use Rattle.numbers.proofs.Prelude.{length, sym, ◌∙◌}
use Rattle.zones.proofs.{GivenHead.{not_simply_looked, simply_looked_given}}
use Rattle.zones.proofs.simple.simple_lookup.Goals as goal

pub returns-in-Err : goal.returns-in-Err
returns-in-Err c =
    not_simply_looked c.args.file.now c.args.location (length c.args.hits.now) (length c.args.text.now) (sym c.in-Err.is ∙ c.head_of.ensures) c.zero_both.ensures.0 c.zero_both.ensures.1

pub returns : goal.returns
returns c =
    c.simple_lookup_in.ensures ∙ simply_looked_given c.args.file.now c.args.location (length c.args.hits.now) (length c.args.text.now) (sym c.in-Ok.is ∙ c.head_of.ensures)
