-- `atlas::simple::simple_atlas` meets its contract: the file is opened, and looked up in with its header.
use Rattle.numbers.proofs.Prelude.{length, sym, ◌∙◌}
use Rattle.atlas.proofs.{Choosing.{simply_unopened, simply_opened}}
use Rattle.atlas.proofs.simple.simple_atlas.Goals as goal

pub returns-in-Err : goal.returns-in-Err
returns-in-Err c =
    simply_unopened c.args.file.now c.args.words.now c.args.location (length c.args.hits.now) (length c.args.text.now) (sym c.in-Err.is
    ∙ c.head_of.ensures) c.zero_both.ensures.0 c.zero_both.ensures.1

pub returns : goal.returns
returns c =
    c.simple_in.ensures ∙ simply_opened c.args.file.now c.args.words.now c.args.location (length c.args.hits.now) (length c.args.text.now) (sym c.in-Ok.is ∙ c.head_of.ensures)
