-- `atlas::lookup::lookup_atlas` meets its contract: the file is opened, and looked up in with its header.
use Rattle.numbers.proofs.Prelude.{length, sym, ◌∙◌}
use Rattle.atlas.proofs.{Parting.{atlas_unopened, atlas_opened}}
use Rattle.atlas.proofs.lookup.lookup_atlas.Goals as goal

pub returns-in-Err : goal.returns-in-Err
returns-in-Err c =
    atlas_unopened (length c.args.hits.now) (length c.args.text.now) c.args.file.now c.args.words.now c.args.location c.args.asked (sym c.in-Err.is
    ∙ c.head_of.ensures) c.zero_both.ensures.0 c.zero_both.ensures.1

pub returns : goal.returns
returns c =
    c.atlas_in.ensures ∙ atlas_opened (length c.args.hits.now) (length c.args.text.now) c.args.file.now c.args.words.now c.args.location c.args.asked (sym c.in-Ok.is ∙ c.head_of.ensures)
