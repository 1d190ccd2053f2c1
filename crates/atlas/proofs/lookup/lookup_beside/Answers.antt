-- `atlas::lookup::lookup_beside` meets its contract, by whether there are words.
use Rattle.numbers.proofs.Prelude.{length, ◌∙◌}
use Rattle.atlas.proofs.{Choosing.{look_none, look_some}}
use Rattle.atlas.proofs.lookup.lookup_beside.Goals as goal

pub returns-then-words-eq0 : goal.returns-then-words-eq0
returns-then-words-eq0 c =
    c.lookup_in.ensures ∙ look_none c.args.file.now c.args.head c.args.words.now c.args.location c.args.asked (length c.args.hits.now) (length c.args.text.now)
    c.if-words-eq0.true

pub returns : goal.returns
returns c =
    c.atlas_in.ensures ∙ look_some c.args.file.now c.args.head c.args.words.now c.args.location c.args.asked (length c.args.hits.now) (length c.args.text.now)
    c.if-words-eq0.false
