-- `atlas::search::find_beside` meets its contract, by whether there are words.
use Rattle.numbers.proofs.Prelude.{length}
use Rattle.atlas.proofs.{Choosing.{find_none, find_some}}
use Rattle.atlas.proofs.search.find_beside.Goals as goal

pub returns-then-words-eq0 : goal.returns-then-words-eq0
returns-then-words-eq0 c =
    find_none c.args.file.now c.args.head c.args.words.now c.args.location c.args.asked (length c.args.hits.now) _ c.find_in.result c.if-words-eq0.true
    c.find_in.ensures

pub returns : goal.returns
returns c =
    find_some c.args.file.now c.args.head c.args.words.now c.args.location c.args.asked (length c.args.hits.now) _ c.find_atlas.result
    c.if-words-eq0.false c.find_atlas.ensures
