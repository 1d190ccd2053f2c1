-- `zones::lookup::look` meets its contract, by how far it came.
use Rattle.numbers.{proofs.{Prelude.{length, sym, ap}, Replies.{passed_on}}, specs.Reply.{Reply}}
use Rattle.table.specs.declared.find.Matches.{Matches}
use Rattle.zones.proofs.lookup.{Keeping.{kept_gave, kept_room}, Looking.{no_match, looked}}
use Rattle.zones.specs.Lookup.{matched_in}
use Rattle.zones.proofs.lookup.look.Goals as goal

pub returns-in_err-found : goal.returns-in_err-found
returns-in_err-found c =
    rw (passed_on _ c.from_residual.ensures.1) (no_match c.args.file.now c.args.head c.args.asked (length c.args.hits.now) (length c.args.text.now) (matched_in c.args.found c.args.hits.now) _ _
    (ap (λ (f : Reply Matches). matched_in f c.args.hits.now) (sym c.in_err-found.was)))

pub tell-requires : goal.tell-requires
tell-requires c =
    (c.requires.0, kept_room c.args.found c.args.hits.now c.in_ok-found.was c.requires.1)

pub returns : goal.returns
returns c =
    looked c.args.file.now c.args.head c.args.asked (length c.args.hits.now) (length c.args.text.now) (matched_in c.args.found c.args.hits.now)
    (kept_gave c.args.found c.args.hits.now c.in_ok-found.was c.requires.1) _ c.tell.result c.tell.ensures
