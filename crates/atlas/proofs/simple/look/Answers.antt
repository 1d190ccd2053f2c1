-- `atlas::simple::look` meets its contract, by how far it came.
use Rattle.numbers.proofs.{Prelude.{◌/◌, length, false, arith}, Replies.{passed_on}}
use Rattle.atlas.specs.Beside.{matched_beside, described_beside}
use Rattle.table.{proofs.{Agreeing.{Gave, gave, refused_so}, Matches.{matches_room}}, specs.{Find.{Matching}, Hits.{width}}}
use Rattle.zones.proofs.simple.Replies.{no_match, looked}
use Rattle.atlas.proofs.simple.look.Goals as goal

pub returns-in_err-found : goal.returns-in_err-found
unfolding described_beside
returns-in_err-found c =
    rw (passed_on _ c.from_residual.ensures.1) (no_match _ _ _ _ _ _ _ (refused_so _ _ c.find_beside.ensures c.in_err-found.was))

pub tell-requires : goal.tell-requires
tell-requires c =
    let matched : Gave (Matching (length c.args.hits.now) c.find_beside.new.hits) (matched_beside c.args.file.now c.args.head c.args.words.now c.args.location false
    (length c.args.hits.now / width)) c.in_ok-found.found = gave _ _ c.find_beside.ensures c.in_ok-found.was in
    (c.requires, matches_room matched.fits (omega (arith, c.hits-1.given)))

pub returns : goal.returns
unfolding described_beside
returns c =
    let matched : Gave (Matching (length c.args.hits.now) c.find_beside.new.hits) (matched_beside c.args.file.now c.args.head c.args.words.now c.args.location false
    (length c.args.hits.now / width)) c.in_ok-found.found = gave _ _ c.find_beside.ensures c.in_ok-found.was in
    looked _ _ _ _ _ matched _ _ c.tell.ensures
