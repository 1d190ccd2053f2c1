-- `slip::slip::slip_in` meets its contract.
use Rattle.numbers.proofs.Prelude.{◌/◌, length, false, sym, ap, ◌∙◌}
use Rattle.atlas.specs.Beside.{matched_beside, zones_beside}
use Rattle.slip.proofs.{Locals.{as_passed}, Stamps.{With, not_looked, not_whole, with_ink}}
use Rattle.slip.specs.Slip.{place_of}
use Rattle.table.{proofs.Agreeing.{refused_so}, specs.Hits.{width}}
use Rattle.zones.{proofs.{Lent.{Lent, lent}, Replying.{agrees_of}}, specs.{Lent.{replied}}}
use Rattle.slip.proofs.slip.slip_in.Goals as goal

pub returns-in_err-found : goal.returns-in_err-found
returns-in_err-found c =
    let n = length c.args.hits.now in
    let room = length c.args.text.now in
    let whole = zones_beside c.args.map.now c.args.head c.args.atlas.now (place_of c.args.fix) false n room in
    let said = agrees_of n room whole (c.lookup_beside.result) c.lookup_beside.new.hits c.lookup_beside.new.text c.lookup_beside.ensures in
    as_passed (With c.args.fix _ _ _ _ _ _ _ _ _ _) _ c.from_residual.ensures.1 (not_looked c.args.fix _ _ _ _ _ _ _ _ _ _ (refused_so _ whole said c.in_err-found.was))

pub returns-then-found-ne1 : goal.returns-then-found-ne1
unfolding zones_beside
returns-then-found-ne1 c =
    let looked : Lent (length c.args.hits.now) (length c.args.text.now) (zones_beside c.args.map.now c.args.head c.args.atlas.now (place_of c.args.fix) false
    (length c.args.hits.now) (length c.args.text.now)) c.in_ok-found.found c.lookup_beside.new.hits c.lookup_beside.new.text = lent c.args.map.now c.args.head false
    _ _ (matched_beside c.args.map.now c.args.head c.args.atlas.now (place_of c.args.fix) false (length c.args.hits.now / width)) _ _ _ (ap (λ r. replied r c.lookup_beside.new.hits c.lookup_beside.new.text) (sym c.in_ok-found.was) ∙ c.lookup_beside.ensures) in
    not_whole c.args.fix _ _ _ _ _ _ _ looked _ _ _ c.if-found-ne1.true c.with.ensures

pub stamp-requires : goal.stamp-requires
unfolding zones_beside
stamp-requires c =
    let looked : Lent (length c.args.hits.now) (length c.args.text.now) (zones_beside c.args.map.now c.args.head c.args.atlas.now (place_of c.args.fix) false
    (length c.args.hits.now) (length c.args.text.now)) c.in_ok-found.found c.lookup_beside.new.hits c.lookup_beside.new.text = lent c.args.map.now c.args.head false
    _ _ (matched_beside c.args.map.now c.args.head c.args.atlas.now (place_of c.args.fix) false (length c.args.hits.now / width)) _ _ _ (ap (λ r. replied r c.lookup_beside.new.hits c.lookup_beside.new.text) (sym c.in_ok-found.was) ∙ c.lookup_beside.ensures) in
    (looked.fits c.hits-1.given, c.requires)

pub returns : goal.returns
unfolding zones_beside
returns c =
    let looked : Lent (length c.args.hits.now) (length c.args.text.now) (zones_beside c.args.map.now c.args.head c.args.atlas.now (place_of c.args.fix) false
    (length c.args.hits.now) (length c.args.text.now)) c.in_ok-found.found c.lookup_beside.new.hits c.lookup_beside.new.text = lent c.args.map.now c.args.head false
    _ _ (matched_beside c.args.map.now c.args.head c.args.atlas.now (place_of c.args.fix) false (length c.args.hits.now / width)) _ _ _ (ap (λ r. replied r c.lookup_beside.new.hits c.lookup_beside.new.text) (sym c.in_ok-found.was) ∙ c.lookup_beside.ensures) in
    with_ink c.args.fix _ _ _ _ _ _ _ looked c.if-found-ne1.false _ _ c.stamp.ensures
