-- `zones::lookup::lookup_listed` meets its contract: the answer to what its search found.
use Rattle.numbers.proofs.Prelude.{rules, length, ◌≡◌, ◌∙◌}
use Rattle.table.proofs.Matches.{listed_agrees}
use Rattle.zones.proofs.lookup.Keeping.{kept_in, matched_is}
use Rattle.zones.specs.{Lent.{replied_of}, Lookup.{zones_from}}
use Rattle.zones.specs.Lookup.{zones_listed, looked_listed}
use Rattle.zones.proofs.lookup.lookup_listed.Goals as goal

pub answer-requires : goal.answer-requires
answer-requires c =
    let same : length c.find_listed-found.new.hits ≡ length c.args.hits.now = search rules in
    kept_in _ same _ _ (listed_agrees c.args.file.now c.args.head c.args.location c.args.asked c.args.records.now c.args.numbers.now (length c.args.hits.now) _ _ c.find_listed-found.ensures)

pub returns : goal.returns
unfolding looked_listed zones_listed
returns c =
    let same : length c.find_listed-found.new.hits ≡ length c.args.hits.now = search rules in
    let found = listed_agrees c.args.file.now c.args.head c.args.location c.args.asked c.args.records.now c.args.numbers.now (length c.args.hits.now) _ _ c.find_listed-found.ensures in
    c.answer.ensures ∙ (λ i. replied_of (same i) (length c.args.text.now) (zones_from c.args.file.now c.args.head c.args.asked (length c.args.text.now) (matched_is _ same _ _ found i)))
