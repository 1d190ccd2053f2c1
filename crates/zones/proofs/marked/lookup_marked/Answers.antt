-- `zones::marked::lookup_marked` meets its contract: the answer to what its search found.
use Rattle.numbers.proofs.Prelude.{rules, length, ◌≡◌, ◌∙◌}
use Rattle.table.proofs.Matches.{marked_agrees}
use Rattle.zones.proofs.lookup.Keeping.{kept_in, matched_is}
use Rattle.zones.specs.{Lent.{replied_of}, Lookup.{zones_from}}
use Rattle.zones.specs.Marked.{zones_marked, looked_marked}
use Rattle.zones.proofs.marked.lookup_marked.Goals as goal

pub answer-requires : goal.answer-requires
answer-requires c =
    let same : length c.find_marked-found.new.hits ≡ length c.args.hits.now = search rules in
    kept_in _ same _ _ (marked_agrees c.args.file.now c.args.head c.args.location c.args.asked c.args.records.now c.args.numbers.now c.args.marks.now (length c.args.hits.now) _ _ c.find_marked-found.ensures)

pub returns : goal.returns
unfolding looked_marked zones_marked
returns c =
    let same : length c.find_marked-found.new.hits ≡ length c.args.hits.now = search rules in
    let found = marked_agrees c.args.file.now c.args.head c.args.location c.args.asked c.args.records.now c.args.numbers.now c.args.marks.now (length c.args.hits.now) _ _ c.find_marked-found.ensures in
    c.answer.ensures ∙ (λ i. replied_of (same i) (length c.args.text.now) (zones_from c.args.file.now c.args.head c.args.asked (length c.args.text.now) (matched_is _ same _ _ found i)))
