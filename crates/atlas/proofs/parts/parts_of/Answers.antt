-- `atlas::parts::parts_of` meets its contract.
use Rattle.numbers.proofs.{Prelude.{sym, ◌∙◌, arith}, Replies.{passed_on}}
use Rattle.index.proofs.Through.{place_inside}
use Rattle.atlas.proofs.{Parting.{no_parts, cut_parts, parts_there}}
use Rattle.atlas.proofs.parts.parts_of.Goals as goal

pub returns-in_err-place : goal.returns-in_err-place
returns-in_err-place c =
    passed_on _ c.from_residual.ensures.1 ∙ no_parts c.args.length c.args.head c.args.words.now c.args.location (sym c.in_err-place.was ∙ c.list_of.ensures)

pub is_whole-requires : goal.is_whole-requires
is_whole-requires c =
    (place_inside c.args.length c.args.head c.args.words.now c.args.location (sym c.in_ok-place.was ∙ c.list_of.ensures)).0

pub returns-then-not-is_whole : goal.returns-then-not-is_whole
returns-then-not-is_whole c =
    let stands = sym c.in_ok-place.was ∙ c.list_of.ensures in
    rw c.alone.ensures (cut_parts c.args.length c.args.head c.args.words.now c.args.location stands (sym c.is_whole.ensures ∙ c.if-not-is_whole.true))

pub bounds-words-2 : goal.bounds-words-2
bounds-words-2 c =
    let stands = sym c.in_ok-place.was ∙ c.list_of.ensures in
    let inside = place_inside c.args.length c.args.head c.args.words.now c.args.location stands in
    omega (arith, inside.0)

pub bounds-words-2051 : goal.bounds-words-2051
bounds-words-2051 c =
    let stands = sym c.in_ok-place.was ∙ c.list_of.ensures in
    let inside = place_inside c.args.length c.args.head c.args.words.now c.args.location stands in
    omega (arith, inside.0)

pub returns : goal.returns
returns c =
    let stands = sym c.in_ok-place.was ∙ c.list_of.ensures in
    parts_there c.args.length c.args.head c.args.words.now c.args.location stands (sym c.is_whole.ensures
    ∙ c.if-not-is_whole.false) c.wide-rows.ensures.0 c.wide-last.ensures.0
