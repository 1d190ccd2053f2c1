-- `zones::simple::describe` meets its contract, by how far it came.
use Rattle.numbers.{proofs.{Prelude.{ℕ, take, ◌≡◌, ap, ◌∙◌, arith}, Replies.{passed_on}}, specs.Reply.{given}}
use Rattle.table.{proofs.Words.{count_slots, slot_is}, specs.Hits.{slots}}
use Rattle.zones.proofs.simple.{Describing.{parts_lie, no_matches, described, not_named, no_name, written, no_room}}
use Rattle.zones.specs.Simple.{description_of, told_named}
use Rattle.zones.proofs.simple.describe.Goals as goal

pub returns-then-count-eq0 : goal.returns-then-count-eq0
returns-then-count-eq0 c =
    no_matches _ _ _ _ c.requires.0 (ap (λ (k : ℕ). take k (slots c.args.hits.now)) c.if-count-eq0.true)

pub returns-in_default : goal.returns-in_default
returns-in_default c =
    let so : told_named c.args.file.now c.name_of.result ≡ description_of c.args.file.now c.args.head (take c.args.count (slots c.args.hits.now)) = described
    c.args.file.now c.args.head _ c.name_of.result (omega (arith, c.if-count-eq0.false, count_slots c.args.hits.now c.args.count c.requires.1)) (slot_is
    c.args.hits.now c.args.count c.requires.1 _ 0 (omega (arith, c.if-count-eq0.false)) c.hit_at-hit.ensures) c.name_of.ensures.0 in
    no_name _ _ _ _ c.name_of.result so c.requires.0 (c.in_ok-parts.was ∙ ap given c.in_default.is)

pub returns-in_err-parts : goal.returns-in_err-parts
returns-in_err-parts c =
    let so : told_named c.args.file.now c.name_of.result ≡ description_of c.args.file.now c.args.head (take c.args.count (slots c.args.hits.now)) = described
    c.args.file.now c.args.head _ c.name_of.result (omega (arith, c.if-count-eq0.false, count_slots c.args.hits.now c.args.count c.requires.1)) (slot_is
    c.args.hits.now c.args.count c.requires.1 _ 0 (omega (arith, c.if-count-eq0.false)) c.hit_at-hit.ensures) c.name_of.ensures.0 in
    rw (passed_on _ c.from_residual.ensures.1) (not_named _ _ _ _ _ so _ c.in_err-parts.was)

pub join-requires : goal.join-requires
join-requires c =
    let lies = parts_lie _ (c.in_ok-parts.was ∙ ap given c.in-Some.is) c.name_of.ensures.1 in
    (c.requires.0, lies.one, lies.two)

pub returns : goal.returns
returns c =
    let so : told_named c.args.file.now c.name_of.result ≡ description_of c.args.file.now c.args.head (take c.args.count (slots c.args.hits.now)) = described
    c.args.file.now c.args.head _ c.name_of.result (omega (arith, c.if-count-eq0.false, count_slots c.args.hits.now c.args.count c.requires.1)) (slot_is
    c.args.hits.now c.args.count c.requires.1 _ 0 (omega (arith, c.if-count-eq0.false)) c.hit_at-hit.ensures) c.name_of.ensures.0 in
    written _ _ _ _ _ so (c.in_ok-parts.was ∙ ap given c.in-Some.is) _ c.join.ensures c.in_ok-size.was

pub returns-in_err-size : goal.returns-in_err-size
returns-in_err-size c =
    let so : told_named c.args.file.now c.name_of.result ≡ description_of c.args.file.now c.args.head (take c.args.count (slots c.args.hits.now)) = described
    c.args.file.now c.args.head _ c.name_of.result (omega (arith, c.if-count-eq0.false, count_slots c.args.hits.now c.args.count c.requires.1)) (slot_is
    c.args.hits.now c.args.count c.requires.1 _ 0 (omega (arith, c.if-count-eq0.false)) c.hit_at-hit.ensures) c.name_of.ensures.0 in
    rw (passed_on _ c.from_residual-in_err-size.ensures.1) (no_room _ _ _ _ _ so (c.in_ok-parts.was ∙ ap given c.in-Some.is) _ c.join.ensures _ c.in_err-size.was)
