-- `slip::hours::hours_of` meets its contract.
use Rattle.numbers.proofs.{Prelude.{length, take, sym, ap, ◌∙◌, arith}, Replies.{held}}
use Rattle.request.specs.Told.{shown}
use Rattle.slip.proofs.{Asking.{agreeing_one, agreeing_more, agreeing_stop, agreeing_all, asked_stop, asked_none}, Locals.{as_passed}}
use Rattle.slip.specs.{Hour.{hours_from}, Told.{Seen, Stands, hour_at}}
use Rattle.table.{proofs.{Agreeing.{agree_refused}, Words.{count_slots, slot_is}}, specs.{Hits.{slots}, inner.Agreeing.{Agrees}}}
use Rattle.slip.proofs.hours.hours_of.Goals as goal

pub returns-in_err-first : goal.returns-in_err-first
returns-in_err-first c =
    as_passed (Agrees (Seen _ _) _) _ c.from_residual.ensures.1 (agree_refused (Seen _ _) (asked_stop _ _ _ _ (take c.args.count (slots c.args.hits.now)) 0 _ (asked_none _ _ _ _ _) (omega (
      arith,
      c.requires.0,
      count_slots
          c.args.hits.now c.args.count c.requires.1,
    )) (slot_is c.args.hits.now c.args.count c.requires.1 _ _ c.requires.0 c.hit_at.ensures) (sym c.hour_of.ensures.0
    ∙ ap (λ reply. shown reply (hour_at c.args.map.now c.args.zones.now)) c.in_err-first.was)))

pub loop-i-init : goal.loop-i-init
loop-i-init c =
    agreeing_one _ _ _ _ (take c.args.count (slots c.args.hits.now)) _ (omega (arith, c.requires.0, count_slots c.args.hits.now c.args.count c.requires.1))
    (slot_is c.args.hits.now c.args.count c.requires.1 _ _ c.requires.0 c.hit_at.ensures) (sym c.hour_of.ensures.0
    ∙ ap (λ reply. shown reply (hour_at c.args.map.now c.args.zones.now)) c.in_ok-first.was) (held (Stands (length c.args.map.now) (length c.args.zones.now))
    c.in_ok-first.was c.hour_of.ensures.1)

pub returns-in_err-spot : goal.returns-in_err-spot
returns-in_err-spot c =
    as_passed (Agrees (Seen _ _) _) _ c.from_residual-in_err-spot.ensures.1 (agree_refused (Seen _ _) (agreeing_stop _ _ _ _ (take c.args.count (slots c.args.hits.now)) _ c.loop-i.i c.loop-i.invariant (omega (
      arith,
      c.loop-i-test.true,
      count_slots c.args.hits.now c.args.count c.requires.1,
    )) (slot_is c.args.hits.now c.args.count c.requires.1 _ _ c.loop-i-test.true c.hit_at-in-loop-i.ensures) (sym
    c.hour_of-in-loop-i.ensures.0 ∙ ap (λ reply. shown reply (hour_at c.args.map.now c.args.zones.now)) c.in_err-spot.was)))

pub loop-i-preserved : goal.loop-i-preserved
loop-i-preserved c =
    agreeing_more _ _ _ _ (take c.args.count (slots c.args.hits.now)) _ c.in_ok-spot.spot c.loop-i.i c.loop-i.invariant (omega (
      arith,
      c.loop-i-test.true,
      count_slots c.args.hits.now c.args.count c.requires.1,
    )) (slot_is c.args.hits.now c.args.count c.requires.1 _ _ c.loop-i-test.true c.hit_at-in-loop-i.ensures) (sym
    c.hour_of-in-loop-i.ensures.0 ∙ ap (λ reply. shown reply (hour_at c.args.map.now c.args.zones.now)) c.in_ok-spot.was) c.still-agree.ensures

pub returns : goal.returns
returns c =
    agreeing_all _ _ _ _ (take c.args.count (slots c.args.hits.now)) _ _ c.loop-i.i c.loop-i.invariant (omega (
      arith,
      c.loop-i-test.false,
      count_slots
          c.args.hits.now c.args.count c.requires.1,
    ))
