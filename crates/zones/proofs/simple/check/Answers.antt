-- `zones::simple::check` meets its contract. The loop's invariant: the matches that are left give the whole.
use Rattle.numbers.proofs.{Prelude.{take, refl, ◌∙◌, arith}, Replies.{passed_on}}
use Rattle.table.{proofs.Words.{count_slots, slot_is}, specs.Hits.{slots}}
use Rattle.zones.proofs.simple.{Picking.{all_checked, match_good, match_bad}}
use Rattle.zones.proofs.simple.check.Goals as goal

pub loop-i-init : goal.loop-i-init
loop-i-init c =
    (refl, omega arith)

pub hit_at-hit-requires : goal.hit_at-hit-requires
hit_at-hit-requires c =
    omega (arith, c.requires)

pub loop-i-preserved : goal.loop-i-preserved
loop-i-preserved c = (
  match_good c.args.file.now c.args.head (take c.args.count (slots c.args.hits.now)) c.loop-i.i c.loop-i.invariant.0 (omega (
    arith,
    c.loop-i-test.true,
    count_slots c.args.hits.now c.args.count c.requires,
  )) (slot_is c.args.hits.now c.args.count c.requires _ _ c.loop-i-test.true c.hit_at-hit.ensures)
      c.fields_place-start.ensures c.pick.result c.pick.ensures c.in_ok-pick.was,
  omega (arith, c.loop-i-test.true),
)

pub returns-in_err-pick : goal.returns-in_err-pick
returns-in_err-pick c =
    passed_on _ c.from_residual.ensures.1 ∙ match_bad c.args.file.now c.args.head (take c.args.count (slots c.args.hits.now)) c.loop-i.i c.loop-i.invariant.0 (omega (
      arith,
      c.loop-i-test.true,
      count_slots
          c.args.hits.now c.args.count c.requires,
    )) (slot_is c.args.hits.now c.args.count c.requires _ _ c.loop-i-test.true c.hit_at-hit.ensures)
    c.fields_place-start.ensures c.pick.result c.pick.ensures c.in_err-pick.was

pub returns : goal.returns
returns c =
    all_checked c.args.file.now c.args.head (take c.args.count (slots c.args.hits.now)) c.loop-i.i c.loop-i.invariant.0 (omega (
      arith,
      c.loop-i-test.false,
      count_slots c.args.hits.now c.args.count c.requires,
    ))
