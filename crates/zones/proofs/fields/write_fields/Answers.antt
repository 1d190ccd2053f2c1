-- `zones::fields::write_fields` meets its contract. The loop's invariant is `Writing`: the matches that are left give the whole.
use Rattle.numbers.proofs.{Prelude.{arith}, Replies.{passed_on}}
use Rattle.zones.proofs.fields.{Filling.{begins, writing_length, from_here, all_written, match_refused, match_written}}
use Rattle.table.{proofs.Words.{count_slots, slot_is}}
use Rattle.zones.proofs.fields.write_fields.Goals as goal

pub loop-i-init : goal.loop-i-init
loop-i-init c =
    (begins _ _ _ _ _ c.requires.0, omega arith)

pub hit_at-hit-requires : goal.hit_at-hit-requires
hit_at-hit-requires c =
    omega (arith, c.requires.1)

pub write_match-requires : goal.write_match-requires
write_match-requires c =
    from_here _ _ _ _ c.loop-i.invariant.0

pub shape_of-text-in_err-at : goal.shape_of-text-in_err-at
shape_of-text-in_err-at c =
    omega (arith, c.text-1.given, writing_length _ _ _ _ c.loop-i.invariant.0)

pub returns-in_err-at : goal.returns-in_err-at
returns-in_err-at c =
    rw (passed_on _ c.from_residual.ensures.1) (match_refused _ _ _ _ c.loop-i.invariant.0 (omega (arith, c.loop-i-test.true, count_slots c.args.hits.now c.args.count c.requires.1)) _ (slot_is c.args.hits.now
    c.args.count c.requires.1 _ _ c.loop-i-test.true c.hit_at-hit.ensures) _ c.fields_place-start.ensures c.write_match.result c.write_match.new.text
    c.write_match.ensures _ c.in_err-at.was)

pub loop-i-preserved : goal.loop-i-preserved
loop-i-preserved c = (
  match_written _ _ _ _ c.loop-i.invariant.0 (omega (arith, c.loop-i-test.true, count_slots c.args.hits.now c.args.count c.requires.1)) _ (slot_is
      c.args.hits.now c.args.count c.requires.1 _ _ c.loop-i-test.true c.hit_at-hit.ensures) _ c.fields_place-start.ensures c.write_match.result
      c.write_match.new.text c.write_match.ensures (omega (arith, c.text-1.given, writing_length _ _ _ _ c.loop-i.invariant.0)) c.in_ok-at.was,
  omega (
    arith,
    c.loop-i-test.true,
  ),
)

pub shape_of-text : goal.shape_of-text
shape_of-text c =
    writing_length _ _ _ _ c.loop-i.invariant.0

pub returns : goal.returns
returns c =
    all_written _ _ _ _ c.loop-i.invariant.0 (omega (arith, c.loop-i-test.false, count_slots c.args.hits.now c.args.count c.requires.1))
