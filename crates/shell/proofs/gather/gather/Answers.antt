use Rattle.std.proofs.Common.{rules, length-set}
use Rattle.shell.proofs.Pieces.{took_end, took_more, took_plain, push_room, push_full}
use Rattle.shell.proofs.gather.gather.Goals as goal

pub returns-then-byte-eq10 : goal.returns-then-byte-eq10
returns-then-byte-eq10 c = let kept = c.loop-at.invariant.3 in record {
  within = search rules;
  onward = λ h. search rules;
  fits = search rules;
  kept = kept;
  took = took_end c.loop-at.invariant.4 c.loop-at-test.true c.if-byte-eq10.true;
}

pub loop-at-preserved-then-size-lt258 : goal.loop-at-preserved-then-size-lt258
loop-at-preserved-then-size-lt258 c = let kept = c.loop-at.invariant.3 in (
  search rules,
  search rules,
  search rules,
  simp length-set kept,
  took_more _ c.loop-at.invariant.4 c.loop-at-test.true c.if-byte-eq10.false (push_room _ _ _
      kept c.if-size-lt258.true),
)

pub loop-at-preserved : goal.loop-at-preserved
loop-at-preserved c = let kept = c.loop-at.invariant.3 in (
  search rules,
  search rules,
  search rules,
  kept,
  took_more _ c.loop-at.invariant.4 c.loop-at-test.true c.if-byte-eq10.false (push_full _ _ _ kept
      c.if-size-lt258.false),
)

pub returns : goal.returns
returns c = record { within = search rules; onward = λ h. search rules; fits = search rules; kept = c.loop-at.invariant.3; took = took_plain c.loop-at.invariant.4 }
