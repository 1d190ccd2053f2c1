-- `verdict::judge::judge_on` meets its contract. The loop's invariant: what is left of the border, from where it has come to, comes to what the whole does; and what
-- is kept of the last point is right. The measure is the points that are to come.
use Rattle.numbers.proofs.Prelude.{sym, subst, ◌∙◌, lt_of_le_of_lt}
use Rattle.border.{proofs.Trace.{point_trace}}
use Rattle.verdict.proofs.{Gliding.{point_shorter, glides_shorter}, Kept.{point_kept, seen_again}}
use Rattle.verdict.proofs.judge.{Walks.{Along, along_starts, along_enough, along_closes, along_unread, along_stops, along_on, along_glides}}
use Rattle.verdict.specs.{Verdict.{after}, inner.{Kept.{last_of}}}
use Rattle.verdict.proofs.judge.judge_on.Goals as goal

pub loop-encoding-init : goal.loop-encoding-init
loop-encoding-init c = (
  along_starts c.args.file.now c.args.encoding c.args.fix c.args.asked c.args.edges c.args.start c.args.tally c.args.limited c.seen_from-last.result.point
      (point_kept _ _ _ c.seen_from-last.ensures),
  seen_again _ _ _ c.seen_from-last.ensures,
)

pub returns-then-is_done : goal.returns-then-is_done
returns-then-is_done c =
    along_enough c.args.file.now c.args.encoding c.args.fix c.args.asked c.args.edges c.args.start c.args.tally c.loop-encoding.reader (last_of
    c.loop-encoding.begun c.loop-encoding.last.point) c.loop-encoding.tally c.args.limited c.loop-encoding.left c.loop-encoding.invariant.0 (sym c.is_done.ensures
    ∙ c.if-is_done.true)

pub returns-in-Ok-None : goal.returns-in-Ok-None
returns-in-Ok-None c =
    along_closes c.args.file.now c.args.encoding c.args.fix c.args.asked c.args.edges c.args.start c.args.tally c.loop-encoding.reader (last_of c.loop-encoding.begun c.loop-encoding.last.point)
    c.loop-encoding.tally c.args.limited c.loop-encoding.left c.loop-encoding.invariant.0 (sym c.is_done.ensures ∙ c.if-is_done.false)
    (rw (c.in-Ok-None.is, c.in-Ok-None.field-0-is) at c.next_point.ensures)

pub returns-in-Err : goal.returns-in-Err
returns-in-Err c =
    along_unread c.args.file.now c.args.encoding c.args.fix c.args.asked c.args.edges c.args.start c.args.tally c.loop-encoding.reader (last_of c.loop-encoding.begun c.loop-encoding.last.point)
    c.loop-encoding.tally c.args.limited c.loop-encoding.left c.loop-encoding.invariant.0 (sym c.is_done.ensures ∙ c.if-is_done.false) c.in-Err.stop
    (rw c.in-Err.is at c.next_point.ensures)

pub judge_point-requires : goal.judge_point-requires
judge_point-requires c =
    record { fixed = c.spot_of-at.ensures; left = c.loop-encoding.invariant.1; reached = seen_again _ _ _ c.seen_from-here.ensures }

pub returns-in-Err-judge_point : goal.returns-in-Err-judge_point
returns-in-Err-judge_point c =
    along_stops c.args.file.now c.args.encoding c.args.fix c.args.asked c.args.edges c.args.start c.args.tally c.loop-encoding.reader (last_of c.loop-encoding.begun c.loop-encoding.last.point)
    c.loop-encoding.tally c.in-Ok-Some.later (rw (c.in-Ok-Some.is, c.in-Ok-Some.field-0-is) at c.next_point.ensures)
    c.seen_from-here.result.point (point_kept _ _ _ c.seen_from-here.ensures) c.args.limited c.loop-encoding.left c.loop-encoding.invariant.0 (sym c.is_done.ensures
    ∙ c.if-is_done.false) c.in-Err-judge_point.halt (rw c.in-Err-judge_point.is at c.judge_point.ensures)

pub loop-encoding-smaller-in-None : goal.loop-encoding-smaller-in-None
loop-encoding-smaller-in-None c =
    point_shorter (point_trace c.args.file.now c.args.encoding c.loop-encoding.reader c.in-Ok-Some.later (rw (c.in-Ok-Some.is, c.in-Ok-Some.field-0-is) at c.next_point.ensures))

pub loop-encoding-preserved-in-None : goal.loop-encoding-preserved-in-None
loop-encoding-preserved-in-None c =
    let said = rw (c.in-Ok-Some.is, c.in-Ok-Some.field-0-is) at c.next_point.ensures in
    let passed = rw c.in-Ok.is at c.judge_point.ensures in (
      subst (Along c.args.file.now c.args.encoding c.args.fix c.args.asked c.args.edges c.args.start c.args.tally c.args.limited
          c.in-Ok-Some.later (after c.seen_from-here.result.point) c.in-Ok.counted) (sym c.saturating_sub-left.ensures) (along_on c.args.file.now c.args.encoding c.args.fix c.args.asked c.args.edges c.args.start c.args.tally c.loop-encoding.reader (last_of c.loop-encoding.begun c.loop-encoding.last.point)
          c.loop-encoding.tally
          c.in-Ok-Some.later said c.seen_from-here.result.point (point_kept _ _ _ c.seen_from-here.ensures) c.args.limited c.loop-encoding.left
          c.loop-encoding.invariant.0 (sym c.is_done.ensures ∙ c.if-is_done.false) c.in-Ok.counted passed),
      seen_again _ _ _ c.seen_from-here.ensures,
    )

pub loop-encoding-smaller : goal.loop-encoding-smaller
loop-encoding-smaller c =
    lt_of_le_of_lt (glides_shorter c.glide_on-reader.ensures) (point_shorter (point_trace c.args.file.now c.args.encoding c.loop-encoding.reader c.in-Ok-Some.later
    (rw (c.in-Ok-Some.is, c.in-Ok-Some.field-0-is) at c.next_point.ensures)))

pub loop-encoding-preserved : goal.loop-encoding-preserved
loop-encoding-preserved c =
    let said = rw (c.in-Ok-Some.is, c.in-Ok-Some.field-0-is) at c.next_point.ensures in
    let passed = rw c.in-Ok.is at c.judge_point.ensures in
    let onward : Along c.args.file.now c.args.encoding c.args.fix c.args.asked c.args.edges c.args.start c.args.tally c.args.limited c.in-Ok-Some.later (after
    c.seen_from-here.result.point) c.in-Ok.counted c.saturating_sub-left.result =
    subst (Along c.args.file.now c.args.encoding c.args.fix c.args.asked c.args.edges c.args.start c.args.tally c.args.limited
    c.in-Ok-Some.later (after c.seen_from-here.result.point) c.in-Ok.counted) (sym c.saturating_sub-left.ensures) (along_on c.args.file.now c.args.encoding c.args.fix c.args.asked c.args.edges c.args.start c.args.tally c.loop-encoding.reader (last_of c.loop-encoding.begun c.loop-encoding.last.point)
    c.loop-encoding.tally
    c.in-Ok-Some.later said c.seen_from-here.result.point (point_kept _ _ _ c.seen_from-here.ensures) c.args.limited c.loop-encoding.left
    c.loop-encoding.invariant.0 (sym c.is_done.ensures ∙ c.if-is_done.false) c.in-Ok.counted passed) in
    let calm = rw c.in-Some.is at c.open_along.ensures in (
      along_glides c.args.file.now c.args.encoding c.args.fix c.args.asked c.args.edges c.args.start c.args.tally c.args.limited calm.0 c.in-Ok-Some.later
          c.glide_on-reader.result c.seen_from-here.result.point c.seen_from-last-in-Some.result.point c.in-Ok.counted c.saturating_sub-left.result onward (point_kept _ _ _
          c.seen_from-here.ensures) calm.1.0 calm.1.1 c.glide_on-reader.ensures (point_kept _ _ _ c.seen_from-last-in-Some.ensures),
      seen_again _ _ _ c.seen_from-last-in-Some.ensures,
    )
