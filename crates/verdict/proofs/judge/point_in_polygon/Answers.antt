-- `verdict::judge::point_in_polygon` meets its contract: it is a walk without a limit from the border's start.
use Rattle.numbers.proofs.Prelude.{pos, ap, ◌∙◌}
use Rattle.border.specs.{Trace.{trace_of}, declared.{place.Point.{Point}, reader.Reader.{Reader}}}
use Rattle.verdict.specs.Verdict.{none, judge, judged_at}
use Rattle.verdict.proofs.judge.point_in_polygon.Goals as goal

pub returns : goal.returns
unfolding judged_at
returns c =
    let fix : Point = record { lat = c.args.lat; lon = c.args.lon } in
    c.answer.ensures ∙ c.judge_on-walk.ensures ∙ ap (λ (s : Reader). judge fix c.args.asked none (record { winding = pos 0; least = c.args.least }) (trace_of
    c.args.file.now c.args.encoding s)) c.open_border-start.ensures
