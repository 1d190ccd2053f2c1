use Rattle.std.proofs.Common.{sym, subst}
use Rattle.std.proofs.KnownBytes.{Appends-nil}
use Rattle.std.specs.Io.KnownBytes.{Appends}
use Rattle.shell.proofs.{Ends.{end_none, end_one}, Streams.{finished_none, finished_one}}
use Rattle.shell.proofs.stream.finish.Goals as goal

pub returns-then-request-eq0-clause-finished : goal.returns-then-request-eq0-clause-finished
returns-then-request-eq0-clause-finished g c = finished_none _ _ _ _ c.if-request-eq0.true

pub returns-then-request-eq0-clause-faults : goal.returns-then-request-eq0-clause-faults
returns-then-request-eq0-clause-faults g c = (end_none c.args.request.now _ _ _ c.if-request-eq0.true).0

pub returns-then-request-eq0-clause-lines : goal.returns-then-request-eq0-clause-lines
returns-then-request-eq0-clause-lines g c = subst (Appends _ _) (sym (end_none c.args.request.now c.args.map.now c.args.zones.now c.args.status
    c.if-request-eq0.true).1) (Appends-nil _)

pub returns-clause-finished : goal.returns-clause-finished
returns-clause-finished g c = finished_one _ _ _ c.answer-answered.result _ _ c.if-request-eq0.false c.answer-answered.ensures c.max.ensures

pub returns-clause-faults : goal.returns-clause-faults
returns-clause-faults g c = (end_one c.args.request.now _ _ c.answer-answered.result _ _ c.if-request-eq0.false c.answer-answered.ensures c.max.ensures).0

pub returns-clause-lines : goal.returns-clause-lines
returns-clause-lines g c =
    subst (Appends _ _) (end_one c.args.request.now _ _ c.answer-answered.result c.args.status c.max.result c.if-request-eq0.false c.answer-answered.ensures
    c.max.ensures).1 c.in_ok-put_lines.ensures
