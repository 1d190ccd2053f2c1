use Rattle.std.proofs.Common.{rules, ◌++◌, sym, ap, subst, ◌∙◌}
use Rattle.std.proofs.KnownBytes.{Appends-nil, Appends-trans}
use Rattle.std.specs.Io.KnownBytes.{Appends}
use Rattle.shell.specs.Written.{lines_of}
use Rattle.shell.proofs.{Ends.{lines_none, sofar_through}, Streams.{sofar_none, sofar_turn, sofar_served}, Whole.{lines_both}}
use Rattle.shell.proofs.stream.piece.Goals as goal

pub loop-at-init : goal.loop-at-init
unfolding sofar_none
loop-at-init g c = (sofar_none _ _ _ _ _ c.requires, subst (Appends _ _) (lines_none _ _) (Appends-nil _))

pub loop-at-preserved : goal.loop-at-preserved
unfolding sofar_turn
loop-at-preserved g c =
    let s = c.loop-at.invariant.0 in
    let t = c.take_turn-turned.ensures in
    let map = c.args.map.now in
    let zones = c.args.zones.now in
    let joined = ap (λ l. lines_of map zones s.done ++ l) t.lines ∙ sym (lines_both map zones s.done t.done) in (
      sofar_turn c.take_turn-turned.result _ s t c.max-worst.ensures,
      subst (Appends _ _) joined (Appends-trans _ _ _ _ _ c.loop-at.invariant.1
          c.in_ok-put_lines.ensures),
    )

pub returns-clause-served : goal.returns-clause-served
returns-clause-served g c = sofar_served c.loop-at.invariant.0 (search rules)

pub returns-clause-rest : goal.returns-clause-rest
returns-clause-rest g c = (sofar_through c.loop-at.invariant.0 (search rules)).rest

pub returns-clause-faults : goal.returns-clause-faults
returns-clause-faults g c = (sofar_through c.loop-at.invariant.0 (search rules)).faults

pub returns-clause-lines : goal.returns-clause-lines
returns-clause-lines g c =
    subst (Appends _ _) (ap (lines_of c.args.map.now c.args.zones.now) (sofar_through c.loop-at.invariant.0 (search rules)).requests) c.loop-at.invariant.1
