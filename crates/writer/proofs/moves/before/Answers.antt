-- `writer::moves::before` meets its contract.
use Rattle.numbers.proofs.Prelude.{◌∙◌, w32}
use mir.Facts.{to_z-of_z}
use Rattle.writer.proofs.{Indexed.{before_first, before_next}}
use Rattle.writer.proofs.moves.before.Goals as goal

pub returns-then-i-eq0 : goal.returns-then-i-eq0
returns-then-i-eq0 c =
    before_first c.args.list.now c.args.i c.if-i-eq0.true

pub returns : goal.returns
returns c =
    to_z-of_z {w = w32} (record { sfits = c.result-1.given }) ∙ before_next c.args.list.now c.args.i c.if-i-eq0.false
