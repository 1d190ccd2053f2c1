-- `header::text::inside` meets its contract.
use Rattle.numbers.proofs.Prelude.{◌+◌, eq-eqb, ne_eqb, le-leb, lt-leb, length, arith}
use Rattle.header.specs.Text.{within}
use Rattle.header.proofs.text.inside.Goals as goal

pub returns-then-size-eq0 : goal.returns-then-size-eq0
unfolding within
returns-then-size-eq0 c =
    simp (eq-eqb _ _ c.if-size-eq0.true)

pub returns-then-file-start : goal.returns-then-file-start
unfolding within
returns-then-file-start c =
    simp (ne_eqb _ _ c.if-size-eq0.false, lt-leb (c.args.start + c.args.size) (length c.args.file.now) (grind arith))

pub returns : goal.returns
unfolding within
returns c =
    simp (ne_eqb _ _ c.if-size-eq0.false, le-leb (c.args.start + c.args.size) (length c.args.file.now) (omega arith))
