-- `bundle::find::seek` meets its contract.
use Rattle.numbers.proofs.Prelude.{refl, sym, ◌∙◌, arith}
use Rattle.bundle.proofs.{Entries.{seek_here, seek_on, seek_end}}
use Rattle.bundle.specs.Named.{name_of}
use Rattle.bundle.proofs.find.seek.Goals as goal

pub returns-then-is_here : goal.returns-then-is_here
returns-then-is_here c =
    seek_here c.loop-left.left c.args.bundle.now (name_of c.args.wanted) c.loop-left.at c.loop-left-test.true (sym
    c.is_here.ensures ∙ c.if-is_here.true) ∙ c.loop-left.invariant.0

pub loop-left-preserved : goal.loop-left-preserved
loop-left-preserved c = (
  seek_on c.loop-left.left c.args.bundle.now (name_of c.args.wanted) c.loop-left.at c.loop-left-test.true (sym
      c.is_here.ensures ∙ c.if-is_here.false) ∙ c.loop-left.invariant.0,
  omega (arith, c.loop-left.invariant.1),
)

pub returns : goal.returns
returns c =
    seek_end c.loop-left.left c.args.bundle.now (name_of c.args.wanted) c.loop-left.at (omega arith) ∙ c.loop-left.invariant.0
