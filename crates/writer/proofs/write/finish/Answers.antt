-- `writer::write::finish` meets its contract.
use Rattle.numbers.proofs.Prelude.{le-leb, lt-leb, ap, ◌∙◌}
use Rattle.numbers.specs.{Reply.{refused, plain}, declared.refusal.Refusal.{Refusal}}
use Rattle.writer.specs.Writer.{replied}
use Rattle.writer.proofs.write.finish.Goals as goal

pub returns-then-out-end : goal.returns-then-out-end
returns-then-out-end c =
    ap (λ (why : Refusal). replied (refused why) c.fill.new.self) c.alone.ensures
    ∙ rw (lt-leb _ _ c.if-out-end.true) (ap (replied (refused (plain 24))) (c.fill.ensures.after (λ y e. e)))

pub returns : goal.returns
returns c =
    rw (le-leb _ _ c.if-out-end.false)
