-- `tzrule::cursor::Cursor::number` meets its contract.
use Rattle.numbers.proofs.Prelude.{refl, sym}
use Rattle.tzrule.proofs.{Times.{number_short, number_low, number_high, number_read}}
use Rattle.tzrule.specs.{inner.Reads.{Reads}}
use Rattle.tzrule.proofs.cursor.Cursor.number.Goals as goal

pub returns-then-next-self : goal.returns-then-next-self
unfolding Reads
returns-then-next-self c =
    ((sym (number_short _ _ _ c.digits_at-digits.ensures.0 c.if-next-self.true), c.digits_at-digits.ensures.1), tt)

pub returns-then-value-shape : goal.returns-then-value-shape
unfolding Reads
returns-then-value-shape c =
    ((sym (number_low _ _ _ c.digits_at-digits.ensures.0 c.if-next-self.false c.if-value-shape.true), c.args.self.inside), tt)

pub returns-then-shape-value : goal.returns-then-shape-value
unfolding Reads
returns-then-shape-value c =
    ((sym (number_high _ _ _ c.digits_at-digits.ensures.0 c.if-next-self.false c.if-value-shape.false c.if-shape-value.true), c.args.self.inside), tt)

pub returns : goal.returns
unfolding Reads
returns c = (
  (refl, sym (number_read _ _ _ c.digits_at-digits.ensures.0 c.if-next-self.false c.if-value-shape.false c.if-shape-value.false)),
  (c.if-value-shape.false, c.if-shape-value.false),
)
