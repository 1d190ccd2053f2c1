-- `builder::texts::is_text` meets its contract.
use Rattle.numbers.proofs.Prelude.{refl}
use Rattle.builder.proofs.{Masks.{too_long, masked_size, text_tested}}
use Rattle.builder.proofs.texts.is_text.Goals as goal

pub returns-then-size-gt255 : goal.returns-then-size-gt255
returns-then-size-gt255 c =
    too_long _ c.if-size-gt255.true

pub returns : goal.returns
returns c =
    text_tested _ _ _ _ c.put_masked.ensures refl c.if-size-gt255.false _ c.is_utf8.ensures
