-- `edit::replacing::find::is_value` meets its contract.
use Rattle.edit.proofs.replacing.{Found.{long_no_text, one_text}}
use Rattle.edit.proofs.replacing.find.is_value.Goals as goal

pub returns-then-size-gt255 : goal.returns-then-size-gt255
returns-then-size-gt255 c =
    long_no_text _ c.if-size-gt255.true

pub returns : goal.returns
returns c =
    one_text _ _ c.are_texts.ensures
