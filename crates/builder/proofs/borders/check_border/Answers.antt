-- `builder::borders::check_border` meets its contract.
use Rattle.builder.proofs.{Draws.{check_never, check_says}}
use Rattle.builder.proofs.borders.check_border.Goals as goal

pub returns-in-Ok : goal.returns-in-Ok
returns-in-Ok c =
    absurd (check_never _ _ _ _ c.write_border_words.ensures _ c.in-Ok.is)

pub returns-in-Err : goal.returns-in-Err
returns-in-Err c =
    check_says _ _ _ _ c.write_border_words.ensures _ c.in-Err.is _ c.good_if.ensures
