-- `builder::borders::draw_border` meets its contract.
use Rattle.numbers.proofs.Prelude.{ap, arith}
use Rattle.numbers.specs.Reply.{refused}
use Rattle.builder.proofs.{Draws.{border_known, got_of, away_of, cut_off, too_long, draws}}
use Rattle.builder.proofs.borders.draw_border.Goals as goal

pub returns-in-Err : goal.returns-in-Err
returns-in-Err c =
    away_of _ _ _ _ c.write_border_words.ensures _ _ _ _ _ c.in-Err.is (border_known _ _ _ _ _) c.requires _ (ap refused c.unwritten.ensures)

pub returns-then-cut : goal.returns-then-cut
returns-then-cut c =
    cut_off _ _ _ _ _ _ _ _ (got_of _ _ _ _ c.write_border_words.ensures _ c.in-Ok.is) c.if-cut.true _ (ap refused c.with.ensures)

pub returns-then-room-size : goal.returns-then-room-size
returns-then-room-size c =
    too_long _ _ _ _ _ _ _ _ (got_of _ _ _ _ c.write_border_words.ensures _ c.in-Ok.is) c.if-cut.false (omega (arith, c.if-room-size.true)) _
    (ap refused c.alone.ensures)

pub returns-then-room-size-2 : goal.returns-then-room-size-2
returns-then-room-size-2 c =
    too_long _ _ _ _ _ _ _ _ (got_of _ _ _ _ c.write_border_words.ensures _ c.in-Ok.is) c.if-cut.false (omega (
      arith,
      c.if-room-size.false,
      c.if-room-size-2.true,
    )) _ (ap refused c.alone-then-room-size-2.ensures)

pub returns : goal.returns
returns c =
    draws _ _ _ _ _ _ _ _ (got_of _ _ _ _ c.write_border_words.ensures _ c.in-Ok.is) c.if-cut.false (omega (
      arith,
      c.if-room-size.false,
      c.if-room-size-2.false,
    ))
