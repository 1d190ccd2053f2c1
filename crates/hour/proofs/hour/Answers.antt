-- `hour::hour` meets its contract: each of its lines is the one for its input, whole.
use Rattle.numbers.proofs.Prelude.{sfits_of, length, ◌∙◌, w64, arith}
use mir.Facts.{to_z-of_z}
use Rattle.hour.proofs.{Answers.{behind, printed-long, printed-short, printed-answer}}
use Rattle.hour.proofs.hour.Goals as goal

pub returns-then-size-gt65536 : goal.returns-then-size-gt65536
returns-then-size-gt65536 c =
    printed-long c.args.input.now (length c.args.text.now) c.if-size-gt65536.true c.requires.0 c.requires.1 (rw c.refuse.ensures at c.put_refusal.ensures)

pub returns-then-size-lt8 : goal.returns-then-size-lt8
returns-then-size-lt8 c =
    printed-short c.args.input.now (length c.args.text.now) c.if-size-gt65536.false c.if-size-lt8.true c.requires.0 c.requires.1 (rw c.refuse-then-size-lt8.ensures at c.put_refusal-then-size-lt8.ensures)

pub returns : goal.returns
returns c =
    let instant = to_z-of_z {w = w64} (sfits_of c.instant_of-instant.type_inv) ∙ c.instant_of-instant.ensures in
    printed-answer c.args.input.now (length c.args.text.now) c.if-size-gt65536.false c.if-size-lt8.false instant instant (behind c.args.input.now)
    c.local_time-timed.ensures.0 c.local_time-timed.ensures.1 c.on_scale-answer.ensures (omega (arith, c.requires.0)) c.requires.1 c.put_answer.ensures
