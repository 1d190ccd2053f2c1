-- `marks::judge::count_at` meets its contract, by the tests that led to each answer.
use Rattle.numbers.proofs.Prelude.{arith}
use Rattle.marks.proofs.judge.{Turns.{no_words, no_room, zero_word, room_for}}
use Rattle.marks.specs.Marks.{groups_of}
use Rattle.marks.proofs.judge.count_at.Goals as goal

pub returns-then-words-at : goal.returns-then-words-at
returns-then-words-at c =
    record { some = tt; none = λ e. no_words _ _ c.if-words-at.true }

pub returns-then-count-eq0 : goal.returns-then-count-eq0
returns-then-count-eq0 c =
    record { some = tt; none = λ e. zero_word c.args.words.now c.args.at c.if-count-eq0.true }

pub overflow_add-count : goal.overflow_add-count
unfolding groups_of
overflow_add-count c =
    omega (arith, c.groups_of.ensures)

pub returns-then-words-at-2 : goal.returns-then-words-at-2
returns-then-words-at-2 c =
    record { some = tt; none = λ e. no_room _ _ (omega (arith, c.if-words-at-2.true, c.groups_of.ensures)) }

pub returns : goal.returns
returns c = record {
  some = (
    omega (arith, c.if-count-eq0.false),
    room_for _ _ (omega (arith, c.if-words-at.false)) (omega (arith, c.if-words-at-2.false, c.groups_of.ensures)),
    omega (arith, c.if-words-at.false, c.if-words-at-2.false, c.groups_of.ensures),
  );
  none = λ e. cc;
}
