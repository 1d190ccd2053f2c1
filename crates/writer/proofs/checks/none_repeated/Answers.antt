-- `writer::checks::none_repeated` meets its contract.
use Rattle.numbers.proofs.Prelude.{get_or, true, false, ◌≡◌, refl, sym, ap, ◌∙◌, arith}
use Rattle.writer.specs.{Moves.{moves_of, is_move}, Writer.{every}}
use Rattle.writer.proofs.{Indexed.{still, border_length, move_at_lem, every_bad, every_good, every_done}}
use Rattle.writer.proofs.checks.none_repeated.Goals as goal

pub loop-i-init : goal.loop-i-init
loop-i-init c =
    (omega arith, refl)

pub moves_at-requires : goal.moves_at-requires
moves_at-requires c =
    (omega arith, omega (arith, c.requires.1))

pub returns-then-not-moves_at : goal.returns-then-not-moves_at
returns-then-not-moves_at c =
    let ms = moves_of c.args.lats.now c.args.lons.now in
    let test = c.loop-i-test.true in
    let same = c.requires.1 in
    let bad : is_move (get_or ms c.loop-i.i still) ≡ false = ap is_move (move_at_lem c.args.lats.now c.args.lons.now c.loop-i.i test (omega arith))
    ∙ sym c.moves_at.ensures ∙ c.if-not-moves_at.true in
    sym (every_bad is_move ms c.loop-i.i still (omega (arith, border_length c.args.lats.now c.args.lons.now)) bad) ∙ c.loop-i.invariant.1

pub loop-i-preserved : goal.loop-i-preserved
loop-i-preserved c =
    let ms = moves_of c.args.lats.now c.args.lons.now in
    let test = c.loop-i-test.true in
    let same = c.requires.1 in
    let good : is_move (get_or ms c.loop-i.i still) ≡ true = ap is_move (move_at_lem c.args.lats.now c.args.lons.now c.loop-i.i test (omega arith))
    ∙ sym c.moves_at.ensures ∙ c.if-not-moves_at.false in
    (omega arith, every_good is_move ms c.loop-i.i still (omega (arith, border_length c.args.lats.now c.args.lons.now)) good ∙ c.loop-i.invariant.1)

pub returns : goal.returns
unfolding every
returns c =
    sym (every_done is_move (moves_of c.args.lats.now c.args.lons.now) c.loop-i.i (omega (arith, border_length c.args.lats.now c.args.lons.now, c.loop-i-test.false)))
    ∙ c.loop-i.invariant.1
