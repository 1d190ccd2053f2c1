-- `border::reader::plain_turn` meets its contract: it goes on from the moves that are left.
use Rattle.numbers.{proofs.{Laws.{exits, goes_on}, Prelude.{◌∙◌}}, specs.Varint.{reading_of}}
use Rattle.border.proofs.reader.{Counts.{pair_from, counted_turn}}
use Rattle.border.proofs.reader.plain_turn.Goals as goal

pub returns-in_err-moves : goal.returns-in_err-moves
returns-in_err-moves c =
    let read = reading_of c.args.strict c.args.file.now in
    exits c.from_residual.result c.in_err-moves.was c.moves_left.ensures c.from_residual.ensures.1 (pair_from read c.args.reader) ∙ counted_turn read c.args.reader

pub returns : goal.returns
returns c =
    let read = reading_of c.args.strict c.args.file.now in
    c.plain_pair.ensures ∙ goes_on c.moves_left.result c.moves_left.ensures c.in_ok-moves.was (pair_from read c.args.reader) ∙ counted_turn read c.args.reader
