-- `writer::write::write_border_words` meets its contract.
use Rattle.writer.specs.Pieces.{pieces_of}
use Rattle.writer.proofs.write.write_border_words.Goals as goal

pub returns : goal.returns
returns c =
    c.write_checked.ensures (pieces_of c.args.words.now) (c.check_words-check.ensures (c.no_pieces.ensures c.args.earlier.now c.args.lats.now c.args.lons.now))
