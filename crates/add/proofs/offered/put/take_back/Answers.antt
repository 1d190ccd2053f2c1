-- `add::offered::put::take_back` meets its contract.
use Rattle.numbers.proofs.Prelude.{◌*◌, pos}
use Rattle.add.specs.inner.Offered.Puts.{lengths_end}
use Rattle.add.proofs.offered.{Placing.{cleared_back}}
use Rattle.add.proofs.offered.put.take_back.Goals as goal

pub returns : goal.returns
returns c =
    record {
      boxes_are = cleared_back (pos 0) c.args.boxes.now _ (4 * c.args.builder.yards) c.zero_numbers.ensures;
      borders_are = cleared_back 0 c.args.borders.now
          _ c.args.builder.yards c.zero_words.ensures;
      lengths_are = cleared_back 0 c.args.lengths.now _ (lengths_end c.args.builder) c.zero_words-2.ensures;
      texts_are
          = cleared_back 0 c.args.texts.now _ c.args.builder.strings c.zero.ensures;
      bytes_are = cleared_back 0 c.args.bytes.now _ c.args.builder.bytes c.zero-2.ensures;
    }
