-- `edit::changing::cut::cut_lists` meets its contract.
use Rattle.edit.proofs.changing.{Cuts.{all_cut, cut_back}}
use Rattle.edit.proofs.changing.cut.cut_lists.Goals as goal

pub returns : goal.returns
returns c =
    all_cut _ _ _ _ _ _ _ _ _ _ _ (cut_back _ c.args.boxes.now _ c.args.ends.boxes c.zero_numbers.ensures) (cut_back _ c.args.borders.now _ c.args.ends.borders
    c.zero_words.ensures) (cut_back _ c.args.lengths.now _ c.args.ends.lengths c.zero_words-2.ensures) (cut_back _ c.args.texts.now _ c.args.ends.texts
    c.zero.ensures) (cut_back _ c.args.bytes.now _ c.args.ends.bytes c.zero-2.ensures)
