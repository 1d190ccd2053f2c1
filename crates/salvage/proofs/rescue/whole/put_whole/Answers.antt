-- `salvage::rescue::whole::put_whole` meets its contract.
use Rattle.numbers.proofs.{Prelude.{refl}, Replies.{passed_on}}
use Rattle.salvage.specs.File.{head_texts}
use Rattle.salvage.proofs.rescue.whole.{Assembling.{whole_refused, whole_given}}
use Rattle.salvage.proofs.rescue.whole.put_whole.Goals as goal

pub returns : goal.returns
returns c =
    whole_given c.args.file.now c.args.head (head_texts c.args.file.now c.args.head) refl c.args.out.now (rw c.in_ok-sizes.was at c.put_head.ensures)
    c.put_sizes-sections.ensures c.put_sections.ensures
