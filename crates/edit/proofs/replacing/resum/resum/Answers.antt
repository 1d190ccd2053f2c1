-- `edit::replacing::resum::resum` meets its contract.
use Rattle.edit.proofs.replacing.{Resumming.{summing, resums_broken, resums_settled}}
use Rattle.edit.proofs.replacing.resum.resum.Goals as goal

pub sum_up-summed-requires : goal.sum_up-summed-requires
sum_up-summed-requires c =
    summing c.args.builder c.args.strings c.args.lengths.now c.args.texts.now _ _ c.requires

pub returns-in_default : goal.returns-in_default
returns-in_default c =
    resums_broken c.args.builder c.args.strings _ _ _ _ c.sum_up-summed.result c.sum_up-summed.ensures c.in_default.is _

pub returns : goal.returns
returns c =
    resums_settled c.args.builder c.args.strings _ _ _ _ c.sum_up-summed.result c.sum_up-summed.ensures _ c.in-Some.is _ c.settle.ensures
