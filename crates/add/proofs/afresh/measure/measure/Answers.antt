-- `add::afresh::measure::measure` meets its contract.
use Rattle.add.proofs.afresh.{Measured.{measures_sums, measures_broken}}
use Rattle.add.proofs.afresh.measure.measure.Goals as goal

pub returns-in_default : goal.returns-in_default
returns-in_default c =
    measures_broken c.args.builder c.args.strings c.args.size _ _ _ _ _ c.sum_up-summed.result c.sum_up-summed.ensures c.in_default.is _

pub grow-requires : goal.grow-requires
grow-requires c =
    record { few_yards = c.requires.few_yards; few_bytes = c.requires.few_bytes }

pub returns : goal.returns
returns c =
    measures_sums c.args.builder c.args.strings c.args.size _ _ _ _ _ c.sum_up-summed.result c.sum_up-summed.ensures _ c.in-Some.is _ c.grow.ensures
