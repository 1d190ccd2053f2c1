-- `builder::counts::are_lengths` meets its contract.
use Rattle.numbers.proofs.Prelude.{arith}
use Rattle.builder.proofs.{Counting.{lengths_room, lengths_are}}
use Rattle.builder.proofs.counts.are_lengths.Goals as goal

pub returns : goal.returns
returns c =
    lengths_are c.args.names c.args.count c.args.lengths
