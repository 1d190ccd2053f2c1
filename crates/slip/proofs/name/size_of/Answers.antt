-- `slip::name::size_of` meets its contract.
use Rattle.slip.proofs.{Names.{name_length}}
use Rattle.slip.proofs.name.size_of.Goals as goal

pub returns : goal.returns
returns c =
    name_length c.args.map.now c.args.name c.requires
