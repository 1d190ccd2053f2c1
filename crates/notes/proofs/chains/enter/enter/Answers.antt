-- `notes::chains::enter::enter` meets its contract.
use Rattle.numbers.proofs.Prelude.{◌+◌, get_or, length-set, arith}
use Rattle.notes.proofs.chains.{Entering.{chained_in}}
use Rattle.notes.proofs.chains.enter.enter.Goals as goal

pub bounds-chain-bucket-2 : goal.bounds-chain-bucket-2
bounds-chain-bucket-2 c =
    omega (arith, length-set c.args.chain.now (4096 + c.args.item) (get_or c.args.chain.now c.bucket_of-bucket.result 0), c.bucket_of-bucket.ensures.0, c.requires.1)

pub returns : goal.returns
returns c =
    λ entered inside chained in'. chained_in _ entered _ _ chained c.requires.1 _ c.bucket_of-bucket.ensures.0 (c.bucket_of-bucket.ensures.1 inside) in'
