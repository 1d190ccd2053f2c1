-- `notes::chains::texts::bucket_of` meets its contract.
use Rattle.numbers.proofs.Prelude.{ℕ, ◌%◌, ap, arith}
use Rattle.notes.proofs.chains.{Walking.{other_inside}}
use Rattle.notes.specs.Chains.Entered.{bucket_of}
use Rattle.notes.proofs.chains.texts.bucket_of.Goals as goal

pub returns : goal.returns
unfolding bucket_of
returns c =
    (omega arith, λ inside. ap (λ (h : ℕ). h % 4096) (c.hash_item-hash.ensures (other_inside _ _ _ _ _ (omega arith) inside)))
