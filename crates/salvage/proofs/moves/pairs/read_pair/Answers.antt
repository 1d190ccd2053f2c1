-- `salvage::moves::pairs::read_pair` meets its contract.
use Rattle.numbers.{proofs.{Laws.{exits, goes_on}, Prelude.{sfits_of, ◌∙◌, w32, to_z-of_z}}, specs.Varint.{reading_of}}
use Rattle.salvage.proofs.moves.pairs.{Pairing.{pair_is}}
use Rattle.salvage.specs.Moves.Moves.{pair_at}
use Rattle.salvage.proofs.moves.pairs.read_pair.Goals as goal

pub returns-in_err-lat : goal.returns-in_err-lat
unfolding pair_at
returns-in_err-lat c =
    exits c.from_residual.result c.in_err-lat.was c.read_number.ensures c.from_residual.ensures.1 _

pub returns-in_err-lon : goal.returns-in_err-lon
unfolding pair_at
returns-in_err-lon c =
    exits c.from_residual-in_err-lon.result c.in_err-lon.was c.read_number-2.ensures c.from_residual-in_err-lon.ensures.1 _
    ∙ goes_on c.read_number.result c.read_number.ensures c.in_ok-lat.was _

pub returns : goal.returns
returns c =
    rw (
      to_z-of_z w32 _ (sfits_of c.signed.type_inv) ∙ c.signed.ensures,
      to_z-of_z w32 _ (sfits_of c.signed-2.type_inv)
          ∙ c.signed-2.ensures,
    ) (pair_is (reading_of c.args.strict c.args.file.now) c.args.place (rw c.in_ok-lat.was at c.read_number.ensures) (rw c.in_ok-lon.was at
    c.read_number-2.ensures))
