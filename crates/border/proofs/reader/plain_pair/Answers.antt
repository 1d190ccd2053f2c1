-- `border::reader::plain_pair` meets its contract.
use Rattle.numbers.{proofs.{Laws.{exits, goes_on}, Prelude.{sfits_of, sym, ◌∙◌, w32, to_z-of_z}}, specs.Varint.{reading_of}}
use Rattle.border.proofs.reader.{Turns.{pair_read}}
use Rattle.border.specs.{Reader.{onward, plain_pair}, declared.reader.Run.TheVariants.{Idle}}
use Rattle.border.proofs.reader.plain_pair.Goals as goal

pub returns-in_err-lat : goal.returns-in_err-lat
unfolding plain_pair
returns-in_err-lat c =
    exits c.from_residual.result c.in_err-lat.was c.read_number.ensures c.from_residual.ensures.1 _

pub returns-in_err-lon : goal.returns-in_err-lon
unfolding plain_pair
returns-in_err-lon c =
    exits c.from_residual-in_err-lon.result c.in_err-lon.was c.read_number-2.ensures c.from_residual-in_err-lon.ensures.1 _
    ∙ goes_on c.read_number.result c.read_number.ensures c.in_ok-lat.was _

pub returns : goal.returns
returns c =
    rw (to_z-of_z w32 _ (sfits_of c.signed.type_inv) ∙ c.signed.ensures, to_z-of_z w32 _ (sfits_of c.signed-2.type_inv) ∙ c.signed-2.ensures) at c.plain_move.ensures
    ∙ sym (pair_read (reading_of c.args.strict c.args.file.now) c.args.file.now 0 (onward c.args.reader c.args.place c.args.moves Idle) (rw c.in_ok-lat.was at
    c.read_number.ensures) (rw c.in_ok-lon.was at c.read_number-2.ensures))
