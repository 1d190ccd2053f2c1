-- `table::table::bounds_of` meets its contract: each number read back from its bits.
use Rattle.numbers.proofs.Prelude.{sfits_of, ◌∙◌, w32, to_z-of_z}
use Rattle.table.proofs.table.bounds_of.Goals as goal

pub returns : goal.returns
returns c =
    λ i. record {
      min_lat = record { 0 = (to_z-of_z w32 _ (sfits_of c.signed.type_inv) ∙ c.signed.ensures) i };
      min_lon = record {
        0 = (to_z-of_z w32 _ (sfits_of
            c.signed-2.type_inv) ∙ c.signed-2.ensures) i;
      };
      max_lat = record {
        0 = (to_z-of_z w32 _ (sfits_of c.signed-3.type_inv)
            ∙ c.signed-3.ensures) i;
      };
      max_lon = record { 0 = (to_z-of_z w32 _ (sfits_of c.signed-4.type_inv) ∙ c.signed-4.ensures) i };
    }
