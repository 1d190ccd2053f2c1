-- `table::rows::row_of` meets its contract: each sum by its own promise.
use Rattle.numbers.proofs.Prelude.{◌^◌, ◌∙◌}
use native.Mathlib.Nat.{add-mod-mod}
use Rattle.table.proofs.rows.row_of.Goals as goal

pub returns : goal.returns
returns c =
    λ i. record {
      place = c.args.at.place;
      id = c.args.at.id;
      metadata = c.moved_id.ensures i;
      polygon = (c.wrapping_add_u32.ensures.value
          ∙ add-mod-mod c.args.at.polygon c.args.entry.polygon (2 ^ 32)) i;
      bounds = c.args.entry.bounds;
      next = c.args.entry.next;
    }
