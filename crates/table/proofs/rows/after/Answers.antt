-- `table::rows::after` meets its contract.
use Rattle.table.proofs.rows.after.Goals as goal

pub returns : goal.returns
returns c =
    let row = c.args.row in
    λ i. record { place = row.next; id = c.wrapping_add_u32.ensures.value i; metadata = row.metadata; polygon = row.polygon }
