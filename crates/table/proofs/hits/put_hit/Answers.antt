-- `table::hits::put_hit` meets its contract: four stores.
use Rattle.numbers.proofs.Prelude.{length-set, arith}
use Rattle.table.proofs.hits.put_hit.Goals as goal

pub bounds-hits-at-2 : goal.bounds-hits-at-2
bounds-hits-at-2 c =
    simp length-set (omega arith)

pub bounds-hits-at-3 : goal.bounds-hits-at-3
bounds-hits-at-3 c =
    simp length-set (omega arith)

pub bounds-hits-at-4 : goal.bounds-hits-at-4
bounds-hits-at-4 c =
    simp length-set (omega arith)
