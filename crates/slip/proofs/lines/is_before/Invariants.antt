-- `slip::lines::is_before` meets its contract.
use Rattle.numbers.proofs.Prelude.{take, drop, ◌≡◌}
use Rattle.slip.specs.Told.{name_in, is_named_in}
use Rattle.table.{specs.Hits.{slots}}
use Rattle.slip.proofs.lines.is_before.Given as goal

abbrev pub invariant-loop-i : goal.invariant-loop-i
invariant-loop-i l = is_named_in l.map l.head (name_in l.map l.name) (drop l.i (take l.count (slots l.hits))) ≡ is_named_in l.map l.head (name_in l.map l.name)
    (take l.count (slots l.hits))
