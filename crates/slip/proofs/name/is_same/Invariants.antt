-- `slip::name::is_same` meets its contract.
use Rattle.numbers.proofs.Prelude.{drop, ◌≡◌}
use Rattle.zones.{specs.Simple.{same}}
use Rattle.slip.specs.Told.{name_in}
use Rattle.slip.proofs.name.is_same.Given as goal

abbrev pub invariant-loop-i : goal.invariant-loop-i
invariant-loop-i l = same (drop l.i (name_in l.map l.name)) (drop l.i (name_in l.map l.other)) ≡ same (name_in l.map l.name) (name_in l.map l.other)
