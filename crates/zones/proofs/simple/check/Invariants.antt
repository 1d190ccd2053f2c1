-- `zones::simple::check` meets its contract. The loop's invariant: the matches that are left give the whole.
use Rattle.numbers.proofs.Prelude.{◌≤◌, take, drop, ◌≡◌}
use Rattle.table.{specs.Hits.{slots}}
use Rattle.zones.specs.Simple.{checked}
use Rattle.zones.proofs.simple.check.Given as goal

abbrev pub invariant-loop-i : goal.invariant-loop-i
invariant-loop-i l = (checked l.file l.head (drop l.i (take l.count (slots l.hits))) ≡ checked l.file l.head (take l.count (slots l.hits))) × (l.i ≤ l.count)
