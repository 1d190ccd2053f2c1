-- `zones::fields::write_fields` meets its contract. The loop's invariant is `Writing`: the matches that are left give the whole.
use Rattle.numbers.proofs.Prelude.{◌≤◌, length, take, []}
use Rattle.zones.proofs.fields.{Filling.{Writing}}
use Rattle.table.{specs.Hits.{slots}}
use Rattle.zones.specs.Fields.{fields_of}
use Rattle.zones.proofs.fields.write_fields.Given as goal

abbrev pub invariant-loop-i : goal.invariant-loop-i
invariant-loop-i l =
    Writing l.file l.head (length l.initial.text) (take l.count (slots l.hits)) (fields_of l.file l.head (length l.initial.text) (take l.count (slots l.hits)) [])
    l.text l.at l.i × (l.i ≤ l.count)
