-- `header::field::unmask` meets its contract.
use Rattle.numbers.proofs.Prelude.{◌≤◌, length, ◌≡◌}
use Rattle.header.proofs.field.{Entries.{unmasked_to}}
use Rattle.header.proofs.field.unmask.Given as goal

abbrev pub invariant-loop-i : goal.invariant-loop-i
invariant-loop-i l = (length l.stored ≤ length l.initial.text) × (l.text ≡ unmasked_to l.i l.stored l.initial.text)
