-- `salvage::strings::fields_good` meets its contract. The loop's invariant: what is left of the fields says what all say.
use Rattle.numbers.proofs.Prelude.{◌-◌, ◌≡◌}
use Rattle.salvage.specs.Kept.{fields_good}
use Rattle.salvage.proofs.strings.fields_good.Given as goal

abbrev pub invariant-loop : goal.invariant-loop
invariant-loop l = fields_good l.file l.head (l.count - l.counter) l.here ≡ fields_good l.file l.head l.count l.place
