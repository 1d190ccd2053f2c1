-- `zones::simple::pick` meets its contract. The loop's invariant: the fields that are left give the whole.
use Rattle.numbers.proofs.Prelude.{◌-◌, ◌≤◌, Bool, ◌≡◌}
use Rattle.zones.specs.Simple.{begun, picked_from}
use Rattle.header.specs.{declared.header.{Head.{Head}, Preamble.{Preamble}, Sections.{Sections}}}
use Rattle.zones.proofs.simple.pick.Given as goal

abbrev head_of : Preamble → Sections → Bool → Head
head_of preamble sections strict = record { preamble = preamble; sections = sections; strict = strict }

abbrev pub invariant-loop-index : goal.invariant-loop-index
invariant-loop-index l =
    (picked_from l.file (head_of l.preamble l.sections l.strict) (l.names - l.index) l.index l.name l.place l.last ≡ picked_from l.file (head_of l.preamble
    l.sections l.strict) l.names 0 7
    l.start (begun l.preamble.kind)) × (l.index ≤ l.names)
