-- `zones::fields::write_match` meets its contract. The loop's invariant is `Filling`: the text so far stands at the front of a buffer that is zero
-- beyond it.
use Rattle.numbers.proofs.Prelude.{length, take}
use Rattle.zones.proofs.fields.{Filling.{Filling}}
use Rattle.zones.specs.Fields.{fields_from}
use Rattle.zones.proofs.fields.write_match.Given as goal

abbrev pub invariant-loop-tag : goal.invariant-loop-tag
invariant-loop-tag l =
    Filling l.file l.fn.head (length l.initial.text) l.fn.head.preamble.count (fields_from l.file l.fn.head (length l.initial.text) l.fn.head.preamble.count 0 l.start
    (take l.from l.initial.text)) l.text l.at l.place l.tag
