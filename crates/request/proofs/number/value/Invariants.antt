-- `request::number::value` meets its contract.
use Rattle.numbers.proofs.Prelude.{◌^◌, ◌≤◌, length, drop, ◌≡◌}
use Rattle.request.specs.Number.{value_from}
use Rattle.request.proofs.number.value.Given as goal

abbrev pub invariant-loop-byte : goal.invariant-loop-byte
invariant-loop-byte l = (value_from l.value (drop l.byte-index l.text) ≡ value_from l.start l.text) × (l.scale ≡ 10 ^ l.byte-index) × (l.byte-index ≤ length l.text)
