-- `numbers::varint::read_long` meets its contract: the loop keeps `Reading`, and each way out is a case of `forward_at`.
use Rattle.numbers.proofs.{Prelude.{◌+◌, ◌*◌}, varint.{Reading.{Reading}}}
use Rattle.numbers.proofs.varint.read_long.Given as goal

abbrev pub invariant-loop-count : goal.invariant-loop-count
invariant-loop-count l = Reading l.file l.place l.value (7 * l.count) (l.place + l.count)
