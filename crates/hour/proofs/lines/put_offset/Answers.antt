-- `hour::lines::put_offset` meets its contract.
use Rattle.numbers.proofs.Prelude.{rules}
use Rattle.hour.proofs.{Signs.{below_zero, from_zero}}
use Rattle.line.proofs.{Puts.{put_then, put_as}, Signs.{few_bits}}
use Rattle.hour.proofs.lines.put_offset.Goals as goal

pub overflow_sub-bits : goal.overflow_sub-bits
overflow_sub-bits c =
    few_bits c.args.local.offset (search rules) c.offset_bits-bits.ensures

pub returns-then-offset-lt0 : goal.returns-then-offset-lt0
returns-then-offset-lt0 c =
    put_then _ _ c.put-start.ensures (put_as (below_zero c.args.local.offset (search rules) c.offset_bits-bits.ensures c.if-offset-lt0.true) (put_then _ _
    c.put-digits.ensures c.put_decimal.ensures))

pub returns : goal.returns
returns c =
    put_then _ _ c.put-start.ensures (put_as (from_zero c.args.local.offset (search rules) c.offset_bits-bits.ensures c.if-offset-lt0.false) c.put_decimal-2.ensures)
