-- `tzif::number::signed` meets its contract.
use Rattle.numbers.proofs.{Prelude.{◌-◌, ◌^◌, w32, arith}, Signed.{complement_fits}}
use Rattle.tzif.proofs.{Signs.{read_high}}
use Rattle.tzif.proofs.number.signed.Goals as goal

pub overflow_sub-result-else-bits-lt2147483648 : goal.overflow_sub-result-else-bits-lt2147483648
overflow_sub-result-else-bits-lt2147483648 c =
    complement_fits w32 (2 ^ 32 - 1 - c.args.bits) (omega arith)

pub returns-else-bits-lt2147483648 : goal.returns-else-bits-lt2147483648
returns-else-bits-lt2147483648 c =
    read_high _ c.if-bits-lt2147483648.false c.requires
