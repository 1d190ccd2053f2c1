-- `tzif::number::raised` meets its contract.
use Rattle.numbers.proofs.Prelude.{◌^◌, lt-ltb, le-ltb, refl, arith}
use Rattle.tzif.specs.Number.{raised}
use Rattle.tzif.proofs.number.raised.Goals as goal

pub returns-then-bits-lt2147483648 : goal.returns-then-bits-lt2147483648
unfolding raised
returns-then-bits-lt2147483648 c =
    record { same = rw (lt-ltb c.args.bits (2 ^ 31) c.if-bits-lt2147483648.true) refl; fits = omega arith }

pub returns-else-bits-lt2147483648 : goal.returns-else-bits-lt2147483648
unfolding raised
returns-else-bits-lt2147483648 c =
    record { same = rw (le-ltb c.args.bits (2 ^ 31) c.if-bits-lt2147483648.false) refl; fits = omega arith }
