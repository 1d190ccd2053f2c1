-- `tzif::leap::correction_at` meets its contract.
use Rattle.numbers.proofs.Prelude.{arith}
use Rattle.tzif.proofs.{Leaps.{no_records, records_within}, Widths.{record_fits, occurrences_inside}}
use Rattle.tzif.specs.Check.{correction_at}
use Rattle.tzif.proofs.leap.correction_at.Goals as goal

pub returns-then-block-eq0 : goal.returns-then-block-eq0
returns-then-block-eq0 c =
    record { same = no_records c.args.file.now c.args.block c.args.instant c.if-block-eq0.true; fits = omega arith }

pub occurrences_of-requires : goal.occurrences_of-requires
occurrences_of-requires c =
    (omega (arith, c.requires.within.end), omega (arith, record_fits c.requires.within (omega (arith, c.if-block-eq0.false))))

pub last_not_after-behind-requires : goal.last_not_after-behind-requires
last_not_after-behind-requires c =
    rw c.occurrences_of.ensures (record { inside = occurrences_inside c.requires.within; rises = c.requires.rises })

pub correction_before-requires : goal.correction_before-requires
correction_before-requires c =
    record {
      within = c.requires.within;
      i_le_leapcnt = rw (c.last_not_after-behind.ensures, c.occurrences_of.ensures) (records_within c.args.file.now c.args.block
          c.args.instant);
    }

pub returns : goal.returns
unfolding correction_at
returns c =
    rw (← c.occurrences_of.ensures, ← c.last_not_after-behind.ensures) c.correction_before.ensures
