-- `tzif::header::read_counts` meets its contract.
use Rattle.numbers.proofs.Prelude.{arith}
use Rattle.tzif.proofs.{Widths.{four_at_least, part_fits}}
use Rattle.tzif.specs.Header.{block_at}
use Rattle.tzif.proofs.header.read_counts.Goals as goal

pub returns : goal.returns
unfolding block_at
returns c =
    record {
      same = cc;
      wide = rw c.octets-width.ensures (four_at_least c.args.wide);
      fits = rw c.octets-width.ensures (omega (
        arith,
        part_fits
            c.be32-timecnt.result 0 c.args.wide c.be32-timecnt.ensures.fits,
        part_fits c.be32-leapcnt.result 4 c.args.wide c.be32-leapcnt.ensures.fits,
      ));
    }
