-- `add::growing::grow::grow` meets its contract.
use Rattle.numbers.{proofs.Prelude.{rules, ap, w32, SFits, of_z, to_z}, specs.Reply.{refused}}
use Rattle.add.proofs.growing.{Measured.{grows_not, grows_into}}
use mir.Facts.{to_z-of_z}
use Rattle.add.proofs.growing.grow.grow.Goals as goal

pub returns-then-not-fits : goal.returns-then-not-fits
returns-then-not-fits c =
    grows_not c.args.builder _ c.args.size c.args.sums _ c.fits.ensures c.if-not-fits.true _ (ap refused c.alone.ensures)

pub returns : goal.returns
returns c =
    let greatest : SFits w32 c.args.sums.greatest = search rules in
    grows_into c.args.builder c.args.strings c.args.size c.args.sums _ c.fits.ensures c.if-not-fits.false (to_z w32 (of_z w32 c.args.sums.greatest)) (to_z-of_z greatest)
