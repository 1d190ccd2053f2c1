-- `edit::replacing::resum::settle` meets its contract.
use Rattle.numbers.proofs.Prelude.{rules, sym, ◌∙◌, w32, SFits, of_z, to_z}
use Rattle.edit.proofs.replacing.{Resumming.{settle_long, settle_fits}}
use mir.Facts.{to_z-of_z}
use Rattle.edit.proofs.replacing.resum.settle.Goals as goal

pub returns-then-not-fits : goal.returns-then-not-fits
returns-then-not-fits c =
    settle_long c.args.builder c.args.strings c.args.sums (sym c.fits.ensures ∙ c.if-not-fits.true) _ c.alone.ensures

pub returns : goal.returns
returns c =
    let greatest : SFits w32 c.args.sums.greatest = search rules in
    settle_fits c.args.builder c.args.strings c.args.sums (sym c.fits.ensures ∙ c.if-not-fits.false) (to_z w32 (of_z w32 c.args.sums.greatest)) (to_z-of_z greatest)
