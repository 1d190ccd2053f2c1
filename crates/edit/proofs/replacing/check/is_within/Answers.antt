-- `edit::replacing::check::is_within` meets its contract.
use Rattle.numbers.proofs.Prelude.{refl}
use Rattle.edit.proofs.replacing.{Spots.{too_early, too_late, too_long, short_last}}
use Rattle.edit.proofs.replacing.check.is_within.Goals as goal

pub returns-then-spot-builder : goal.returns-then-spot-builder
returns-then-spot-builder c =
    too_early c.args.builder c.args.spot c.if-spot-builder.true

pub returns-then-builder-spot : goal.returns-then-builder-spot
returns-then-builder-spot c =
    too_late c.args.builder c.args.spot c.if-spot-builder.false c.if-builder-spot.true

pub returns-then-spot-gt255 : goal.returns-then-spot-gt255
returns-then-spot-gt255 c =
    too_long c.args.builder c.args.spot c.if-spot-builder.false c.if-builder-spot.false c.if-spot-gt255.true

pub returns : goal.returns
returns c =
    short_last c.args.builder c.args.spot c.if-spot-builder.false c.if-builder-spot.false c.if-spot-gt255.false _ refl
