-- `verdict::far::far_field` meets its contract.
use Rattle.numbers.proofs.Prelude.{arith}
use Rattle.verdict.proofs.{FarFields.{about_far}}
use Rattle.verdict.proofs.far.far_field.Goals as goal

pub returns-then-lat-gt0 : goal.returns-then-lat-gt0
returns-then-lat-gt0 c =
    let at = c.place_of-at.result in
    let far = c.reach-lat.ensures.1 c.if-lat-gt0.true in
    about_far c.args.fix c.args.least c.args.«from» at.lat c.reach-lat.result at.lon 0 (omega (arith, c.if-at-gt-MOST.false)) (omega (
      arith,
      c.if-at-gt-MOST-2.false,
    )) c.place_of-at.ensures.0 c.place_of-at.ensures.1 (omega (arith, far)) c.far_about.result c.far_about.ensures

pub returns-then-lon-gt0 : goal.returns-then-lon-gt0
returns-then-lon-gt0 c =
    let at = c.place_of-at.result in
    let far = c.reach-lon.ensures.1 c.if-lon-gt0.true in
    about_far c.args.fix c.args.least c.args.«from» at.lat 0 at.lon c.reach-lon.result (omega (arith, c.if-at-gt-MOST.false)) (omega (
      arith,
      c.if-at-gt-MOST-2.false,
    )) c.place_of-at.ensures.0 c.place_of-at.ensures.1 (omega (arith, far)) c.far_about-then-lon-gt0.result c.far_about-then-lon-gt0.ensures
