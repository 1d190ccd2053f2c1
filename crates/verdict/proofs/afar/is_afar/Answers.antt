-- `verdict::afar::is_afar` meets its contract: what its calls ensure.
use Rattle.numbers.proofs.Prelude.{◌+◌, ◌*◌, rules, leb, sym, ◌∙◌, w32, SFits, mul-le-mul, arith}
use Rattle.std.proofs.Common.{to_z-of_z}
use Rattle.verdict.proofs.{AfarBox.{smalls}}
use Rattle.verdict.specs.Far.{is_afar}
use Rattle.verdict.proofs.afar.is_afar.Goals as goal

pub returns-then-not-are_small : goal.returns-then-not-are_small
unfolding is_afar
returns-then-not-are_small c =
    rw (sym c.are_small.ensures ∙ c.if-not-are_small.true)

pub gap_about-lat-requires : goal.gap_about-lat-requires
gap_about-lat-requires c =
    let s = smalls c.args.fix c.args.low c.args.high (sym c.are_small.ensures ∙ c.if-not-are_small.false) in
    let l : SFits w32 c.args.low.lat.0 = search rules in
    let x : SFits w32 c.args.fix.lat.0 = search rules in
    let h : SFits w32 c.args.high.lat.0 = search rules in
    rw (to_z-of_z {w = w32} l, to_z-of_z {w = w32} x, to_z-of_z {w = w32} h) (s.lat_low, s.lat_fix, s.lat_high)

pub gap_about-lon-requires : goal.gap_about-lon-requires
gap_about-lon-requires c =
    let s = smalls c.args.fix c.args.low c.args.high (sym c.are_small.ensures ∙ c.if-not-are_small.false) in
    let l : SFits w32 c.args.low.lon.0 = search rules in
    let x : SFits w32 c.args.fix.lon.0 = search rules in
    let h : SFits w32 c.args.high.lon.0 = search rules in
    rw (to_z-of_z {w = w32} l, to_z-of_z {w = w32} x, to_z-of_z {w = w32} h) (s.lon_low, s.lon_fix, s.lon_high)

pub returns : goal.returns
unfolding is_afar
returns c =
    let ly : SFits w32 c.args.low.lat.0 = search rules in
    let fy : SFits w32 c.args.fix.lat.0 = search rules in
    let hy : SFits w32 c.args.high.lat.0 = search rules in
    let lx : SFits w32 c.args.low.lon.0 = search rules in
    let fx : SFits w32 c.args.fix.lon.0 = search rules in
    let hx : SFits w32 c.args.high.lon.0 = search rules in
    let lat = rw (to_z-of_z {w = w32} ly, to_z-of_z {w = w32} fy, to_z-of_z {w = w32} hy) at c.gap_about-lat.ensures.0 in
    let lon = rw (to_z-of_z {w = w32} lx, to_z-of_z {w = w32} fx, to_z-of_z {w = w32} hx) at c.gap_about-lon.ensures.0 in
    rw (sym c.are_small.ensures ∙ c.if-not-are_small.false) (λ i. leb c.args.least (lat i * lat i + 4 * (lon i * lon i)))
