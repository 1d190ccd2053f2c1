-- `verdict::field::field_of` meets its contract: what `side_of` ensures, twice.
use Rattle.numbers.proofs.Prelude.{rules, w32, SFits}
use Rattle.std.proofs.Common.{to_z-of_z}
use Rattle.verdict.proofs.{Gliding.{aside_of}}
use Rattle.verdict.proofs.field.field_of.Goals as goal

pub returns : goal.returns
returns c =
    let lat : SFits w32 c.args.fix.lat.0 = search rules in
    let lon : SFits w32 c.args.fix.lon.0 = search rules in
    aside_of c.args.fix _ (rw (to_z-of_z {w = w32} lat) at c.side_of.ensures) (rw (to_z-of_z {w = w32} lon) at c.side_of-2.ensures)
