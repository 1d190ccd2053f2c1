-- `verdict::winding::crossing_of` meets its contract: what `to_i32` ensures.
use Rattle.numbers.proofs.Prelude.{rules, ◌≡◌, w32, of_z, to_z}
use Rattle.verdict.specs.Winding.{crossing_of}
use Rattle.verdict.proofs.winding.crossing_of.Goals as goal

pub returns : goal.returns
unfolding crossing_of
returns c =
    let p : to_z w32 (of_z w32 c.to_i32.result) ≡ c.to_i32.result = search rules in
    rw (p, c.to_i32.ensures, c.requires)
