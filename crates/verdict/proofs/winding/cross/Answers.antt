-- `verdict::winding::cross` meets its contract: what its calls ensure.
use Rattle.numbers.proofs.Prelude.{rules, ◌≡◌, w32, of_z, to_z, sym, ◌∙◌}
use Rattle.verdict.proofs.{Halts.{exits, goes_on}, winding.{Cases.{straight_across}}}
use Rattle.verdict.specs.Winding.{across_by}
use borrow.Enum.Refused.{opened}
use Rattle.verdict.proofs.winding.cross.Goals as goal

pub returns-in_default : goal.returns-in_default
returns-in_default c =
    straight_across _ c.args.edge _ _ (opened c.in_default.in_default-own.keys2)

pub returns-in_err-by : goal.returns-in_err-by
unfolding across_by
returns-in_err-by c =
    rw (c.in-Sloped.is, ← c.crossing_of.ensures) (exits c.from_residual.result c.in_err-by.was c.turn_at.ensures c.from_residual.ensures.1 _)

pub returns : goal.returns
unfolding across_by
returns c =
    let x = c.in_ok-by.by in
    let p : to_z w32 (of_z w32 x) ≡ x = search rules in
    rw (c.in-Sloped.is, ← c.crossing_of.ensures) (rw p at c.turn.ensures ∙ goes_on c.turn_at.result c.turn_at.ensures c.in_ok-by.was _)
