-- `verdict::afar::gap_about` meets its contract: what its calls ensure.
use Rattle.numbers.proofs.Prelude.{ℕ, ◌≤◌, ◌≡◌, sym, subst, ◌∙◌, w32}
use Rattle.std.proofs.Common.{to_z-of_z}
use Rattle.verdict.proofs.{AfarBox.{raised_most, gap_most}}
use Rattle.verdict.specs.Far.{raised, gap_of, gap_about}
use Rattle.verdict.proofs.afar.gap_about.Goals as goal

pub returns : goal.returns
returns c =
    let low = rw (to_z-of_z {w = w32} c.ranges.low) at c.raise.ensures in
    let x = rw (to_z-of_z {w = w32} c.ranges.x) at c.raise-2.ensures in
    let high = rw (to_z-of_z {w = w32} c.ranges.high) at c.raise-3.ensures in
    let e : c.gap_of.result ≡ gap_about c.args.low c.args.x c.args.high = c.gap_of.ensures ∙ (λ i. gap_of (low i) (x i) (high i)) in (
      e,
      subst (λ (n : ℕ). n ≤ 8388608) (sym e) (gap_most (raised c.args.low) (raised c.args.x) (raised c.args.high) (raised_most c.args.low c.requires.0)
          (raised_most c.args.x c.requires.1)),
    )
