-- `builder::grouping::items::mark_starts` meets its contract.
use Rattle.numbers.proofs.Prelude.{length, length-set, set, ◌≡◌, ℕ, sym, ap, ◌∙◌, arith}
use Rattle.builder.proofs.grouping.{Starting.{start_starts, start_sum, start_goes, start_inside, start_ends}}
use Rattle.builder.proofs.grouping.items.mark_starts.Goals as goal

pub overflow_add-at : goal.overflow_add-at
overflow_add-at c =
    omega (arith, start_sum _ _ _ _ _ c.loop-i.invariant c.loop-i-test.true)

pub loop-i-preserved : goal.loop-i-preserved
loop-i-preserved c =
    start_goes _ _ _ _ _ c.loop-i.invariant c.loop-i-test.true

pub returns : goal.returns
returns c =
    let e : c.loop-i.i ≡ length c.args.lengths.now = omega (arith, c.loop-i.invariant.index, c.loop-i-test.false) in
    ap (λ (n : ℕ). set c.loop-i.starts n c.loop-i.at) (sym e) ∙ start_ends _ _ _ _ _ c.loop-i.invariant c.loop-i-test.false
