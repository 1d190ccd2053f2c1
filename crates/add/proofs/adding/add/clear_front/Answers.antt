-- `add::adding::add::clear_front` meets its contract.
use Rattle.numbers.{proofs.Prelude.{ℕ, drop, length-take-le, List, ◌++◌, sym, ap, ◌∙◌}, specs.Lists.{zeros}}
use Rattle.add.proofs.adding.add.clear_front.Goals as goal

pub slice_bounds-zero-end-2 : goal.slice_bounds-zero-end-2
slice_bounds-zero-end-2 c =
    sym (length-take-le _ _ c.requires)

pub returns : goal.returns
returns c =
    ap (λ (l : List ℕ). l ++ drop c.args.size c.args.out.now) (c.zero.ensures ∙ ap zeros (length-take-le c.args.size c.args.out.now c.requires))
