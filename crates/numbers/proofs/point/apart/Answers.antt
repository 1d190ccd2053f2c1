-- `numbers::point::apart` meets its contract.
use Rattle.numbers.proofs.{Prelude.{ℕ, ◌+◌, ◌*◌, ◌/◌, ◌%◌, ◌^◌, rules, ap, ◌∙◌}, point.{BothBits.{both_at_once}}}
use Rattle.numbers.proofs.point.apart.Goals as goal

pub returns : goal.returns
returns c =
    ap (λ (n : ℕ). n % 2 ^ 16 + n / 2 ^ 16 * 2 ^ 32) c.unshuffle-both.ensures ∙ both_at_once c.args.w c.requires
