-- `request::clock::second_of` meets its contract.
use Rattle.numbers.{proofs.Prelude.{sym, ap, ◌∙◌, arith}, specs.Reply.{refused}}
use Rattle.request.proofs.{Times.{in_time, second_short, no_time, time_given}}
use Rattle.request.proofs.clock.second_of.Goals as goal

pub overflow_mul-result : goal.overflow_mul-result
overflow_mul-result c =
    omega (arith, in_time _ (sym c.is_time.ensures ∙ c.if-not-is_time.false))

pub overflow_mul-result-2 : goal.overflow_mul-result-2
overflow_mul-result-2 c =
    omega (arith, in_time _ (sym c.is_time.ensures ∙ c.if-not-is_time.false))

pub overflow_add-result : goal.overflow_add-result
overflow_add-result c =
    omega (arith, in_time _ (sym c.is_time.ensures ∙ c.if-not-is_time.false))

pub overflow_add-result-2 : goal.overflow_add-result-2
overflow_add-result-2 c =
    omega (arith, in_time _ (sym c.is_time.ensures ∙ c.if-not-is_time.false))

pub returns : goal.returns
returns c =
    (time_given _ c.args.place (sym c.is_time.ensures ∙ c.if-not-is_time.false), second_short _ (sym c.is_time.ensures ∙ c.if-not-is_time.false))
