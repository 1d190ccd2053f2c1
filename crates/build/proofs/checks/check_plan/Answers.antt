-- `build::checks::check_plan` meets its contract.
use Rattle.numbers.proofs.Prelude.{ap, length-take-le, sym, ◌∙◌, arith}
use Rattle.build.proofs.{Planned.{few_names, few_yards, all_lengths, border_bad, counts_bad, texts_bad, form_bad, all_good}}
use Rattle.numbers.{proofs.Replies.{passed_on}, specs.Reply.{refused}}
use Rattle.builder.proofs.Counting.{lengths_room}
use Rattle.build.proofs.checks.check_plan.Goals as goal

pub returns-in_err-check_yards : goal.returns-in_err-check_yards
returns-in_err-check_yards c =
    passed_on _ c.from_residual.ensures.1 ∙ border_bad _ _ _ _ _ _ _ _ _ c.args.plan.pieces.now c.check_yards.result c.check_yards.ensures _ c.in_err-check_yards.was

pub returns-then-not-are_counted : goal.returns-then-not-are_counted
returns-then-not-are_counted c =
    counts_bad _ _ _ _ _ _ _ _ _ c.args.plan.pieces.now c.check_yards.result c.check_yards.ensures c.in_ok-check_yards.was _ c.are_counted.ensures c.if-not-are_counted.true _ (ap refused c.alone.ensures)

pub overflow_mul-all : goal.overflow_mul-all
overflow_mul-all c =
    let told = lengths_room _ _ (few_names _ _ _ (sym c.are_counted.ensures ∙ c.if-not-are_counted.false)) (few_yards _ _ _ (sym c.are_counted.ensures
    ∙ c.if-not-are_counted.false)) in
    omega (arith, told)

pub overflow_add-all-2 : goal.overflow_add-all-2
overflow_add-all-2 c =
    let told = lengths_room _ _ (few_names _ _ _ (sym c.are_counted.ensures ∙ c.if-not-are_counted.false)) (few_yards _ _ _ (sym c.are_counted.ensures
    ∙ c.if-not-are_counted.false)) in
    let told-2 = few_names _ _ _ (sym c.are_counted.ensures ∙ c.if-not-are_counted.false) in
    omega (arith, told, told-2)

pub slice_bounds-are_texts-end : goal.slice_bounds-are_texts-end
slice_bounds-are_texts-end c =
    sym (length-take-le _ _ (all_lengths _ _ _ (sym c.are_counted.ensures ∙ c.if-not-are_counted.false)))

pub returns-then-not-are_texts : goal.returns-then-not-are_texts
returns-then-not-are_texts c =
    texts_bad _ _ _ _ _ _ _ _ _ c.args.plan.pieces.now c.check_yards.result c.check_yards.ensures c.in_ok-check_yards.was _ c.are_counted.ensures c.if-not-are_counted.false _ c.are_texts.ensures c.if-not-are_texts.true _ (ap refused c.alone-then-not-are_texts.ensures)

pub returns-then-not-is_known : goal.returns-then-not-is_known
returns-then-not-is_known c =
    form_bad _ _ _ _ _ _ _ _ _ c.args.plan.pieces.now c.check_yards.result c.check_yards.ensures c.in_ok-check_yards.was _ c.are_counted.ensures c.if-not-are_counted.false _ c.are_texts.ensures c.if-not-are_texts.false _ c.is_known.ensures c.if-not-is_known.true _
    (ap refused c.alone-then-not-is_known.ensures)

pub returns : goal.returns
returns c =
    all_good _ _ _ _ _ _ _ _ _ c.args.plan.pieces.now c.check_yards.result c.check_yards.ensures c.in_ok-check_yards.was _ c.are_counted.ensures c.if-not-are_counted.false _ c.are_texts.ensures c.if-not-are_texts.false _ c.is_known.ensures c.if-not-is_known.false
