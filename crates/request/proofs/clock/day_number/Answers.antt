-- `request::clock::day_number` meets its contract.
use Rattle.numbers.{proofs.Prelude.{sym, ap, ◌∙◌, arith}, specs.Reply.{refused}}
use Rattle.calendar.specs.Rules.{IsWhen}
use Rattle.request.proofs.{Times.{in_month, months_few, no_month, date_over, date_is, length_is, day_is, date_given, day_short}}
use Rattle.request.proofs.clock.day_number.Goals as goal

pub returns-then-not-is_month : goal.returns-then-not-is_month
returns-then-not-is_month c =
    (ap refused c.at.ensures ∙ no_month _ c.args.place (sym c.is_month.ensures ∙ c.if-not-is_month.true), tt)

pub overflow_sub-month : goal.overflow_sub-month
overflow_sub-month c =
    omega (arith, in_month _ (sym c.is_month.ensures ∙ c.if-not-is_month.false))

pub days_of_months-before-requires : goal.days_of_months-before-requires
days_of_months-before-requires c =
    omega (arith, in_month _ (sym c.is_month.ensures ∙ c.if-not-is_month.false))

pub days_of_months-after-requires : goal.days_of_months-after-requires
days_of_months-after-requires c =
    omega (arith, in_month _ (sym c.is_month.ensures ∙ c.if-not-is_month.false))

pub overflow_sub-after : goal.overflow_sub-after
overflow_sub-after c =
    let m = in_month _ (sym c.is_month.ensures ∙ c.if-not-is_month.false) in
    omega (arith, length_is c.args.year c.args.month c.is_leap-leap.ensures c.days_of_months-before.ensures c.days_of_months-after.ensures m.2)

pub returns-then-after-before : goal.returns-then-after-before
returns-then-after-before c =
    let is = sym c.is_month.ensures ∙ c.if-not-is_month.false in
    let m = in_month _ is in
    let l = length_is c.args.year c.args.month c.is_leap-leap.ensures c.days_of_months-before.ensures c.days_of_months-after.ensures m.2 in
    (ap refused c.at-then-after-before.ensures ∙ date_over _ c.args.place is (omega (arith, l, c.if-after-before.true)), tt)

pub overflow_sub-when : goal.overflow_sub-when
overflow_sub-when c =
    omega (arith, in_month _ (sym c.is_month.ensures ∙ c.if-not-is_month.false))

pub overflow_sub-year : goal.overflow_sub-year
overflow_sub-year c =
    omega (arith, in_month _ (sym c.is_month.ensures ∙ c.if-not-is_month.false))

pub day_of-requires : goal.day_of-requires
unfolding IsWhen
day_of-requires c =
    let m = in_month _ (sym c.is_month.ensures ∙ c.if-not-is_month.false) in
    let l = length_is c.args.year c.args.month c.is_leap-leap.ensures c.days_of_months-before.ensures c.days_of_months-after.ensures m.2 in
    let few = months_few c.is_leap-leap.result c.args.month m.3 in
    (omega (arith, m), omega (arith, l, c.days_of_months-after.ensures, c.if-after-before.false, m, few))

pub returns : goal.returns
returns c =
    let is = sym c.is_month.ensures ∙ c.if-not-is_month.false in
    let m = in_month _ is in
    let l = length_is c.args.year c.args.month c.is_leap-leap.ensures c.days_of_months-before.ensures c.days_of_months-after.ensures m.2 in
    let date = date_is _ c.args.place is (omega (arith, l, c.if-after-before.false)) in
    let day = day_is c.args.year c.args.month c.is_leap-leap.ensures c.days_of_months-before.ensures c.days_of_months-after.ensures m.2 c.args.day c.day_of.ensures in
    (date_given _ c.args.place date day, omega (arith, day, day_short _ date))
