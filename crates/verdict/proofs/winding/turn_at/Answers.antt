-- `verdict::winding::turn_at` meets its contract: the bounds that fit, and the tests against them, decide as the definition does.
use Rattle.numbers.proofs.{Prelude.{ℕ, ℤ, pos, ◌+ℤ◌, ◌-ℤ◌, lt_z, true, false, rules, ◌≡◌, ◌∙◌, w32, SFits, of_z, to_z, to_z-of_z}}
use Rattle.std.specs.Prelude.{Result, Ok, if◌then◌else◌}
use Rattle.border.specs.declared.place.FixedLon.{FixedLon}
use Rattle.verdict.proofs.{Halts.{exits, goes_on, tested, tested_fits}}
use Rattle.verdict.specs.{Step.{Step, found, meets, ◌>>=◌, checked, told}, Winding.{half_turn, turn_at}, declared.step.{Halt.{Halt}, Verdict.TheVariants.{OnBorderSegment}}}
use Rattle.verdict.proofs.winding.turn_at.Goals as goal

module _ (crossing fix : FixedLon) (q : ℕ) where
  -- what follows the right bound, and the left one
  abbrev behind : ℤ → Step ℤ
  behind right = if lt_z right crossing.0 then found (half_turn false q) else meets OnBorderSegment

  abbrev before : ℤ → Step ℤ
  before left = if lt_z crossing.0 left then found (half_turn true q) else (checked 31 (fix.0 +ℤ pos 1) >>= behind)

  bounded : {r : Result ℤ Halt} {left : ℤ} → told r ≡ checked 31 (fix.0 -ℤ pos 1) → r ≡ Ok left → before left ≡ turn_at crossing fix q
  unfolding turn_at
  bounded {r} h is = goes_on r h is before

pub returns-in_err-left : goal.returns-in_err-left
unfolding turn_at
returns-in_err-left c =
    let x : SFits w32 c.args.fix.0 = search rules in
    let left = rw (to_z-of_z w32 _ x) at c.checked_sub.ensures in
    exits c.from_residual.result c.in_err-left.was (tested (c.args.fix.0 -ℤ pos 1) c.checked_sub.result left c.ok_or.ensures.value) c.from_residual.ensures.1
    (before c.args.crossing c.args.fix c.args.quadrant)

pub returns-then-crossing-left : goal.returns-then-crossing-left
returns-then-crossing-left c =
    let x : SFits w32 c.args.fix.0 = search rules in
    let y : SFits w32 c.args.crossing.0 = search rules in
    let left = rw (to_z-of_z w32 _ x) at c.checked_sub.ensures in
    let fits = tested_fits (c.args.fix.0 -ℤ pos 1) c.checked_sub.result left c.ok_or.ensures.value c.in_ok-left.was in
    let r : to_z w32 (of_z w32 c.half_turn.result) ≡ c.half_turn.result = search rules in
    let here = rw (to_z-of_z w32 _ y, to_z-of_z w32 _ fits) at c.if-crossing-left.true in
    rw (r, c.half_turn.ensures) (rw here at (bounded c.args.crossing c.args.fix c.args.quadrant (tested (c.args.fix.0 -ℤ pos 1) c.checked_sub.result left c.ok_or.ensures.value)
    c.in_ok-left.was))

pub returns-in_err-right : goal.returns-in_err-right
returns-in_err-right c =
    let x : SFits w32 c.args.fix.0 = search rules in
    let y : SFits w32 c.args.crossing.0 = search rules in
    let left = rw (to_z-of_z w32 _ x) at c.checked_sub.ensures in
    let fits = tested_fits (c.args.fix.0 -ℤ pos 1) c.checked_sub.result left c.ok_or.ensures.value c.in_ok-left.was in
    let here = rw (to_z-of_z w32 _ y, to_z-of_z w32 _ fits) at c.if-crossing-left.false in
    let right = rw (to_z-of_z w32 _ x) at c.checked_add.ensures in
    exits c.from_residual-in_err-right.result c.in_err-right.was (tested (c.args.fix.0 +ℤ pos 1) c.checked_add.result right c.ok_or-2.ensures.value)
    c.from_residual-in_err-right.ensures.1 (behind c.args.crossing c.args.fix c.args.quadrant)
    ∙ (rw here at (bounded c.args.crossing c.args.fix c.args.quadrant (tested (c.args.fix.0 -ℤ pos 1) c.checked_sub.result left c.ok_or.ensures.value) c.in_ok-left.was))

pub returns-then-right-crossing : goal.returns-then-right-crossing
returns-then-right-crossing c =
    let x : SFits w32 c.args.fix.0 = search rules in
    let y : SFits w32 c.args.crossing.0 = search rules in
    let left = rw (to_z-of_z w32 _ x) at c.checked_sub.ensures in
    let fits = tested_fits (c.args.fix.0 -ℤ pos 1) c.checked_sub.result left c.ok_or.ensures.value c.in_ok-left.was in
    let here = rw (to_z-of_z w32 _ y, to_z-of_z w32 _ fits) at c.if-crossing-left.false in
    let right = rw (to_z-of_z w32 _ x) at c.checked_add.ensures in
    let held = tested_fits (c.args.fix.0 +ℤ pos 1) c.checked_add.result right c.ok_or-2.ensures.value c.in_ok-right.was in
    let there = rw (to_z-of_z w32 _ y, to_z-of_z w32 _ held) at c.if-right-crossing.true in
    let r : to_z w32 (of_z w32 c.half_turn-then-right-crossing.result) ≡ c.half_turn-then-right-crossing.result = search rules in
    rw (r, c.half_turn-then-right-crossing.ensures) ((rw there at (goes_on c.ok_or-2.result (tested (c.args.fix.0 +ℤ pos 1) c.checked_add.result right c.ok_or-2.ensures.value)
    c.in_ok-right.was (behind c.args.crossing c.args.fix c.args.quadrant)))
    ∙ (rw here at (bounded c.args.crossing c.args.fix c.args.quadrant (tested (c.args.fix.0 -ℤ pos 1) c.checked_sub.result left c.ok_or.ensures.value) c.in_ok-left.was)))

pub returns : goal.returns
returns c =
    let x : SFits w32 c.args.fix.0 = search rules in
    let y : SFits w32 c.args.crossing.0 = search rules in
    let left = rw (to_z-of_z w32 _ x) at c.checked_sub.ensures in
    let fits = tested_fits (c.args.fix.0 -ℤ pos 1) c.checked_sub.result left c.ok_or.ensures.value c.in_ok-left.was in
    let here = rw (to_z-of_z w32 _ y, to_z-of_z w32 _ fits) at c.if-crossing-left.false in
    let right = rw (to_z-of_z w32 _ x) at c.checked_add.ensures in
    let held = tested_fits (c.args.fix.0 +ℤ pos 1) c.checked_add.result right c.ok_or-2.ensures.value c.in_ok-right.was in
    let there = rw (to_z-of_z w32 _ y, to_z-of_z w32 _ held) at c.if-right-crossing.false in
    (rw there at (goes_on c.ok_or-2.result (tested (c.args.fix.0 +ℤ pos 1) c.checked_add.result right c.ok_or-2.ensures.value) c.in_ok-right.was
    (behind c.args.crossing c.args.fix c.args.quadrant)))
    ∙ (rw here at (bounded c.args.crossing c.args.fix c.args.quadrant (tested (c.args.fix.0 -ℤ pos 1) c.checked_sub.result left c.ok_or.ensures.value) c.in_ok-left.was))
