-- `writer::checks::all_near` meets its contract.
use Rattle.numbers.proofs.Prelude.{rules, pos, get_or, true, false, ◌≡◌, refl, sym, ap, ◌∙◌, w32, SFits, arith}
use mir.Facts.{to_z-of_z}
use Rattle.writer.specs.Writer.{every, near}
use Rattle.writer.proofs.{Indexed.{every_bad, every_good, every_done}}
use Rattle.writer.proofs.checks.all_near.Goals as goal

pub loop-z-init : goal.loop-z-init
loop-z-init c =
    refl

pub returns-then-not-is_near : goal.returns-then-not-is_near
returns-then-not-is_near c =
    let zs = c.args.list.now in
    let fit : SFits w32 (get_or zs c.loop-z.z-index (pos 0)) = search rules in
    let bad : near (get_or zs c.loop-z.z-index (pos 0)) ≡ false = ap near (sym (to_z-of_z fit)) ∙ sym c.is_near.ensures ∙ c.if-not-is_near.true in
    sym (every_bad near zs c.loop-z.z-index (pos 0) c.loop-z-test.true bad) ∙ c.loop-z.invariant

pub loop-z-preserved : goal.loop-z-preserved
loop-z-preserved c =
    let zs = c.args.list.now in
    let fit : SFits w32 (get_or zs c.loop-z.z-index (pos 0)) = search rules in
    let good : near (get_or zs c.loop-z.z-index (pos 0)) ≡ true = ap near (sym (to_z-of_z fit)) ∙ sym c.is_near.ensures ∙ c.if-not-is_near.false in
    every_good near zs c.loop-z.z-index (pos 0) c.loop-z-test.true good ∙ c.loop-z.invariant

pub returns : goal.returns
unfolding every
returns c =
    sym (every_done near c.args.list.now c.loop-z.z-index c.loop-z-test.false) ∙ c.loop-z.invariant
