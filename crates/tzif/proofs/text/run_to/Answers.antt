-- `tzif::text::run_to` meets its contract.
use Rattle.numbers.proofs.Prelude.{ℕ, ◌≡◌, sym, ap, ◌∙◌, arith}
use Rattle.tzif.proofs.{Firsts.{none_yet, not_here, here}}
use Rattle.tzif.specs.{Text.{is_stop, first_with, run_to}}
use Rattle.tzif.proofs.text.run_to.Invariants.{stop_at}
use Rattle.tzif.proofs.text.run_to.Goals as goal

pub loop-i-init : goal.loop-i-init
loop-i-init c =
    (omega arith, none_yet _)

pub returns-then-is_stop : goal.returns-then-is_stop
unfolding run_to
returns-then-is_stop c =
    record {
      same = here _ _ c.loop-i.invariant.1 (sym (ap (is_stop c.args.other) c.octet-byte.ensures.same) ∙ sym c.is_stop.ensures
          ∙ c.if-is_stop.true) _ c.loop-i-test.true;
      within = c.loop-i.invariant.0;
    }

pub loop-i-preserved : goal.loop-i-preserved
loop-i-preserved c = (
  omega (arith, c.loop-i-test.true),
  not_here _ _ c.loop-i.invariant.1 (sym (ap (is_stop c.args.other) c.octet-byte.ensures.same) ∙ sym c.is_stop.ensures
      ∙ c.if-is_stop.false),
)

pub returns : goal.returns
unfolding run_to
returns c =
    let all : c.loop-i.i ≡ c.args.most = omega (arith, c.loop-i.invariant.0, c.loop-i-test.false) in record {
      same = sym all ∙ sym c.loop-i.invariant.1 ∙ ap (λ (n : ℕ). first_with n (stop_at c.args.other c.args.file.now c.args.from)) all;
      within = omega arith;
    }
