-- `bundle::bytes::agrees` meets its contract.
use Rattle.numbers.proofs.Prelude.{ℕ, ◌+◌, ◌-◌, drop, ap, sub-zero, ◌++◌, ◌≡◌, map, sym, ◌∙◌, arith}
use Rattle.bundle.proofs.{Entries.{agree_stop, agree_on, agree_end, from_start, next_place}}
use Rattle.bundle.specs.Bundle.{agrees, xored}
use Rattle.bundle.proofs.bytes.agrees.Goals as goal

pub loop-at-init : goal.loop-at-init
loop-at-init c =
    (ap (λ (n : ℕ). agrees n (drop (c.args.place + 0) c.args.bundle.now) (map (xored c.args.mask) (c.args.prefix.now ++ c.args.id.now))) (sub-zero c.args.size) ∙ from_start c.args.size c.args.bundle.now _ c.args.place, omega arith)

pub overflow_add-place : goal.overflow_add-place
overflow_add-place c =
    omega (arith, c.requires, c.loop-at.invariant.1)

pub bounds-bundle-place : goal.bounds-bundle-place
bounds-bundle-place c =
    omega (arith, c.requires, c.loop-at.invariant.1)

pub returns-then-bundle-place : goal.returns-then-bundle-place
returns-then-bundle-place c =
    agree_stop (c.args.size - c.loop-at.at) c.args.bundle.now (map (xored c.args.mask) (c.args.prefix.now ++ c.args.id.now)) (c.args.place + c.loop-at.at) c.loop-at.at
    (omega (arith, c.loop-at-test.true)) (λ e. c.if-bundle-place.true (e ∙ sym c.byte_of.ensures)) ∙ c.loop-at.invariant.0

pub loop-at-preserved : goal.loop-at-preserved
loop-at-preserved c =
    let name = map (xored c.args.mask) (c.args.prefix.now ++ c.args.id.now) in
    let less : c.args.size - (c.loop-at.at + 1) ≡ (c.args.size - c.loop-at.at) - 1 = omega arith in (
      ap (λ (n : ℕ). agrees n (drop (c.args.place + (c.loop-at.at + 1)) c.args.bundle.now) (drop (c.loop-at.at + 1) name)) less
          ∙ next_place ((c.args.size - c.loop-at.at) - 1) c.args.bundle.now _ c.args.place c.loop-at.at ∙ agree_on (c.args.size - c.loop-at.at) c.args.bundle.now (map (xored c.args.mask)
          (c.args.prefix.now ++ c.args.id.now)) (c.args.place + c.loop-at.at) c.loop-at.at (omega (arith, c.loop-at-test.true)) (c.if-bundle-place.false ∙ c.byte_of.ensures)
          ∙ c.loop-at.invariant.0,
      omega (arith, c.loop-at-test.true),
    )

pub returns : goal.returns
returns c =
    agree_end (c.args.size - c.loop-at.at) _ _ (omega arith) ∙ c.loop-at.invariant.0
