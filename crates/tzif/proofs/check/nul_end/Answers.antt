-- `tzif::check::nul_end` meets its contract. The loop goes down: what is last below its index is last of all.
use Rattle.numbers.proofs.Prelude.{ℕ, ◌+◌, ◌-◌, ◌≡◌, eq-eqb, ne_eqb, refl, sym, ap, ◌∙◌, arith}
use Rattle.tzif.proofs.{Lasts.{last_none, last_here, last_below}}
use Rattle.tzif.specs.{Check.{nul_end}, Times.{last_with}}
use Rattle.tzif.proofs.check.nul_end.Invariants.{nul_at}
use Rattle.tzif.proofs.check.nul_end.Goals as goal

pub loop-n-init : goal.loop-n-init
loop-n-init c =
    (omega arith, refl)

pub returns-then-byte-eq0 : goal.returns-then-byte-eq0
unfolding nul_end
returns-then-byte-eq0 c =
    let back : c.loop-n.n - 1 + 1 ≡ c.loop-n.n = omega (arith, c.loop-n-test.true) in
    back ∙ last_here _ _ c.loop-n-test.true (eq-eqb _ _ (sym c.octet-byte.ensures.same ∙ c.if-byte-eq0.true)) ∙ c.loop-n.invariant.1
    ∙ ap (λ (p : ℕ). last_with c.args.block.charcnt (nul_at c.args.file.now p)) c.designations_of-place.ensures

pub loop-n-preserved : goal.loop-n-preserved
loop-n-preserved c = (
  omega (arith, c.loop-n.invariant.0),
  last_below _ _ c.loop-n-test.true (ne_eqb _ _ (λ e. c.if-byte-eq0.false (c.octet-byte.ensures.same ∙ e)))
      ∙ c.loop-n.invariant.1,
)

pub returns : goal.returns
unfolding nul_end
returns c =
    let none : 0 ≡ c.loop-n.n = omega (arith, c.loop-n-test.false) in
    none ∙ last_none _ _ c.loop-n-test.false ∙ c.loop-n.invariant.1 ∙ ap (λ (p : ℕ). last_with c.args.block.charcnt (nul_at c.args.file.now p)) c.designations_of-place.ensures
