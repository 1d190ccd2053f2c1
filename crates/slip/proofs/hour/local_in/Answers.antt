-- `slip::hour::local_in` meets its contract.
use Rattle.numbers.proofs.Prelude.{rules, ◌≡◌, sym, ap, ◌∙◌, w64, of_z, to_z, to_z-of_z}
use Rattle.numbers.specs.Reply.{refused}
use Rattle.localtime.specs.{Local.{answer_at, scale_at}, declared.scale.Scale.{Scale}}
use Rattle.slip.proofs.{Locals.{Local, as_passed, leaps, is_known, not_told}}
use Rattle.std.specs.Prelude.{ok_or}
use Rattle.tzif.specs.Header.{rfc9636}
use Rattle.slip.proofs.hour.local_in.Goals as goal

pub returns-then-scale-eq2 : goal.returns-then-scale-eq2
returns-then-scale-eq2 c =
    let same : to_z w64 (of_z w64 c.args.fix.instant) ≡ c.args.fix.instant = to_z-of_z w64 c.args.fix.instant (search rules) in
    let kind : c.answer_at-answered.result.scale.kind ≡ (scale_at c.args.file.now c.args.fix.instant).kind = ap (λ (s : Scale). s.kind) (c.answer_at-answered.ensures.2
    ∙ ap (scale_at c.args.file.now) same) in
    leaps _ _ kind c.if-scale-eq2.true (ap refused c.alone.ensures)

pub returns-in_err-said : goal.returns-in_err-said
returns-in_err-said c =
    let same : to_z w64 (of_z w64 c.args.fix.instant) ≡ c.args.fix.instant = to_z-of_z w64 c.args.fix.instant (search rules) in
    let kind : c.answer_at-answered.result.scale.kind ≡ (scale_at c.args.file.now c.args.fix.instant).kind = ap (λ (s : Scale). s.kind) (c.answer_at-answered.ensures.2
    ∙ ap (scale_at c.args.file.now) same) in
    as_passed (Local _ _ kind) _ c.from_residual.ensures.1 (not_told _ _ kind c.if-scale-eq2.false _ (c.answer_at-answered.ensures.0 ∙ ap (answer_at rfc9636 c.args.file.now) same)
    c.answer_at-answered.ensures.1 (sym c.in_err-said.was ∙ c.plainly.ensures))

pub returns : goal.returns
returns c =
    let same : to_z w64 (of_z w64 c.args.fix.instant) ≡ c.args.fix.instant = to_z-of_z w64 c.args.fix.instant (search rules) in
    let kind : c.answer_at-answered.result.scale.kind ≡ (scale_at c.args.file.now c.args.fix.instant).kind = ap (λ (s : Scale). s.kind) (c.answer_at-answered.ensures.2
    ∙ ap (scale_at c.args.file.now) same) in
    is_known _ _ kind c.if-scale-eq2.false _ (c.answer_at-answered.ensures.0 ∙ ap (answer_at rfc9636 c.args.file.now) same)
    c.answer_at-answered.ensures.1 (sym c.in_ok-said.was ∙ c.plainly.ensures) (c.ok_or.ensures.value ∙ ap (ok_or c.in_ok-said.said) c.alone-2.ensures)
