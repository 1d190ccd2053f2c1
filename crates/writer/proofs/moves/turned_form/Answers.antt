-- `writer::moves::turned_form` meets its contract.
use Rattle.numbers.{proofs.Prelude.{sfits_of, eq-eqb, ne_eqb, ℤ, pos, ◌-ℤ◌, get_or, ◌∷◌, sym, ap, ◌∙◌}, specs.Spelling.{signed_form}}
use Rattle.writer.specs.inner.Stored.{gap_at}
use Rattle.writer.proofs.{Signs.{formed, turned}}
use Rattle.writer.proofs.moves.turned_form.Goals as goal

pub returns-then-direction-eq0 : goal.returns-then-direction-eq0
returns-then-direction-eq0 c =
    rw (eq-eqb _ _ c.if-direction-eq0.true) c.gap_form.ensures

pub returns : goal.returns
unfolding gap_at
returns c =
    let to = get_or c.args.list.now c.args.i (pos 0) in
    rw (ne_eqb _ _ c.if-direction-eq0.false) (formed to c.before-2.result (record { sfits = c.form_of-arg-1.given }) (sfits_of c.before-2.type_inv) c.form_of.ensures
    ∙ ap (λ (z : ℤ). signed_form (z -ℤ to)) c.before-2.ensures ∙ ap signed_form (sym (turned to (get_or (pos 0 ∷ c.args.list.now) c.args.i (pos 0)))))
