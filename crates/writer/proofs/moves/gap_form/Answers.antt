-- `writer::moves::gap_form` meets its contract.
use Rattle.numbers.{proofs.Prelude.{sfits_of, ℤ, pos, ◌-ℤ◌, get_or, ap, ◌∙◌}, specs.Spelling.{signed_form}}
use Rattle.writer.specs.inner.Stored.{gap_at}
use Rattle.writer.proofs.{Signs.{formed}}
use Rattle.writer.proofs.moves.gap_form.Goals as goal

pub returns : goal.returns
unfolding gap_at
returns c =
    let to = get_or c.args.list.now c.args.i (pos 0) in
    formed c.before-2.result to (sfits_of c.before-2.type_inv) (record { sfits = c.form_of-arg-1.given }) c.form_of.ensures
    ∙ ap (λ (z : ℤ). signed_form (to -ℤ z)) c.before-2.ensures
