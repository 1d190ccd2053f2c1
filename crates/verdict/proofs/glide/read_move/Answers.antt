-- `verdict::glide::read_move` meets its contract.
use Rattle.numbers.{proofs.{Prelude.{sym, ap, ◌∙◌}, varint.Short.{short_is_number}}, specs.Varint.{told}}
use Rattle.verdict.proofs.glide.read_move.Goals as goal

pub returns-in-Ok : goal.returns-in-Ok
returns-in-Ok c =
    short_is_number c.args.file.now c.args.place c.args.strict (sym (ap told c.in-Ok.is) ∙ c.read_short.ensures)
