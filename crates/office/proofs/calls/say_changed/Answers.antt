use Rattle.numbers.{proofs.{Prelude.{ℕ, [], ◌∷◌, ap, ◌∙◌}, Saying.{said_given, said_refused}}, specs.declared.said.Said.{Said}}
use Rattle.draft.specs.declared.held.state.Held.{Held}
use Rattle.office.specs.Draft.{totals_values}
use Rattle.office.proofs.calls.say_changed.Goals as goal

abbrev saying : Held → ℕ → Said
saying held bits = record { number = 0; words = held.table ∷ held.metadata ∷ held.bytes ∷ held.yards ∷ bits ∷ [] }

pub returns-in-Ok : goal.returns-in-Ok
returns-in-Ok c =
    let held : Held = c.in-Ok.held in
    ap (saying held) c.greatest_bits-bits.ensures.0 ∙ said_given totals_values c.in-Ok.is

pub returns-in-Err : goal.returns-in-Err
returns-in-Err c =
    said_refused totals_values c.say_refused.ensures c.in-Err.is
