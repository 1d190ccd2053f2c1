-- `draft::held::room::has_space` meets its contract.
use Rattle.numbers.proofs.Prelude.{sym, ◌∙◌, arith}
use Rattle.builder.proofs.Counting.{lengths_room}
use Rattle.draft.proofs.held.{Roomy.{no_own, own_and_work}}
use Rattle.draft.proofs.held.room.has_space.Goals as goal

pub returns-then-not-has_own : goal.returns-then-not-has_own
returns-then-not-has_own c =
    no_own c.args.rooms c.args.names c.args.yards c.args.strings c.args.front (sym c.if-not-has_own.true ∙ c.has_own.ensures)

pub returns : goal.returns
returns c =
    own_and_work c.args.rooms c.args.names c.args.yards c.args.strings c.args.front (sym c.if-not-has_own.false ∙ c.has_own.ensures) _ c.has_lists.ensures
