-- `tzrule::name::name_end` meets its contract.
use Rattle.numbers.proofs.Prelude.{sym, ◌∙◌, arith}
use Rattle.tzrule.proofs.{Letters.{name_stops, name_runs_out}}
use Rattle.tzrule.proofs.name.name_end.Goals as goal

pub returns-in-Some : goal.returns-in-Some
returns-in-Some c =
    name_stops c.args.quoted c.args.text.now c.args.at c.requires (sym c.in-Some.is ∙ c.first_other.ensures)

pub returns-in-None : goal.returns-in-None
returns-in-None c =
    (name_runs_out c.args.quoted c.args.text.now c.args.at c.requires (sym c.in-None.is ∙ c.first_other.ensures), omega arith)
