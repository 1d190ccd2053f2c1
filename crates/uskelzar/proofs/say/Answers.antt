-- `uskelzar::say` meets its contract, for each trait member.
use Rattle.numbers.{proofs.{Prelude.{ℕ, List, ap, ◌∙◌}, Saying.{said_given, said_refused}}, specs.declared.said.Said.{Said}}
use Rattle.uskelzar.proofs.say.Goals as goal

abbrev answered : List ℕ → Said
answered words = record { number = 0; words = words }

pub returns-in-Ok : goal.returns-in-Ok
returns-in-Ok g c =
    ap answered c.words.ensures ∙ said_given g.V.Values.values c.in-Ok.is

pub returns-in-Err : goal.returns-in-Err
returns-in-Err g c =
    said_refused g.V.Values.values c.say_refused.ensures c.in-Err.is
