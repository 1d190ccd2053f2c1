-- `header::text::read_remote` meets its contract.
use Rattle.numbers.proofs.{Answers.{chosen, other}, Laws.{goes_on, exits}, Prelude.{le-leb, lt-leb, ◌∙◌}}
use Rattle.header.specs.Text.{remote_at}
use Rattle.header.proofs.text.read_remote.Goals as goal

pub returns-in_err-number : goal.returns-in_err-number
unfolding remote_at
returns-in_err-number c =
    exits c.from_residual.result c.in_err-number.was c.read_number.ensures c.from_residual.ensures.1 _

pub returns-then-number-gt256 : goal.returns-then-number-gt256
unfolding remote_at
returns-then-number-gt256 c =
    other (lt-leb _ _ c.if-number-gt256.true) _ _ ∙ goes_on c.read_number.result c.read_number.ensures c.in_ok-number.was _

pub returns : goal.returns
unfolding remote_at
returns c =
    c.inside.ensures ∙ chosen (le-leb _ _ c.if-number-gt256.false) _ _ ∙ goes_on c.read_number.result c.read_number.ensures c.in_ok-number.was _
