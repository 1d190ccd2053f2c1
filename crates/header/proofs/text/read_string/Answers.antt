-- `header::text::read_string` meets its contract.
use Rattle.numbers.{proofs.{Answers.{chosen, other}, Laws.{goes_on, exits}, Prelude.{ℕ, lt-ltb, le-ltb, sym, ap, ◌∙◌, arith}}, specs.Varint.{told}}
use Rattle.header.proofs.{Strings.{away, read_within}}
use Rattle.header.specs.Text.{string_at, remote_at}
use Rattle.header.proofs.text.read_string.Goals as goal

pub returns-in_err-number : goal.returns-in_err-number
unfolding string_at
returns-in_err-number c =
    exits c.from_residual.result c.in_err-number.was c.read_number.ensures c.from_residual.ensures.1 _

pub overflow_add-end : goal.overflow_add-end
overflow_add-end c =
    omega (arith, read_within _ _ _ (sym (ap told c.in_ok-number.was) ∙ c.read_number.ensures))

pub returns-then-number-lt256 : goal.returns-then-number-lt256
unfolding string_at
returns-then-number-lt256 c =
    c.inside.ensures ∙ chosen (lt-ltb _ _ c.if-number-lt256.true) _ _ ∙ goes_on c.read_number.result c.read_number.ensures c.in_ok-number.was _

pub returns : goal.returns
unfolding string_at
returns c =
    c.read_remote.ensures ∙ ap (λ (place : ℕ). remote_at c.args.strict c.args.file.now place c.in_ok-number.number.place) (away c.args.metadata
    c.in_ok-number.number.value c.if-number-lt256.false) ∙ other (le-ltb _ _ c.if-number-lt256.false) _ _
    ∙ goes_on c.read_number.result c.read_number.ensures c.in_ok-number.was _
