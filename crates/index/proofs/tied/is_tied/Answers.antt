-- `index::tied::is_tied` meets its contract.
use Rattle.numbers.proofs.Prelude.{ℕ, ◌+◌, ◌*◌, take, sym, ap, ◌∙◌}
use Rattle.index.specs.{Index.{records_at, words_for}, Tied.{keeps_from, is_tied}}
use Rattle.index.proofs.{Sides.{and_first, and_rest}}
use Rattle.index.proofs.tied.is_tied.Goals as goal

pub returns-then-is_headed : goal.returns-then-is_headed
unfolding is_tied
returns-then-is_headed c =
    let size = c.args.head.sections.metadata in
    c.keeps.ensures ∙ ap (λ (w : ℕ). keeps_from c.args.index.now (records_at + 7 * w) (take size c.args.file.now) (words_for size) 0) c.wide.ensures.0
    ∙ and_rest _ _ (sym c.is_headed.ensures ∙ c.if-is_headed.true)

pub returns : goal.returns
unfolding is_tied
returns c =
    and_first _ _ (sym c.is_headed.ensures ∙ c.if-is_headed.false)
