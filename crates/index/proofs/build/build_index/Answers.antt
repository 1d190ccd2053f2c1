-- `index::build::build_index` meets its contract.
use Rattle.numbers.{proofs.{Prelude.{ℕ, rules, length, false, sym, ap, ◌∙◌, arith}, Replies.{passed_on}}, specs.{Lists.{zeros}, Reply.{Reply}}}
use Rattle.header.proofs.{Buffers.{of_length, all_zero}, ReadFrom.{opened_small}}
use Rattle.index.specs.Index.{indexed}
use Rattle.index.proofs.{Filling.{not_opened, built, not_built}}
use Rattle.index.proofs.build.build_index.Goals as goal

pub returns-in_err-head : goal.returns-in_err-head
returns-in_err-head c =
    ap (λ (r : Reply ℕ). indexed r c.zero_words.new.hits) (passed_on _ c.from_residual.ensures.1)
    ∙ not_opened _ _ (sym c.in_err-head.was ∙ c.head_of.ensures) c.zero_words.ensures

pub fill-built-requires : goal.fill-built-requires
fill-built-requires c =
    (all_zero _ (length c.args.index.now) c.zero_words.ensures, omega (arith, opened_small false _ (sym c.in_ok-head.was ∙ c.head_of.ensures)))

pub returns-then-is_err : goal.returns-then-is_err
returns-then-is_err c =
    let same = of_length _ (length c.args.index.now) c.zero_words.ensures in
    not_built _ _ (sym c.in_ok-head.was ∙ c.head_of.ensures) same c.fill-built.result _ c.fill-built.ensures (sym c.is_err.ensures.value ∙ c.if-is_err.true)
    (all_zero _ (length c.fill-built.new.index) c.zero_words-then-is_err.ensures ∙ ap zeros ((search rules)))

pub returns : goal.returns
returns c =
    let same = of_length _ (length c.args.index.now) c.zero_words.ensures in
    built _ _ (sym c.in_ok-head.was ∙ c.head_of.ensures) same c.fill-built.result _ c.fill-built.ensures (sym c.is_err.ensures.value ∙ c.if-is_err.false)
