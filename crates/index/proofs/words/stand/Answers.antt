-- `index::words::stand` meets its contract: what is left to compare.
use Rattle.numbers.proofs.Prelude.{◌+◌, refl, sym, ◌∙◌}
use Rattle.index.proofs.{Sides.{and_first}, Standing.{goes, next_stands, none_stand}}
use Rattle.index.proofs.words.stand.Goals as goal

pub returns-then-not-is_word : goal.returns-then-not-is_word
returns-then-not-is_word c =
    and_first _ _ (sym c.is_word.ensures ∙ c.if-not-is_word.true) ∙ sym (c.loop-i.invariant ∙ next_stands c.args.words.now c.args.at c.args.more.now c.loop-i.i c.loop-i-test.true)

pub loop-i-preserved : goal.loop-i-preserved
loop-i-preserved c =
    c.loop-i.invariant ∙ next_stands c.args.words.now c.args.at c.args.more.now c.loop-i.i c.loop-i-test.true ∙ sym (goes _ _ (sym c.is_word.ensures
    ∙ c.if-not-is_word.false) refl)

pub returns : goal.returns
returns c =
    sym (c.loop-i.invariant ∙ none_stand c.args.words.now c.args.at c.args.more.now c.loop-i.i c.loop-i-test.false)
