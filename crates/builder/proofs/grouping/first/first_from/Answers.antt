-- `builder::grouping::first::first_from` meets its contract.
use Rattle.numbers.proofs.Prelude.{◌+◌, ◌≡◌, length-map, ◌∙◌, arith}
use Rattle.builder.specs.Grouping.Keys.{item_of}
use Rattle.builder.proofs.grouping.{Finding.{scan_starts, among_item, found_in, goes_in, ends_in, tail_more, tail_none, tail_at}}
use Rattle.builder.proofs.grouping.first.first_from.Goals as goal

pub returns-then-is_alike : goal.returns-then-is_alike
returns-then-is_alike c =
    found_in _ _ c.args.keys.now _ _ c.loop-word.invariant (tail_more _ _ _ c.loop-word-test.true) _ (c.item_of-other.ensures ∙ tail_at c.args.keys.now c.args.run c.loop-word.word-index) _ c.is_alike.ensures c.if-is_alike.true

pub loop-word-preserved : goal.loop-word-preserved
loop-word-preserved c =
    let e : c.args.run + (c.loop-word.word-index + 1) ≡ c.args.run + c.loop-word.word-index + 1 = omega arith in
    rw e (goes_in _ _ c.args.keys.now _ _ c.loop-word.invariant (tail_more _ _ _ c.loop-word-test.true) _ (c.item_of-other.ensures ∙ tail_at c.args.keys.now c.args.run c.loop-word.word-index) _ c.is_alike.ensures c.if-is_alike.false)

pub returns : goal.returns
returns c =
    ends_in _ _ c.args.keys.now _ _ c.loop-word.invariant (tail_none _ _ _ c.loop-word-test.false)
