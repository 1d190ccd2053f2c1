-- `builder::grouping::first::twice_from` meets its contract.
use Rattle.numbers.proofs.Prelude.{◌+◌, ◌≡◌, length-map, ◌∙◌, arith}
use Rattle.builder.specs.Grouping.Keys.{item_of}
use Rattle.builder.proofs.grouping.{Finding.{among_item, tail_more, tail_none, tail_at, tail_key}, Twice.{count_starts, count_past, twice_in, once_in, other_in, none_in}}
use Rattle.builder.proofs.grouping.first.twice_from.Goals as goal
use Rattle.builder.proofs.grouping.first.twice_from.Goals.{then-is_alike+else-found-eq2, else-is_alike}

pub returns-then-key_of-key : goal.returns-then-key_of-key
returns-then-key_of-key c =
    count_past _ _ _ c.requires.0 _ _ _ c.requires.4 c.requires.3 c.requires.1 _ _ c.loop-word.invariant (tail_more _ _ _ c.loop-word-test.true) _
    (c.key_of.ensures ∙ tail_key c.args.keys.now c.args.run c.loop-word.word-index) c.if-key_of-key.true

pub returns-then-found-eq2 : goal.returns-then-found-eq2
returns-then-found-eq2 c =
    twice_in _ _ c.args.keys.now _ _ _ c.loop-word.invariant (tail_more _ _ _ c.loop-word-test.true) _ (c.item_of.ensures ∙ tail_at c.args.keys.now c.args.run c.loop-word.word-index) _ c.is_alike.ensures c.if-is_alike.true
    c.if-found-eq2.true

pub loop-word-preserved : goal.loop-word-preserved
loop-word-preserved c =
    let e : c.args.run + (c.loop-word.word-index + 1) ≡ c.args.run + c.loop-word.word-index + 1 = omega arith in
    let more = tail_more _ _ _ c.loop-word-test.true in
    let is = c.item_of.ensures ∙ tail_at c.args.keys.now c.args.run c.loop-word.word-index in
    elim c.if-is_alike.branch [
      | then-is_alike+else-found-eq2 w ↦ rw (w.found-is, e) (once_in _ _ c.args.keys.now _ _ _ c.loop-word.invariant more _ is _ c.is_alike.ensures w.if-is_alike.true w.if-found-eq2.false)
      | else-is_alike w ↦ rw (w.found-is, e) (other_in _ _ c.args.keys.now _ _ _ c.loop-word.invariant more _ is _ c.is_alike.ensures w.if-is_alike.false)
    ]

pub returns : goal.returns
returns c =
    none_in _ _ c.args.keys.now _ _ _ c.loop-word.invariant (tail_none _ _ _ c.loop-word-test.false)
