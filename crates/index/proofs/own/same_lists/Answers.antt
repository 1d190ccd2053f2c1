-- `index::own::same_lists` meets its contract. The loop's invariant is `Walking`.
use Rattle.numbers.{proofs.{Prelude.{sym, ap, ◌∙◌}, Replies.{passed_on}}, specs.Reply.{refused}}
use Rattle.index.proofs.{Comparing.{walking_ends, walking_last, walking_other, walking_list, walking_next, by_tile}}
use Rattle.index.proofs.own.same_lists.Goals as goal

pub returns-then-not-is_number : goal.returns-then-not-is_number
returns-then-not-is_number c =
    ap refused c.alone.ensures ∙ walking_other _ _ _ _ c.loop-t.invariant c.loop-t-test.true (sym c.is_number.ensures ∙ c.if-not-is_number.true)

pub returns-in_err-at : goal.returns-in_err-at
returns-in_err-at c =
    passed_on _ c.from_residual.ensures.1 ∙ walking_list _ _ _ _ c.loop-t.invariant c.loop-t-test.true (sym c.is_number.ensures ∙ c.if-not-is_number.false) (by_tile c.args.index.now c.loop-t.at c.args.n
    c.tile_at-tile.ensures (sym c.in_err-at.was ∙ c.same_list.ensures))

pub loop-t-preserved : goal.loop-t-preserved
loop-t-preserved c =
    walking_next _ _ _ _ c.loop-t.invariant c.loop-t-test.true (sym c.is_number.ensures ∙ c.if-not-is_number.false) c.requires.0 (by_tile c.args.index.now
    c.loop-t.at c.args.n c.tile_at-tile.ensures (sym c.in_ok-at.was ∙ c.same_list.ensures))

pub returns-then-not-is_number-2 : goal.returns-then-not-is_number-2
returns-then-not-is_number-2 c =
    ap refused c.alone-then-not-is_number-2.ensures ∙ walking_last _ _ _ _ c.loop-t.invariant c.loop-t-test.false (sym c.is_number-2.ensures ∙ c.if-not-is_number-2.true)

pub returns : goal.returns
returns c =
    walking_ends _ _ _ _ c.loop-t.invariant c.loop-t-test.false (sym c.is_number-2.ensures ∙ c.if-not-is_number-2.false)
