-- `index::lists::put_list` meets its contract. The loop's invariant is `Going`.
use Rattle.numbers.proofs.Prelude.{sym, ◌∙◌}
use Rattle.index.proofs.{Listing.{going_met, going_not, going_ends}}
use Rattle.index.proofs.lists.put_list.Goals as goal
use Rattle.index.proofs.lists.put_list.Goals.{then-is_met_in, else-is_met_in}

pub loop-k-preserved : goal.loop-k-preserved
loop-k-preserved c = elim c.if-is_met_in.branch [
  | then-is_met_in w ↦
      rw (w.index-is, w.at-is) (going_met c.loop-k.invariant c.loop-k-test.true c.requires.1 (sym c.is_met_in.ensures ∙ w.if-is_met_in.true) w.put-at.ensures)
  | else-is_met_in w ↦ rw (w.index-is, w.at-is) (going_not c.loop-k.invariant c.loop-k-test.true c.requires.1 (sym c.is_met_in.ensures ∙ w.if-is_met_in.false))
]

pub returns : goal.returns
returns c =
    going_ends c.loop-k.invariant c.loop-k-test.false
