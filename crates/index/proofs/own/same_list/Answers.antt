-- `index::own::same_list` meets its contract. The loop's invariant is `Stepping`.
use Rattle.numbers.{proofs.Prelude.{sym, ap, ◌∙◌}, specs.Reply.{refused}}
use Rattle.index.proofs.{Comparing.{stepping_ends, stepping_not, stepping_word, stepping_other}}
use Rattle.index.proofs.own.same_list.Goals as goal
use Rattle.index.proofs.own.same_list.Goals.{then-is_met_in+else-not-is_number, else-is_met_in}

pub returns-then-not-is_number : goal.returns-then-not-is_number
returns-then-not-is_number c =
    ap refused c.alone.ensures ∙ stepping_other _ _ _ _ c.loop-k.invariant c.loop-k-test.true (sym c.is_met_in.ensures ∙ c.if-is_met_in.true) (sym c.is_number.ensures ∙ c.if-not-is_number.true)

pub loop-k-preserved : goal.loop-k-preserved
loop-k-preserved c = elim c.if-is_met_in.branch [
  | then-is_met_in+else-not-is_number w ↦
      rw w.at-is (stepping_word _ _ _ _ c.loop-k.invariant c.loop-k-test.true (sym c.is_met_in.ensures ∙ w.if-is_met_in.true) (sym w.is_number.ensures ∙ w.if-not-is_number.false))
  | else-is_met_in w ↦ rw w.at-is (stepping_not _ _ _ _ c.loop-k.invariant c.loop-k-test.true (sym c.is_met_in.ensures ∙ w.if-is_met_in.false))
]

pub returns : goal.returns
returns c =
    stepping_ends _ _ _ _ c.loop-k.invariant c.loop-k-test.false
