-- `index::own::same_table` meets its contract. The loop's invariant is `Matching`.
use Rattle.numbers.{proofs.{Prelude.{sym, ap, ◌∙◌, arith}, Replies.{passed_on, carried, onward, met, unmet}}, specs.Reply.{plain}}
use Rattle.table.proofs.Agreeing.{agree_given, agree_refused}
use Rattle.index.specs.inner.Own.{compared_of}
use Rattle.index.proofs.{Comparing.{matching_starts, matching_next}, Sides.{and_first, and_rest}, Tabling.{next_found, tabling_ends, tabling_bad, tabling_less, row_place, same_table}}
use Rattle.index.proofs.own.same_table.Goals as goal
use Rattle.index.proofs.own.same_table.Goals.{then-same, else-same}

pub loop-at-init : goal.loop-at-init
loop-at-init c =
    matching_starts _ _ _ _ _ _

pub returns-in_err-row : goal.returns-in_err-row
unfolding compared_of
returns-in_err-row c =
    rw (passed_on _ c.from_residual.ensures.1) (agree_refused _ (carried (tabling_bad _ _ _ _ _ _ c.loop-at.invariant.tabling c.loop-at-test.true (sym
    c.in_err-row.was ∙ c.next_row.ensures) ∙ same_table _ _ c.start_at-at.ensures) _))

pub record_of-requires : goal.record_of-requires
record_of-requires c =
    let row = next_found _ _ _ (sym c.in_ok-row.was ∙ c.next_row.ensures) in
    omega (arith, row_place _ _ _ row.0, c.loop-at-test.true, c.struct_known-1.given)

pub loop-at-smaller : goal.loop-at-smaller
loop-at-smaller c =
    let row = next_found _ _ _ (sym c.in_ok-row.was ∙ c.next_row.ensures) in
    tabling_less _ _ _ _ _ _ c.loop-at.invariant.tabling c.loop-at-test.true row.0 c.after-at.ensures

pub loop-at-preserved : goal.loop-at-preserved
loop-at-preserved c =
    let row = next_found _ _ _ (sym c.in_ok-row.was ∙ c.next_row.ensures) in
    matching_next _ _ _ _ _ _ c.loop-at.invariant c.loop-at-test.true row.0 row.1 c.after-at.ensures (elim c.if-same.branch [
      | then-same w ↦ w.same-is ∙ (rw w.record_of.ensures at w.stand-same.ensures) ∙ and_rest _ _ w.if-same.true
      | else-same w ↦ w.same-is ∙ w.if-same.false ∙ and_first _ _ w.if-same.false
    ])

pub returns-then-not-same : goal.returns-then-not-same
unfolding compared_of
returns-then-not-same c =
    let e = tabling_ends _ _ _ _ _ _ c.loop-at.invariant.tabling c.loop-at-test.false (omega (arith, c.struct_known-1.given)) in
    rw c.alone.ensures (agree_refused _ (unmet (sym c.loop-at.invariant.compared ∙ c.if-not-same.true) (plain 36) _ ∙ onward (e.0 ∙ same_table _ _ c.start_at-at.ensures) _))

pub returns : goal.returns
unfolding compared_of
returns c =
    let e = tabling_ends _ _ _ _ _ _ c.loop-at.invariant.tabling c.loop-at-test.false (omega (arith, c.struct_known-1.given)) in
    agree_given _ (met (sym c.loop-at.invariant.compared ∙ c.if-not-same.false) (plain 36) _ ∙ onward (e.0
    ∙ same_table _ _ c.start_at-at.ensures) _) (record { counted = e.1.counted; few = e.1.few })
