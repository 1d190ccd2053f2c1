-- `index::entries::put_table` meets its contract. The loop's invariant is `Tabling`.
use Rattle.numbers.proofs.{Prelude.{rules, refl, sym, ◌∙◌, arith}, Replies.{passed_on}}
use Rattle.table.proofs.Agreeing.{agree_given, agree_refused}
use Rattle.writer.proofs.Stores.{stored_length}
use Rattle.index.proofs.Tabling.{next_found, tabling_starts, tabling_ends, tabling_bad, tabling_less, tabling_next, row_place, same_table}
use Rattle.index.proofs.entries.put_table.Goals as goal

pub loop-at-init : goal.loop-at-init
loop-at-init c =
    (tabling_starts _ _ _ _ _ _, refl)

pub returns-in_err-row : goal.returns-in_err-row
returns-in_err-row c =
    rw (passed_on _ c.from_residual.ensures.1) (agree_refused _ (tabling_bad _ _ _ _ _ _ c.loop-at.invariant.0 c.loop-at-test.true (sym c.in_err-row.was
    ∙ c.next_row.ensures) ∙ same_table _ _ c.start_at-at.ensures))

pub record_of-requires : goal.record_of-requires
record_of-requires c =
    let row = next_found _ _ _ (sym c.in_ok-row.was ∙ c.next_row.ensures) in
    omega (arith, row_place _ _ _ row.0, c.loop-at-test.true, c.struct_known-1.given)

pub loop-at-smaller : goal.loop-at-smaller
loop-at-smaller c =
    let row = next_found _ _ _ (sym c.in_ok-row.was ∙ c.next_row.ensures) in
    tabling_less _ _ _ _ _ _ c.loop-at.invariant.0 c.loop-at-test.true row.0 c.after-at.ensures

pub loop-at-preserved : goal.loop-at-preserved
loop-at-preserved c =
    let row = next_found _ _ _ (sym c.in_ok-row.was ∙ c.next_row.ensures) in (
      tabling_next _ _ _ _ _ _ c.loop-at.invariant.0 c.loop-at-test.true row.0 row.1 c.after-at.ensures (rw c.record_of.ensures at c.put_all-place.ensures),
      stored_length (rw c.record_of.ensures at c.put_all-place.ensures) ∙ c.loop-at.invariant.1,
    )

pub returns : goal.returns
returns c =
    let e = tabling_ends _ _ _ _ _ _ c.loop-at.invariant.0 c.loop-at-test.false (omega (arith, c.struct_known-1.given)) in
    agree_given _ (e.0 ∙ same_table _ _ c.start_at-at.ensures) e.1
