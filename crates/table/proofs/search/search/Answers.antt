-- `table::search::search` meets its contract. The loop's invariant is `Going`: the hits so far stand at the front of words that are zero beyond them.
use Rattle.numbers.{proofs.{Prelude.{false, ◌≡◌, refl, sym, ap, ◌∙◌, arith}, Readings.{reading_grows}}, specs.{Answer.{found}, Varint.{told, reading_of}}}
use Rattle.table.proofs.{TableRows.{at_end, at_row, at_unreadable, at_refused, row_less}, pass.Passing.{over_less}, rest.Remaining.{stopped_mark}}
use Rattle.table.proofs.rows.Entering.{row_read, row_failed, row_refused}
use Rattle.table.proofs.search.{Stopping.{stop_failed, stop_refused}, Searching.{Going, starts, passed_on, early, stops, refuses, on, full, met}, SoFar.{kept_length}, Turns.{met_kind}}
use Rattle.table.specs.{Rows.{row_by, rows_from, rows_in}, Search.{searched}, Table.{is_above}, declared.rows.Row.{Row}}
use Rattle.table.proofs.search.Searching as S
use Rattle.table.proofs.search.search.Goals as goal

pub loop-at-init : goal.loop-at-init
unfolding rows_in searched
loop-at-init c =
    passed_on _ _ _ _ _ c.pass_over-at.ensures (starts _ _ _ _ _ _ c.requires (ap (rows_from _ _) c.start_at-start.ensures))

pub shape_of-hits-in_default : goal.shape_of-hits-in_default
shape_of-hits-in_default c =
    kept_length c.loop-at.invariant

pub returns-in_default : goal.returns-in_default
returns-in_default c =
    rw c.end_with.ensures (S.at_unreadable _ _ _ _ c.loop-at.invariant (at_unreadable _ (reading_grows _ _) _ c.loop-at-test.true (row_failed _ _ (stop_failed c.in-Err.stop
    (sym c.refusal.ensures ∙ c.in_default.is) ∙ (sym (ap told c.in-Err.is) ∙ c.entry_at.ensures)))))

pub shape_of-hits-in-Err : goal.shape_of-hits-in-Err
shape_of-hits-in-Err c =
    kept_length c.loop-at.invariant

pub returns-in-Err : goal.returns-in-Err
returns-in-Err c =
    let stop = stop_refused c.in-Err.stop (sym c.refusal.ensures ∙ c.in-Some.is) in
    rw (← stop.is) (S.at_refused _ _ _ _ c.loop-at.invariant _ (at_refused _ (reading_grows _ _) _ c.loop-at-test.true (row_refused _ _ (stop.reads ∙ (sym (ap told
    c.in-Err.is) ∙ c.entry_at.ensures)))))

pub rest_mark-requires : goal.rest_mark-requires
rest_mark-requires c =
    omega (arith, c.struct_known-1.given)

pub shape_of-hits-then-is_above : goal.shape_of-hits-then-is_above
shape_of-hits-then-is_above c =
    kept_length c.loop-at.invariant

pub returns-then-is_above : goal.returns-then-is_above
returns-then-is_above c =
    rw c.end_with-then-is_above.ensures (early _ _ _ _ c.loop-at.invariant (at_row _ (reading_grows _ _) _ c.loop-at-test.true (row_read _ _ (sym (ap told
    c.in-Ok.is) ∙ c.entry_at.ensures) refl) refl) (sym c.is_above.ensures ∙ c.if-is_above.true) (stopped_mark _ _ _ _ (sym c.is_above.ensures
    ∙ c.if-is_above.true) c.rest_mark.ensures))

pub loop-at-smaller-in-On : goal.loop-at-smaller-in-On
loop-at-smaller-in-On c =
    let row_here : found c.row_of-row.result ≡ row_by (reading_of c.args.head.strict c.args.file.now) c.loop-at.at = row_read _ _ (sym (ap told c.in-Ok.is)
    ∙ c.entry_at.ensures) c.row_of-row.ensures in
    over_less _ (row_less _ (reading_grows _ _) _ c.loop-at-test.true row_here c.after-later.ensures) c.pass_over-at-in-loop-at.ensures

pub loop-at-preserved-in-On : goal.loop-at-preserved-in-On
loop-at-preserved-in-On c =
    let row_here : found c.row_of-row.result ≡ row_by (reading_of c.args.head.strict c.args.file.now) c.loop-at.at = row_read _ _ (sym (ap told c.in-Ok.is)
    ∙ c.entry_at.ensures) c.row_of-row.ensures in
    let low_here : is_above c.row_of-row.result.bounds c.args.fix ≡ false = ap (λ (r : Row). is_above r.bounds c.args.fix) c.row_of-row.ensures
    ∙ sym c.is_above.ensures ∙ c.if-is_above.false in
    passed_on _ _ _ _ _ c.pass_over-at-in-loop-at.ensures (on _ _ _ _ c.loop-at.invariant (at_row _ (reading_grows _ _) _ c.loop-at-test.true row_here
    c.after-later.ensures) low_here (sym c.in-On.is ∙ c.on_row-turn.ensures))

pub shape_of-hits-then-room-count : goal.shape_of-hits-then-room-count
shape_of-hits-then-room-count c =
    kept_length c.loop-at.invariant

pub returns-then-room-count : goal.returns-then-room-count
returns-then-room-count c =
    let row_here : found c.row_of-row.result ≡ row_by (reading_of c.args.head.strict c.args.file.now) c.loop-at.at = row_read _ _ (sym (ap told c.in-Ok.is)
    ∙ c.entry_at.ensures) c.row_of-row.ensures in
    let low_here : is_above c.row_of-row.result.bounds c.args.fix ≡ false = ap (λ (r : Row). is_above r.bounds c.args.fix) c.row_of-row.ensures
    ∙ sym c.is_above.ensures ∙ c.if-is_above.false in
    rw c.alone.ensures (full _ _ _ _ c.loop-at.invariant (at_row _ (reading_grows _ _) _ c.loop-at-test.true row_here c.after-later.ensures)
    low_here (sym c.in-Met.is ∙ c.on_row-turn.ensures) _ (omega (arith, c.if-room-count.true, c.room-room.ensures)))

pub put_hit-requires : goal.put_hit-requires
put_hit-requires c =
    omega (arith, kept_length c.loop-at.invariant, c.if-room-count.false, c.room-room.ensures)

pub overflow_add-count : goal.overflow_add-count
overflow_add-count c =
    omega (arith, c.if-room-count.false, c.room-room.ensures)

pub loop-at-smaller : goal.loop-at-smaller
loop-at-smaller c =
    let row_here : found c.row_of-row.result ≡ row_by (reading_of c.args.head.strict c.args.file.now) c.loop-at.at = row_read _ _ (sym (ap told c.in-Ok.is)
    ∙ c.entry_at.ensures) c.row_of-row.ensures in
    over_less _ (row_less _ (reading_grows _ _) _ c.loop-at-test.true row_here c.after-later.ensures) c.pass_over-at-in-loop-at.ensures

pub loop-at-preserved : goal.loop-at-preserved
loop-at-preserved c =
    let row_here : found c.row_of-row.result ≡ row_by (reading_of c.args.head.strict c.args.file.now) c.loop-at.at = row_read _ _ (sym (ap told c.in-Ok.is)
    ∙ c.entry_at.ensures) c.row_of-row.ensures in
    let low_here : is_above c.row_of-row.result.bounds c.args.fix ≡ false = ap (λ (r : Row). is_above r.bounds c.args.fix) c.row_of-row.ensures
    ∙ sym c.is_above.ensures ∙ c.if-is_above.false in
    let is = sym c.in-Met.is ∙ c.on_row-turn.ensures in
    rw c.put_hit.ensures (passed_on _ _ _ _ _ c.pass_over-at-in-loop-at.ensures (met _ _ _ _ c.loop-at.invariant (at_row _ (reading_grows _ _) _ c.loop-at-test.true
    row_here c.after-later.ensures) low_here is (omega (arith, c.if-room-count.false, c.room-room.ensures)) (met_kind _ _ _ _ is)))

pub shape_of-hits-in-Stopped : goal.shape_of-hits-in-Stopped
shape_of-hits-in-Stopped c =
    kept_length c.loop-at.invariant

pub returns-in-Stopped : goal.returns-in-Stopped
returns-in-Stopped c =
    let row_here : found c.row_of-row.result ≡ row_by (reading_of c.args.head.strict c.args.file.now) c.loop-at.at = row_read _ _ (sym (ap told c.in-Ok.is)
    ∙ c.entry_at.ensures) c.row_of-row.ensures in
    let low_here : is_above c.row_of-row.result.bounds c.args.fix ≡ false = ap (λ (r : Row). is_above r.bounds c.args.fix) c.row_of-row.ensures
    ∙ sym c.is_above.ensures ∙ c.if-is_above.false in
    rw c.end_with-in-Stopped.ensures (stops _ _ _ _ c.loop-at.invariant (at_row _ (reading_grows _ _) _ c.loop-at-test.true row_here c.after-later.ensures) low_here
    (sym c.in-Stopped.is ∙ c.on_row-turn.ensures))

pub shape_of-hits-in-Refused : goal.shape_of-hits-in-Refused
shape_of-hits-in-Refused c =
    kept_length c.loop-at.invariant

pub returns-in-Refused : goal.returns-in-Refused
returns-in-Refused c =
    let row_here : found c.row_of-row.result ≡ row_by (reading_of c.args.head.strict c.args.file.now) c.loop-at.at = row_read _ _ (sym (ap told c.in-Ok.is)
    ∙ c.entry_at.ensures) c.row_of-row.ensures in
    let low_here : is_above c.row_of-row.result.bounds c.args.fix ≡ false = ap (λ (r : Row). is_above r.bounds c.args.fix) c.row_of-row.ensures
    ∙ sym c.is_above.ensures ∙ c.if-is_above.false in
    rw c.plain.ensures (refuses _ _ _ _ c.loop-at.invariant (at_row _ (reading_grows _ _) _ c.loop-at-test.true row_here c.after-later.ensures)
    low_here _ (sym c.in-Refused.is ∙ c.on_row-turn.ensures))

pub shape_of-hits : goal.shape_of-hits
shape_of-hits c =
    kept_length c.loop-at.invariant

pub returns : goal.returns
returns c =
    rw c.end_with-2.ensures (S.at_table_end _ _ _ _ c.loop-at.invariant (at_end _ (reading_grows _ _) _ c.loop-at-test.false))
