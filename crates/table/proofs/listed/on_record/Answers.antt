-- `table::listed::on_record` meets its contract, by the test that led to each answer.
use Rattle.numbers.proofs.Prelude.{sym, ap, ◌∙◌}
use Rattle.table.proofs.{listed.Given.{recorded}, search.Turns.{not_held}}
use Rattle.table.specs.{GivenRows.{row_with}, Table.{holds}, declared.{rows.Row.{Row}, table.Bounds.{Bounds}}}
use Rattle.table.proofs.listed.on_record.Goals as goal

pub row_at-row-requires : goal.row_at-row-requires
row_at-row-requires g c =
    (c.requires.0, c.requires.1, c.box_at-bounds.ensures)

pub returns-then-holds : goal.returns-then-holds
returns-then-holds g c =
    let J = g.J.Judging in
    let held_by = ap (λ (b : Bounds). holds b c.args.fix) (sym c.box_at-bounds.ensures) ∙ sym c.holds.ensures ∙ c.if-holds.true in
    c.judged.ensures ∙ recorded J.border (J.judged_by c.args.judging.now c.args.fix c.args.records.now) c.args.fix
    c.args.records.now c.args.k c.args.least held_by c.row_at-row.ensures (c.judge-judgement.ensures c.args.records.now (ap (λ (r : Row). r.polygon) c.row_at-row.ensures))

pub returns : goal.returns
returns g c =
    let J = g.J.Judging in
    let out = ap (λ (b : Bounds). holds b c.args.fix) (sym c.box_at-bounds.ensures) ∙ sym c.holds.ensures ∙ c.if-holds.false in
    not_held (J.judged_by c.args.judging.now c.args.fix c.args.records.now) c.args.fix (row_with J.border c.args.records.now
    c.args.k) c.args.least out
