-- `table::rest::past_five` meets its contract, number by number.
use Rattle.numbers.{proofs.Prelude.{◌≡◌, arith}, specs.Varint.{forward_at, end_of}}
use Rattle.table.proofs.{Beside.{five_cut, five_held, five_plain}, rest.{Remaining.{five_ends}}}
use Rattle.table.specs.Rest.{five_by}
-- where the fifth number ends in the plain reading
use Rattle.table.proofs.rest.past_five.Goals as goal

pub returns-then-file-past : goal.returns-then-file-past
returns-then-file-past c =
    let five : c.number_end-past.result ≡ end_of (five_by (forward_at c.args.file.now) c.args.place) = five_ends _ (omega (arith, c.well_formed)) _
    c.number_end-second.ensures c.number_end-third.ensures c.number_end-fourth.ensures c.number_end-fifth.ensures c.number_end-past.ensures in
    five_cut _ _ five _ c.if-strict.true c.if-file-past.true

pub returns-else-file-past : goal.returns-else-file-past
returns-else-file-past c =
    let five : c.number_end-past.result ≡ end_of (five_by (forward_at c.args.file.now) c.args.place) = five_ends _ (omega (arith, c.well_formed)) _
    c.number_end-second.ensures c.number_end-third.ensures c.number_end-fourth.ensures c.number_end-fifth.ensures c.number_end-past.ensures in
    five_held _ _ five _ c.if-strict.true c.if-file-past.false

pub returns-else-strict : goal.returns-else-strict
returns-else-strict c =
    let five : c.number_end-past.result ≡ end_of (five_by (forward_at c.args.file.now) c.args.place) = five_ends _ (omega (arith, c.well_formed)) _
    c.number_end-second.ensures c.number_end-third.ensures c.number_end-fourth.ensures c.number_end-fifth.ensures c.number_end-past.ensures in
    five_plain _ _ five _ c.if-strict.false
