-- `build::room::has_lists` meets its contract.
use Rattle.numbers.proofs.Prelude.{refl, arith}
use Rattle.build.proofs.{Rooms.{no_starts, no_keys, no_keys_yards, no_spare, no_spare_yards, no_kept, no_held, no_words, no_places, boxes_last}}
use Rattle.build.proofs.room.has_lists.Goals as goal

pub returns-then-work-fields : goal.returns-then-work-fields
returns-then-work-fields c =
    no_starts c.args.work c.args.count c.args.fields c.args.bytes c.if-work-fields.true

pub returns-then-work-fields-2 : goal.returns-then-work-fields-2
returns-then-work-fields-2 c =
    no_keys c.args.work c.args.count c.args.fields c.args.bytes c.if-work-fields.false c.if-work-fields-2.true

pub returns-then-work-count : goal.returns-then-work-count
returns-then-work-count c =
    no_keys_yards c.args.work c.args.count c.args.fields c.args.bytes c.if-work-fields.false c.if-work-fields-2.false c.if-work-count.true

pub returns-then-work-fields-3 : goal.returns-then-work-fields-3
returns-then-work-fields-3 c =
    no_spare c.args.work c.args.count c.args.fields c.args.bytes c.if-work-fields.false c.if-work-fields-2.false c.if-work-count.false c.if-work-fields-3.true

pub returns-then-work-count-2 : goal.returns-then-work-count-2
returns-then-work-count-2 c =
    no_spare_yards c.args.work c.args.count c.args.fields c.args.bytes c.if-work-fields.false c.if-work-fields-2.false c.if-work-count.false
    c.if-work-fields-3.false c.if-work-count-2.true

pub returns-then-work-fields-4 : goal.returns-then-work-fields-4
returns-then-work-fields-4 c =
    no_kept c.args.work c.args.count c.args.fields c.args.bytes c.if-work-fields.false c.if-work-fields-2.false c.if-work-count.false c.if-work-fields-3.false
    c.if-work-count-2.false c.if-work-fields-4.true

pub returns-then-work-bytes : goal.returns-then-work-bytes
returns-then-work-bytes c =
    no_held c.args.work c.args.count c.args.fields c.args.bytes c.if-work-fields.false c.if-work-fields-2.false c.if-work-count.false c.if-work-fields-3.false
    c.if-work-count-2.false c.if-work-fields-4.false c.if-work-bytes.true

pub returns-then-work-fields-5 : goal.returns-then-work-fields-5
returns-then-work-fields-5 c =
    no_words c.args.work c.args.count c.args.fields c.args.bytes c.if-work-fields.false c.if-work-fields-2.false c.if-work-count.false c.if-work-fields-3.false
    c.if-work-count-2.false c.if-work-fields-4.false c.if-work-bytes.false c.if-work-fields-5.true

pub returns-then-work-count-3 : goal.returns-then-work-count-3
returns-then-work-count-3 c =
    no_places c.args.work c.args.count c.args.fields c.args.bytes c.if-work-fields.false c.if-work-fields-2.false c.if-work-count.false c.if-work-fields-3.false
    c.if-work-count-2.false c.if-work-fields-4.false c.if-work-bytes.false c.if-work-fields-5.false c.if-work-count-3.true

pub returns : goal.returns
returns c =
    boxes_last c.args.work c.args.count c.args.fields c.args.bytes c.if-work-fields.false c.if-work-fields-2.false c.if-work-count.false c.if-work-fields-3.false
    c.if-work-count-2.false c.if-work-fields-4.false c.if-work-bytes.false c.if-work-fields-5.false c.if-work-count-3.false _ refl
