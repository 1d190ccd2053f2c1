-- `salvage::rescue::reply::fill` meets its contract.
use Rattle.numbers.proofs.{Prelude.{rules, length, ◌≡◌, refl, arith}, Replies.{passed_on}}
use Rattle.salvage.proofs.rescue.reply.{Replying.{room_as, filled_refused, filled_28, filled_32, filled_all}}
use Rattle.salvage.proofs.rescue.reply.fill.Goals as goal

pub returns-in_err-size : goal.returns-in_err-size
returns-in_err-size c =
    filled_refused c.args.file.now (length c.args.dropped.now) (length c.args.out.now) c.requires.0 c.args.out.now c.put_whole.new.out c.args.dropped.now
    c.put_whole.new.out _ (passed_on _ c.from_residual.ensures.1) (rw c.in_err-size.was at c.put_whole.ensures)

pub returns-then-not-has_room : goal.returns-then-not-has_room
returns-then-not-has_room c =
    let wide : length c.put_whole.new.out ≡ length c.args.out.now = search rules in
    let wide' : length c.put_lines-lines.new.list ≡ length c.args.dropped.now = search rules in
    filled_28 c.args.file.now (length c.args.dropped.now) (length c.args.out.now) c.requires.0 c.args.out.now c.put_whole.new.out c.in_ok-size.size (rw c.in_ok-size.was
    at c.put_whole.ensures) c.args.dropped.now c.put_lines-lines.new.list c.put_lines-lines.result c.put_lines-lines.ensures (room_as c.in_ok-size.size
    c.put_lines-lines.result.words c.has_room.ensures wide wide') c.alone.ensures c.put_lines-lines.new.list c.put_whole.new.out c.if-not-has_room.true

pub returns-then-lines-eq0 : goal.returns-then-lines-eq0
returns-then-lines-eq0 c =
    let wide : length c.put_whole.new.out ≡ length c.args.out.now = search rules in
    let wide' : length c.put_lines-lines.new.list ≡ length c.args.dropped.now = search rules in
    filled_32 c.args.file.now (length c.args.dropped.now) (length c.args.out.now) c.requires.0 c.args.out.now c.put_whole.new.out c.in_ok-size.size (rw c.in_ok-size.was
    at c.put_whole.ensures) c.args.dropped.now c.put_lines-lines.new.list c.put_lines-lines.result c.put_lines-lines.ensures (room_as c.in_ok-size.size
    c.put_lines-lines.result.words c.has_room.ensures wide wide') c.alone-then-lines-eq0.ensures c.put_lines-lines.new.list c.put_whole.new.out c.if-not-has_room.false
    (omega (arith, c.if-lines-eq0.true))

pub returns : goal.returns
returns c =
    let wide : length c.put_whole.new.out ≡ length c.args.out.now = search rules in
    let wide' : length c.put_lines-lines.new.list ≡ length c.args.dropped.now = search rules in
    filled_all c.args.file.now (length c.args.dropped.now) (length c.args.out.now) c.requires.0 c.args.out.now c.put_whole.new.out c.in_ok-size.size (rw
    c.in_ok-size.was at c.put_whole.ensures) c.args.dropped.now c.put_lines-lines.new.list c.put_lines-lines.result c.put_lines-lines.ensures (room_as
    c.in_ok-size.size c.put_lines-lines.result.words c.has_room.ensures wide wide') c.requires.2 refl c.requires.1 refl c.if-not-has_room.false (omega (
      arith,
      c.if-lines-eq0.false,
    ))
