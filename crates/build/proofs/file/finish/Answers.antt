-- `build::file::finish` meets its contract.
use Rattle.numbers.{proofs.Prelude.{ap}, specs.Reply.{refused}}
use Rattle.build.proofs.{Ending.{short_fills, long_fills, whole_fills}, Moving.{over_top, under_top}, Needed.{need_room, room_needs, lacks, holds, enough_is}}
use Rattle.build.proofs.file.finish.Goals as goal

pub need_of-need-requires : goal.need_of-need-requires
need_of-need-requires c =
    need_room _ _ _ _ c.requires.0

pub has_room-requires : goal.has_room-requires
has_room-requires c =
    room_needs _ _ _ _ c.requires.0 _ c.need_of-need.ensures

pub returns-then-not-has_room : goal.returns-then-not-has_room
returns-then-not-has_room c =
    λ drawn d. short_fills _ _ _ _ (lacks _ _ _ _ _ c.need_of-need.ensures _ c.has_room.ensures c.if-not-has_room.true) _ (ap refused c.alone.ensures)

pub returns-then-up_to-end : goal.returns-then-up_to-end
returns-then-up_to-end c =
    λ drawn d. long_fills _ _ _ _ (enough_is _ _ _ _ _ c.need_of-need.ensures _ c.has_room.ensures c.if-not-has_room.false) _ (c.fill-end.ensures drawn d) (over_top _ _ _ _ c.up_to.ensures c.out-1.given c.if-up_to-end.true) _ (ap refused c.alone-then-up_to-end.ensures)

pub returns : goal.returns
returns c =
    λ drawn d. whole_fills _ _ _ _ (enough_is _ _ _ _ _ c.need_of-need.ensures _ c.has_room.ensures c.if-not-has_room.false) _ (c.fill-end.ensures drawn d) (under_top _ _ _ _ c.up_to.ensures c.out-1.given c.if-up_to-end.false)
