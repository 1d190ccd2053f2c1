-- The lists that a build works in.
use Rattle.std.specs.Prelude.{length}
use Rattle.build.specs.{Room.{work_of}, declared.{lists.Lists.{Lists}, room.Work.{Work}}}

-- how long they are
abbrev pub work_in : Lists → Work
work_in lists = work_of (length lists.starts.now) (length lists.keys.now) (length lists.spare.now) (length lists.kept.now) (length lists.held.now) (length lists.words.now)
    (length lists.places.now) (length lists.boxes.now)
