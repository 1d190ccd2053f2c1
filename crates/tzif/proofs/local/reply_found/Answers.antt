-- `tzif::local::reply_found` meets its contract.
use Rattle.numbers.proofs.Prelude.{rules, w32, to_z-of_z}
use Rattle.tzif.proofs.{Locals.{no_room, has_room}}
use Rattle.tzif.proofs.local.reply_found.Goals as goal

pub returns-then-text-length : goal.returns-then-text-length
returns-then-text-length c =
    rw c.refuse.ensures (no_room c.args.file.now _ c.args.found c.if-text-length.true c.clear.ensures)

pub returns : goal.returns
returns c =
    has_room c.args.file.now _ c.args.found c.if-text-length.false (to_z-of_z w32 c.args.found.offset (search rules)) c.lend.ensures
