-- `hour::lines::put_local` meets its contract.
use Rattle.numbers.proofs.Prelude.{rules, w32, w64, to_z-of_z}
use Rattle.hour.proofs.{Answers.{answered-hour, answered-outside}}
use Rattle.hour.proofs.lines.put_local.Goals as goal

pub returns-in-Some : goal.returns-in-Some
returns-in-Some c =
    answered-hour c.args.local c.args.text.now (to_z-of_z w64 c.args.instant c.ranges.instant) (to_z-of_z w32 c.args.local.offset (search rules))
    c.civil_time.ensures c.in-Some.is c.put_hour.ensures

pub returns-in-None : goal.returns-in-None
returns-in-None c =
    answered-outside c.args.local c.args.text.now (to_z-of_z w64 c.args.instant c.ranges.instant) (to_z-of_z w32 c.args.local.offset (search rules))
    c.civil_time.ensures c.in-None.is (rw c.refuse.ensures at c.put_refusal.ensures)
