-- `hour::lines::put_answer` meets its contract.
use Rattle.numbers.proofs.Prelude.{refl, w64, to_z-of_z}
use Rattle.hour.proofs.{Answers.{answered-as, answered-unknown, answered-refused}}
use Rattle.std.specs.Prelude.{Option}
use Rattle.tzif.specs.{Local.{replied}, Reply.{Reply}, declared.local.Local.{Local}}
use Rattle.hour.proofs.lines.put_answer.Goals as goal

pub returns-in-Ok-Some : goal.returns-in-Ok-Some
returns-in-Ok-Some c =
    answered-as (to_z-of_z w64 c.args.instant c.ranges.instant) (let it = rw c.in-Ok-Some.is at c.in-Ok-Some.field-0-is in rw (c.in-Ok-Some.is, it) refl) c.put_local.ensures

pub returns-in-Ok-None : goal.returns-in-Ok-None
returns-in-Ok-None c =
    let it = rw c.in-Ok-None.is at c.in-Ok-None.field-0-is in answered-unknown c.args.instant c.args.text.now (rw (c.in-Ok-None.is, it) refl) c.put_all.ensures

pub returns-in-Err : goal.returns-in-Err
returns-in-Err c =
    answered-refused c.args.instant c.args.text.now _ c.in-Err.is c.put_refusal.ensures
