-- `slip::hour::clock_of` meets its contract.
use Rattle.numbers.proofs.Prelude.{rules, ap, ◌∙◌, w32, w64, to_z-of_z}
use Rattle.std.specs.Prelude.{ok_or}
use Rattle.slip.proofs.{Locals.{is_shown}}
use Rattle.slip.proofs.hour.clock_of.Goals as goal

pub returns : goal.returns
returns c =
    c.ok_or.ensures.value ∙ ap (ok_or c.civil_time-civil.result) c.alone.ensures ∙ is_shown _ _ (to_z-of_z w64 _ (search rules)) (to_z-of_z w32 _ (search rules)) _ c.civil_time-civil.ensures
