-- `office::yards::uskelzar_build` meets its contract.
use Rattle.numbers.proofs.{Prelude.{ap, ◌∙◌}, Saying.{beside}}
use Rattle.build.specs.{Room.{room_of}, Whole.{Builds}}
use Rattle.office.specs.Built.{built_spoken}
use Rattle.office.proofs.yards.uskelzar_build.Goals as goal

pub returns : goal.returns
unfolding Builds room_of
returns c =
    (beside _ c.speak.ensures c.say_length.ensures ∙ ap built_spoken c.build-built.ensures.0, c.build-built.ensures.1)
