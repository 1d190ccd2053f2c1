-- How the reply of a build goes over to C.
use Rattle.std.specs.Prelude.{◌∷◌}
use Rattle.numbers.specs.{Prelude.{ℕ, []}, Spoken.{Spoken, said_of}}
use Rattle.build.specs.{Room.{room_of}, declared.room.Work.{Work}}
use Rattle.builder.specs.{File.{Replied, built_of, fitted}, Yards.{Lent, plan_of}}
use Rattle.office.specs.Written.{length_value}

-- of what is lent, in working lists of these lengths, and so much room for the file and its data
abbrev pub built_for : Lent → Work → ℕ → ℕ → Replied
built_for lent work file bytes = fitted file (built_of (plan_of lent) (room_of lent work file bytes))

abbrev pub built_spoken : Replied → Spoken
built_spoken left = record { said = said_of length_value left.reply; lent = left.out ∷ [] }
