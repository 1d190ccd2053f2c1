-- How the reply to many fixes goes over to C.
use Rattle.std.specs.Prelude.{◌∷◌}
use Rattle.numbers.specs.{Lists.{padded}, Prelude.{[]}, Spoken.{Spoken}, declared.said.Said.{Said}}
use Rattle.batch.specs.{Many.{Batch, given, refused, Left}, declared.many.Totals.{Totals}}

-- 0 with fixes, matches in all and bytes used; or the refusal's number with its cause, its detail and the index of its fix
unfoldable pub many_said : Batch Totals → Said
many_said (given totals) = record { number = 0; words = padded 5 (totals.fixes ∷ totals.matches ∷ totals.used ∷ []) }
many_said (refused index why) = record { number = why.number; words = padded 5 (why.cause ∷ why.detail ∷ index ∷ []) }

abbrev pub many_spoken : Left → Spoken
many_spoken left = record { said = many_said left.reply; lent = left.hits ∷ left.text ∷ left.answers ∷ [] }
