use Rattle.numbers.{proofs.{Prelude.{ℕ, [], ◌∷◌, sym, ap, ◌∙◌}, Saying.{said_given, said_refused}}, specs.{Reply.{given, refused}, declared.said.Said.{Said}}}
use Rattle.localtime.specs.declared.scale.Scale.{Scale}
use Rattle.uskelzar.specs.Spoken.{local_values, local_reply}
use Rattle.uskelzar.proofs.say_local.Goals as goal

-- the words of a local time, by its offset's
abbrev local_words : Scale → ℕ → ℕ → ℕ → Said
local_words scale daylight length offset = record { number = 0; words = scale.kind ∷ offset ∷ daylight ∷ length ∷ scale.correction ∷ [] }

pub returns-in-Err : goal.returns-in-Err
returns-in-Err c =
    said_refused (local_values c.args.timed.scale) c.say_refused.ensures (ap local_reply c.in-Err.is ∙ ap refused (sym c.refuse.ensures))

pub returns-in-Some : goal.returns-in-Some
returns-in-Some c =
    let scale = c.args.timed.scale in
    ap (local_words scale _ _) c.offset_bits.ensures ∙ said_given (local_values scale) (ap local_reply (c.in-Ok.is ∙ ap given c.in-Some.is))

pub returns-in-None : goal.returns-in-None
returns-in-None c =
    said_given (local_values c.args.timed.scale) (ap local_reply (c.in-Ok.is ∙ ap given c.in-None.is))
