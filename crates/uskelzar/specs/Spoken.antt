-- The values that each answer goes over to C with.
use Rattle.std.specs.Prelude.{Option, Some, None, ◌∷◌}
use Rattle.numbers.specs.{Prelude.{ℕ, List, [], w32, of_z}, Reply.{Reply, given, refused, refusal}, Spoken.{Spoken, said_of}}
use Rattle.localtime.specs.declared.scale.Scale.{Scale}
use Rattle.tzif.specs.declared.local.Local.{Local}
use Rattle.zones.specs.{Lent.{Replied}, declared.{lookup.Zones.{Zones}, simple.Described.{Described}}}
use Rattle.header.specs.declared.opening.Opening.{Opening}
use Rattle.tzif.specs.Local as T
use Rattle.tzif.specs.Reply as Z
use Rattle.header.specs.Opening as O

-- ---- the values of each answer
abbrev pub opening_values : Opening → List ℕ
opening_values o = o.kind ∷ o.version ∷ o.precision ∷ o.count ∷ o.used ∷ []

abbrev pub zones_values : Zones → List ℕ
zones_values z = z.matches ∷ z.mark ∷ z.safezone ∷ z.used ∷ []

-- 1 and its length where there is a description, else 0
abbrev pub description_values : Option ℕ → List ℕ
description_values (Some length) = 1 ∷ length ∷ []
description_values None = 0 ∷ []

abbrev pub described_values : Described → List ℕ
described_values d = d.matches ∷ d.mark ∷ description_values d.description

-- the scale, 1 for UNIX time's and 2 for the file's own, the offset's 32 bits, the daylight flag, the abbreviation's length and the correction's bits;
-- nothing where local time is unknown
abbrev pub local_values : Scale → Option Local → List ℕ
local_values scale None = []
local_values scale (Some local) = scale.kind ∷ of_z w32 local.offset ∷ local.daylight ∷ local.length ∷ scale.correction ∷ []

-- refusals of a TZif file have no cause
abbrev pub local_reply : Z.Reply (Option Local) → Reply (Option Local)
local_reply (Z.given local) = given local
local_reply (Z.refused why) = refused (refusal why.number 0 why.detail)

-- ---- what a call leaves
abbrev pub opening_spoken : O.Replied → Spoken
opening_spoken left = record { said = said_of opening_values left.reply; lent = left.text ∷ [] }

abbrev pub found_spoken : {A : Type 0} → (A → List ℕ) → Replied A → Spoken
found_spoken values left = record { said = said_of values left.reply; lent = left.hits ∷ left.text ∷ [] }

abbrev pub local_spoken : Scale → T.Replied → Spoken
local_spoken scale left = record { said = said_of (local_values scale) (local_reply left.reply); lent = left.text ∷ [] }
