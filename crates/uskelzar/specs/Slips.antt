-- How a request, a zone's file in a bundle and a slip go over to C (document 03).
use Rattle.std.specs.Prelude.{◌∷◌, ◌≡◌}
use Rattle.numbers.specs.{Lists.{padded}, Prelude.{ℕ, binary32, List, [], w32, w64, of_z}, Reply.{Reply, given}, Spoken.{Spoken, said_of}}
use Rattle.std.specs.Float.Ieee.{to_bits}
use Rattle.bundle.specs.declared.find.File.{File}
use Rattle.request.specs.declared.read.Fix.{Fix}
use Rattle.slip.specs.{Slip.{Replied, replied}, declared.slip.Stamped.{Stamped}}

-- the 32 bits of latitude and longitude, the 64 of the instant
abbrev pub fix_values : Fix → List ℕ
fix_values fix = to_bits binary32 fix.lat ∷ to_bits binary32 fix.lon ∷ of_z w64 fix.instant ∷ []

-- where the file begins in the bundle, and its length
abbrev pub file_values : File → List ℕ
file_values file = file.start ∷ file.length ∷ []

-- length of the line, matches, the offset's 32 bits
abbrev pub stamped_values : Stamped → List ℕ
stamped_values stamped = stamped.length ∷ stamped.matches ∷ of_z w32 stamped.offset ∷ []

-- a reply that comes with no lent output
abbrev pub reply_spoken : {A : Type 0} → (A → List ℕ) → Reply A → Spoken
reply_spoken values reply = record { said = said_of values reply; lent = [] }

abbrev pub slip_spoken : Replied → Spoken
slip_spoken left = record { said = said_of stamped_values left.reply; lent = left.hits ∷ left.text ∷ left.out ∷ [] }

-- what a call left is a stamped slip, and the reply's words are its values
pub record Printed (left : Replied) (words hits text out : List ℕ) : Type 0 where
  pub stamped : Stamped
  pub left_so : replied (given stamped) hits text out ≡ left
  pub words_are : words ≡ padded 5 (stamped_values stamped)
