-- The reply of document 02, Q-7, with what is left in both outputs.
use Rattle.std.specs.Prelude.{◌≡◌}
use Rattle.numbers.specs.{Prelude.{ℕ, List}, Reply.{Reply, given, refused}}
use Rattle.salvage.specs.Salvage.{Salvaged, Counts, Replied, replied_of}

abbrev pub replied : Reply Counts → List ℕ → List ℕ → Replied
replied reply list out = record { reply = reply; list = list; out = out }

-- what is left where the outputs were zero: all of it, or the refusal alone
abbrev pub Filled : Reply Salvaged → ℕ → ℕ → Reply Counts → List ℕ → List ℕ → Type 0
Filled (given s) words room r list out = replied r list out ≡ replied_of words room (given s)
Filled (refused why) words room r list out = r ≡ refused why
