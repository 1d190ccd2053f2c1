-- The names of the kit that definitions use most, passed on from one place: each means what the kit says.
pub use Rattle.std.specs.Prelude.{ℕ, zero, suc, ◌+◌, ◌-◌, ◌*◌, ◌/◌, ◌%◌, ◌^◌, ◌≤◌, ◌<◌, min}
pub use lib.{Dec.{eqb, ltb, leb, T}, Ieee.{Float, binary32, fin, nan, inf}, IntN.{ℤ, pos, negsuc, ◌+ℤ◌, ◌-ℤ◌, neg_ℤ, nat_abs}, ListN.{length, take, drop, get_or, set, replicate}, Seq.{sets}}
pub use Rattle.std.specs.Int.Signed.{mag, lt_z, le_z}
pub use mathlib.Core.{Bool.{Bool, true, false, ◌&&◌, ◌||◌, not, cond}, List.{List, [], ◌∷◌, ◌++◌, map}, Logic.{◌⊎◌}, Option.{Option, some, none}, Path.{◌≡◌}}
unfoldable pub use mathlib.Core.List.{flat_map, zip_with}
pub use mir.{Syntax.{w32, w64}, Val.{of_z, to_z}}
