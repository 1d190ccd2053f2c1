-- The names of the kit that proofs use most, passed on from one place. Assumes nothing.
pub use Prim.Native.Nat.{ℕ, zero, suc, ◌+◌, ◌-◌, ◌*◌, ◌/◌, ◌%◌, ◌^◌, ◌≤◌, ◌<◌, min}
pub use borrow.Author.{Rules.{rules, sfits_of}, Tests.{eq-eqb, ne_eqb, lt-ltb, le-leb, le-ltb, leb-true, ltb-true, not-false, lt-leb, not-true, eqb-true, ltb-false, eqb-false, leb-false}}
pub use denote.Enum.Declared.{tag_of, declared}
pub use lib.{Dec.{eqb, ltb, leb, T, lit<, lit≤}, Ieee.{Float, binary32, fin, nan, inf}, IntN.{ℤ, pos, negsuc, ◌+ℤ◌, ◌-ℤ◌, neg_ℤ, nat_abs}}
pub use lib.ListN.{length, take, drop, get_or, set, replicate, length-append, length-drop, length-map, length-set, length-take, length-replicate, drop_of_length-le, take-append-drop, get_or-append as List·getD-append}
pub use lib.{ListN.{get_or-eq_default as List·getD-eq-default}, Pow.{pow_pos, pow_mono, pow-add}}
pub use lib.Seq.{sets, slice, length-take-le, drop-cons, take_at, drop-length, drop-drop, take_all, drop_at, get_or-take, get_or-drop, take-suc, length-sets, take-append_seam, take-length, sets-eq}
pub use lib.{Seq.{set_out, get_or-append-add, get_or-set_other, get_or-set_same, drop-append_seam, take-suc-set, take-append-le, drop-append-le, take-add, take-take, get_or_at}, Signed.{mag, lt_z, le_z}}
unfoldable pub use lib.Ieee.{of_bits, of_int, to_signed, add, sub, mul, div, neg}
pub use mathlib.Core.{Bool.{Bool, true, false, ◌&&◌, ◌||◌, not, cond}, List.{List, [], ◌∷◌, ◌++◌, map, append_assoc, append-nil}, Logic.{◌⊎◌, inl, inr, ⊎_elim, ◌↔◌}}
pub use mathlib.Core.Path.{◌≡◌, refl, sym, ap, subst, ◌∙◌}
unfoldable pub use mathlib.Core.List.{flat_map, zip_with}
pub use mir.{Syntax.{w32, w64}, Val.{SFits, of_z, to_z}, ValLaws.{to_z-of_z}}
pub use native.Mathlib.Nat.{le_refl, le_trans, le_of_lt, le_of_eq, lt_of_le_of_lt, lt_of_lt_of_le, not-le_of_lt, mul_comm, mul_assoc, mul-one, one-mul, zero-mul, suc-mul, mul-suc, add-mul, add-zero}
pub use native.Mathlib.{Nat.{sub-zero, mul-pos, mul-le-mul, mul-le-mul_right, pow-suc, mod-lt, mod-eq_of_lt, div-lt_iff_lt-mul}, Numerals.{add-one}, Omega.{arith}}
pub use types.Run.{OneOf, miss}
