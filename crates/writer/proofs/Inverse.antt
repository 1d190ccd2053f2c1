-- The moves of a border are read back. Assumes nothing.
use Rattle.numbers.proofs.Prelude.{ℕ, zero, suc, ◌^◌, ◌<◌, nat_abs, true, false, ◌≡◌, sym, ap, ◌∙◌, arith}
use Rattle.numbers.{proofs.{Spelling.{signed_back, point_zero, point_back, point_small}, Tests.{differ}}, specs.{Point.{signed_of, point_of}, Spelling.{signed_form}, declared.point.RawPoint.{RawPoint}}}
use Rattle.border.specs.Place.{move_by, is_still}
use Rattle.writer.specs.Moves.{packed_number}

-- a move of a border: both numbers below 2 ^ 31 in size, and not two zeros
pub record Moves (by : RawPoint) : Type 0 where
  pub lat_small : nat_abs by.lat < 2 ^ 31
  pub lon_small : nat_abs by.lon < 2 ^ 31
  pub moves : is_still by ≡ false

still_zero : is_still (point_of 0) ≡ true
unfolding is_still
still_zero = rw point_zero

module _ (by : RawPoint) (h : Moves by) where
  pub pair_back : move_by (signed_of (signed_form by.lat)) (signed_of (signed_form by.lon)) ≡ by
  pair_back = rw (signed_back by.lat h.lat_small, signed_back by.lon h.lon_small)

  pub packed_back : point_of (packed_number by) ≡ by
  unfolding packed_number
  packed_back = point_back by h.lat_small h.lon_small

  pub packed_some : 0 < packed_number by
  packed_some = go (packed_number by) packed_back where
    go : (n : ℕ) → point_of n ≡ by → 0 < n
    go (suc n) e = omega arith
    go zero e = differ (sym h.moves ∙ ap is_still (sym e) ∙ still_zero)

pub packed_small : (by : RawPoint) → packed_number by < 2 ^ 64
unfolding packed_number
packed_small by = point_small (signed_form by.lat) (signed_form by.lon)
