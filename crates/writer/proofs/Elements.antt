-- The checks, one element at a time. Assumes nothing.
use Rattle.numbers.proofs.Prelude.{ℕ, suc, eq-eqb, ne_eqb, le-leb, leb-true, leb, eqb, ℤ, pos, negsuc, ◌-ℤ◌, neg_ℤ, le_z, Bool, true, false, ◌&&◌, not, List, ◌≡◌, refl, sym, ap, ◌∙◌}
use Rattle.numbers.{proofs.{Prelude.{w32, SFits, of_z, to_z, arith}, Tests.{differ}}, specs.{Answer.{if◌then◌else◌}, Point.{point_of}, Spelling.{signed_form}, declared.point.RawPoint.{RawPoint}}}
use mathlib.Core.Bool.{and-true}
use Rattle.border.{proofs.Signs.{by_test}, specs.Place.{is_still, is_zero}}
use Rattle.writer.specs.{Moves.{is_move, turned_back, same_move}, Writer.{near}, inner.Stored.{gap_at, move_at}}
use Rattle.writer.proofs.Signs.{form_zero, formed, from_zero}

-- ---- coordinates
pub near_is : (z : ℤ) → (le_z (negsuc 1073741822) z && le_z z (pos 1073741823)) ≡ near z
unfolding near
near_is (pos n) = refl
near_is (negsuc n) = and-true (leb n 1073741822) ∙ by_test (leb n 1073741822) (leb (suc n) 1073741823) (λ e. le-leb (suc n) 1073741823 (omega (arith, leb-true n 1073741822 e)))
    (λ e. le-leb n 1073741822 (omega (arith, leb-true (suc n) 1073741823 e)))

-- ---- a point and the one before it
module _ (lats lons : List ℤ) (i : ℕ) {r : ℕ} (e : r ≡ signed_form (gap_at lats i)) where
  first_zero : eqb r 0 ≡ is_zero (gap_at lats i)
  first_zero = ap (λ (n : ℕ). eqb n 0) e ∙ form_zero (gap_at lats i)

  pub moves_lat : (r ≡ 0 → ⊥) → true ≡ is_move (move_at lats lons i)
  unfolding is_still
  moves_lat other = rw (sym first_zero ∙ ne_eqb r 0 other)

  pub moves_lon : r ≡ 0 → {s : ℕ} → s ≡ signed_form (gap_at lons i) → not (eqb s 0) ≡ is_move (move_at lats lons i)
  unfolding is_still
  moves_lon z {s} g = rw (sym first_zero ∙ eq-eqb r 0 z) (ap (λ (n : ℕ). not (eqb n 0)) g ∙ ap not (form_zero (gap_at lons i)))

-- ---- a number of a run, and the border's move
abbrev turned_at : Bool → ℤ → ℤ
turned_at ahead z = if ahead then z else neg_ℤ z

-- the form of a coordinate that was read, held against another form
same_form : {r s : ℕ} (z w : ℤ) → SFits w32 z → r ≡ signed_form (to_z w32 (of_z w32 z) -ℤ to_z w32 (of_z w32 (pos 0))) → s ≡ signed_form w → eqb r s ≡ eqb (signed_form z) (signed_form w)
same_form z w fits e g = rw (formed (pos 0) z (record { sfits = omega arith }) fits e, g, from_zero z)

module _ (lats lons : List ℤ) (i direction value : ℕ) (by : RawPoint) (is : by ≡ point_of value) where
  abbrev own : Bool → RawPoint
  own t = if t then move_at lats lons i else turned_back (move_at lats lons i)

  own_lat : (t : Bool) → turned_at t (gap_at lats i) ≡ (own t).lat
  own_lat true = refl
  own_lat false = refl

  own_lon : (t : Bool) → turned_at t (gap_at lons i) ≡ (own t).lon
  own_lon true = refl
  own_lon false = refl

  abbrev ahead : Bool
  ahead = eqb direction 0

  module _ {r s : ℕ} (fits : SFits w32 by.lat) (e : r ≡ signed_form (to_z w32 (of_z w32 by.lat) -ℤ to_z w32 (of_z w32 (pos 0)))) (g : s ≡ signed_form (turned_at ahead (gap_at lats i))) where
    lat_test : eqb r s ≡ eqb (signed_form by.lat) (signed_form (own ahead).lat)
    lat_test = same_form by.lat (turned_at ahead (gap_at lats i)) fits e g ∙ ap (λ (z : ℤ). eqb (signed_form by.lat) (signed_form z)) (own_lat ahead)

    abbrev lon_test : Bool
    lon_test = eqb (signed_form by.lon) (signed_form (own ahead).lon)

    pub lent_lat : (r ≡ s → ⊥) → false ≡ same_move (point_of value) (own ahead)
    unfolding same_move
    lent_lat other = ap (λ (t : Bool). t && lon_test) (sym (ne_eqb r s other) ∙ lat_test) ∙ ap (λ (m : RawPoint). same_move m (own ahead)) is

    pub lent_lon : r ≡ s → {u v : ℕ} → SFits w32 by.lon → u ≡ signed_form (to_z w32 (of_z w32 by.lon) -ℤ to_z w32 (of_z w32 (pos 0))) → v ≡ signed_form (turned_at ahead (gap_at lons i)) →
        eqb u v ≡ same_move (point_of value) (own ahead)
    unfolding same_move
    lent_lon same fits₂ e₂ g₂ =
        same_form by.lon (turned_at ahead (gap_at lons i)) fits₂ e₂ g₂ ∙ ap (λ (z : ℤ). eqb (signed_form by.lon) (signed_form z)) (own_lon ahead)
        ∙ ap (λ (t : Bool). t && lon_test) (sym (eq-eqb r s same) ∙ lat_test) ∙ ap (λ (m : RawPoint). same_move m (own ahead)) is
