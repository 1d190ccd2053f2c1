-- `border::place::is_still` meets its contract.
use Rattle.std.proofs.Common.{int_eq}
use Rattle.numbers.proofs.Prelude.{zero, suc, lt-ltb, le-ltb, ne_eqb, ◌≡◌, ℤ, pos, negsuc, refl, arith}
use Rattle.border.specs.Place.{is_still, is_zero}
use Rattle.border.proofs.place.is_still.Goals as goal

zero_is : (z : ℤ) → int_eq z (pos 0) ≡ is_zero z
zero_is (pos zero) = refl
zero_is (pos (suc n)) = simp (lt-ltb 0 (suc n) (omega arith), ne_eqb (suc n) 0 (λ e. omega arith)) (rw (le-ltb (suc n) 0 (omega arith)) refl)
zero_is (negsuc n) = refl

pub returns : goal.returns
unfolding is_still
returns c =
    rw (c.eq.ensures, zero_is c.args.by.lat, zero_is c.args.by.lon)
