-- `uskelzar::civil::uskelzar_civil_time` meets its contract.
use Rattle.numbers.proofs.Prelude.{ℕ, refl, sym, subst, w32, w64, to_z-of_z}
use Rattle.uskelzar.proofs.{SameCivil.{spoken_shown, spoken_outside}}
use Rattle.uskelzar.specs.Civil.{civil_words, CivilSpoken}
use Rattle.uskelzar.proofs.civil.uskelzar_civil_time.Goals as goal

pub returns-in-Some : goal.returns-in-Some
unfolding civil_words
returns-in-Some c =
    spoken_shown _ _ _ _ (to_z-of_z w64 _ c.ranges.instant) (to_z-of_z w32 _ c.ranges.offset) _ c.civil_time.ensures _ c.in-Some.is refl

pub returns-in-None : goal.returns-in-None
unfolding civil_words
returns-in-None c =
    subst (λ (n : ℕ). CivilSpoken c.args.instant c.args.offset n _) (sym c.number.ensures) (spoken_outside _ _ _ _ (to_z-of_z w64 _ c.ranges.instant) (to_z-of_z w32 _ c.ranges.offset) _ c.civil_time.ensures c.in-None.is refl)
