-- `verdict::glide::glide_back` meets its contract. The loop's invariant is the contract itself, of points that are held wide; the measure is the place, which falls.
use Rattle.numbers.proofs.Prelude.{ℕ, List, ◌≡◌, sym, subst}
use Rattle.border.specs.declared.place.Point.{Point}
use Rattle.verdict.proofs.{Gliding.{back_stays, back_on, less_below}}
use Rattle.verdict.specs.{declared.{field.Field.{Field}, glide.Glided.{Glided}}, inner.Gliding.{GlidesBack}}
use Rattle.verdict.proofs.glide.glide_back.Goals as goal

-- what is returned where the loop is left
left : {file : List ℕ} {field : Field} {end start place : ℕ} {from begun p : Point} {r : Glided}
    → begun ≡ from → GlidesBack file field end start begun place p → r ≡ record { place = place; point = p } → GlidesBack file field end start from r.place r.point
left {file} {field} {end} {start} {place} {from} {begun} {p} e h k =
    subst (λ (g : Glided). GlidesBack file field end start from g.place g.point) (sym k) (subst (λ (q : Point). GlidesBack file field end start q place p) e h)

pub loop-number-init : goal.loop-number-init
loop-number-init c =
    (back_stays _ _ _ _ _, c.widen-point.ensures.1)

pub loop-number-smaller : goal.loop-number-smaller
loop-number-smaller c =
    less_below c.args.file.now c.args.field c.args.end c.loop-number.place (rw c.in-Ok.is at c.read_backward.ensures)

pub loop-number-preserved : goal.loop-number-preserved
loop-number-preserved c =
    let led = rw c.in-Some.is at c.lead.ensures in
    let number = rw c.in-Ok.is at c.read_backward.ensures in
    let negated = rw (c.in-Ok-negate.is, c.decode_point.ensures) at c.negate.ensures in
    (back_on c.args.file.now c.args.field c.args.end c.loop-number.invariant.0 number c.if-number-eq0.false c.if-number-end.false negated led.0 led.1, led.2)
