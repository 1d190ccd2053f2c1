-- `verdict::glide::glide_forth` meets its contract. The loop's invariant is the contract itself, of points that are held wide; the measure is the rest of the file.
use Rattle.numbers.proofs.Prelude.{ℕ, Bool, List, ◌≡◌, sym, subst, arith}
use Rattle.border.specs.declared.place.Point.{Point}
use Rattle.verdict.proofs.{Gliding.{forth_stays, forth_on, less_left}}
use Rattle.verdict.specs.{declared.{field.Field.{Field}, glide.Glided.{Glided}}, inner.Gliding.{GlidesForth}}
use Rattle.verdict.proofs.glide.glide_forth.Goals as goal

-- what is returned where the loop is left
left : {file : List ℕ} {strict : Bool} {field : Field} {start place : ℕ} {from begun p : Point} {r : Glided}
    → begun ≡ from → GlidesForth file strict field start begun place p → r ≡ record { place = place; point = p } → GlidesForth file strict field start from r.place
    r.point
left {file} {strict} {field} {start} {place} {from} {begun} {p} e h k =
    subst (λ (g : Glided). GlidesForth file strict field start from g.place g.point) (sym k) (subst (λ (q : Point). GlidesForth file strict field start q place p) e h)

pub loop-place-init : goal.loop-place-init
loop-place-init c =
    (forth_stays _ _ _ _ _, c.widen-point.ensures.1)

pub loop-place-smaller : goal.loop-place-smaller
loop-place-smaller c =
    let n = c.in-Ok.is in
    let read = rw n at c.read_move.ensures in
    less_left c.args.file.now c.args.strict c.args.field c.loop-place.place read

pub loop-place-preserved : goal.loop-place-preserved
loop-place-preserved c =
    let n = c.in-Ok.is in
    let read = rw n at c.read_move.ensures in
    let led = rw (c.in-Some.is, c.decode_point.ensures) at c.lead.ensures in
    (forth_on c.args.file.now c.args.strict c.args.field c.loop-place.invariant.0 read c.if-number-eq0.false led.0 led.1, led.2)
