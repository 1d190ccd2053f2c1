-- `verdict::glide::glide_plain` meets its contract. The loop's invariant is the contract itself, of points that are held wide; the measure is the moves that are left.
use Rattle.numbers.proofs.Prelude.{ℕ, sfits_of, Bool, List, ◌≡◌, sym, subst, ◌∙◌, w32, to_z-of_z, arith}
use Rattle.border.specs.declared.place.Point.{Point}
use Rattle.verdict.proofs.{Gliding.{plain_stays, plain_on}}
use Rattle.verdict.specs.{declared.{field.Field.{Field}, glide.Counted.{Counted}}, inner.Gliding.{GlidesPlain}}
use Rattle.verdict.proofs.glide.glide_plain.Goals as goal

-- what is returned where the loop is left
left : {file : List ℕ} {strict : Bool} {field : Field} {start count place moves : ℕ} {from begun p : Point} {r : Counted}
    → begun ≡ from → GlidesPlain file strict field start count begun place moves p → r ≡ record { place = place; moves = moves; point = p }
    → GlidesPlain file strict field start count from r.place r.moves r.point
left {file} {strict} {field} {start} {count} {place} {moves} {from} {begun} {p} e h k =
    subst (λ (g : Counted). GlidesPlain file strict field start count from g.place g.moves g.point) (sym k)
    (subst (λ (q : Point). GlidesPlain file strict field start count q place moves p) e h)

pub loop-moves-init : goal.loop-moves-init
loop-moves-init c =
    (plain_stays _ _ _ _ _ _, c.widen-point.ensures.1)

pub loop-moves-preserved : goal.loop-moves-preserved
loop-moves-preserved c =
    let lat = rw c.in-Ok.is at c.read_number.ensures in
    let lon = rw c.in-Ok-read_number.is at c.read_number-in-loop-moves.ensures in
    let north = to_z-of_z w32 _ (sfits_of c.signed.type_inv) ∙ c.signed.ensures in
    let east = to_z-of_z w32 _ (sfits_of c.signed-in-loop-moves.type_inv) ∙ c.signed-in-loop-moves.ensures in
    let stirs = rw (north, east) at (sym c.is_still.ensures ∙ c.if-is_still.false) in
    let led = rw (c.in-Some.is, north, east) at c.lead.ensures in
    let left_over = c.loop-moves-test.true in
    (plain_on c.args.file.now c.args.strict c.args.field c.loop-moves.invariant.0 lat lon left_over stirs led.0 led.1, led.2)
