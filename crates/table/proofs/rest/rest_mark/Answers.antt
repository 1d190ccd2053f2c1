-- `table::rest::rest_mark` meets its contract: before each entry the rest from its place on has the mark of the whole rest.
use Rattle.numbers.{proofs.{Prelude.{sfits_of, lt-ltb, le-ltb, lt_z, sym, ap, ◌∙◌, w32, to_z-of_z}, Readings.{reading_grows}}, specs.Varint.{told}}
use Rattle.table.proofs.{pass.Passing.{skip_less}, rest.{Remaining.{at_end, unread, past, less, above, missed, met}}}
use Rattle.table.proofs.rest.rest_mark.Goals as goal

pub returns-then-end-from : goal.returns-then-end-from
returns-then-end-from c =
    simp (lt-ltb _ _ c.if-end-from.true)

pub loop-place-init : goal.loop-place-init
loop-place-init c =
    (c.if-end-from.false, sym (c.skip_over-place.ensures.same _))

pub returns-in_default : goal.returns-in_default
returns-in_default c =
    simp (le-ltb _ _ c.loop-place.invariant.0) (sym (unread _ _ _ _ _ c.loop-place-test.true c.read_number.result c.read_number.ensures c.in_default.is) ∙ c.loop-place.invariant.1)

pub returns-then-end-next : goal.returns-then-end-next
returns-then-end-next c =
    simp (le-ltb _ _ c.loop-place.invariant.0) (sym (past _ _ _ _ _ c.loop-place-test.true (sym (ap told c.in-Ok.is)
    ∙ c.read_number.ensures) c.past_five-next.ensures c.if-end-next.true) ∙ c.loop-place.invariant.1)

pub loop-place-smaller-then-lat_below : goal.loop-place-smaller-then-lat_below
loop-place-smaller-then-lat_below c =
    skip_less _ (less _ _ _ c.args.fix _ c.loop-place-test.true (sym (ap told c.in-Ok.is)
    ∙ c.read_number.ensures) c.past_five-next.ensures c.requires c.if-end-next.false) c.skip_over-place-then-lat_below.ensures

pub loop-place-preserved-then-lat_below : goal.loop-place-preserved-then-lat_below
loop-place-preserved-then-lat_below c = (
  c.loop-place.invariant.0,
  sym (c.skip_over-place-then-lat_below.ensures.same _) ∙ sym (above _ _ _ c.args.fix _ c.loop-place-test.true (sym (ap told
      c.in-Ok.is) ∙ c.read_number.ensures) c.past_five-next.ensures c.requires c.if-end-next.false (ap (lt_z c.args.fix.lat.0) (sym (to_z-of_z w32 _
      (sfits_of c.signed.type_inv) ∙ c.signed.ensures)) ∙ sym c.lat_below.ensures ∙ c.if-lat_below.true)) ∙ c.loop-place.invariant.1,
)

pub returns-then-held_at : goal.returns-then-held_at
returns-then-held_at c =
    simp (le-ltb _ _ c.loop-place.invariant.0) (sym (met _ _ _ _ _ c.loop-place-test.true (sym (ap told c.in-Ok.is)
    ∙ c.read_number.ensures) c.past_five-next.ensures c.requires c.if-end-next.false (sym c.held_at.ensures ∙ c.if-held_at.true)) ∙ c.loop-place.invariant.1)

pub loop-place-smaller : goal.loop-place-smaller
loop-place-smaller c =
    skip_less _ (less _ _ _ c.args.fix _ c.loop-place-test.true (sym (ap told c.in-Ok.is)
    ∙ c.read_number.ensures) c.past_five-next.ensures c.requires c.if-end-next.false) c.skip_over-place-else-lat_below.ensures

pub loop-place-preserved : goal.loop-place-preserved
loop-place-preserved c = (
  c.loop-place.invariant.0,
  sym (c.skip_over-place-else-lat_below.ensures.same _) ∙ sym (missed _ _ _ _ _ c.loop-place-test.true (sym (ap told c.in-Ok.is)
      ∙ c.read_number.ensures) c.past_five-next.ensures c.requires c.if-end-next.false (sym c.held_at.ensures ∙ c.if-held_at.false)) ∙ c.loop-place.invariant.1,
)

pub returns : goal.returns
returns c =
    simp (le-ltb _ _ c.loop-place.invariant.0) (sym (at_end _ _ _ (reading_grows _ _) _ c.loop-place-test.false) ∙ c.loop-place.invariant.1)
