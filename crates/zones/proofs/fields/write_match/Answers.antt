-- `zones::fields::write_match` meets its contract. The loop's invariant is `Filling`: the text so far stands at the front of a buffer that is zero
-- beyond it.
use Rattle.numbers.proofs.{Prelude.{refl, arith}, Replies.{passed_on}}
use Rattle.zones.proofs.fields.{Filling.{starts, filling_length, ends, faulted, kept_length, filled}}
use Rattle.zones.proofs.fields.write_match.Goals as goal

pub loop-tag-init : goal.loop-tag-init
loop-tag-init c =
    starts _ _ _ _ c.args.text.now c.args.from _ c.requires.0 c.requires.1 refl

pub slice_bounds-write_field-count : goal.slice_bounds-write_field-count
slice_bounds-write_field-count c =
    omega (arith, c.loop-tag.invariant.held.fits, filling_length _ _ _ _ c.loop-tag.invariant)

pub slice_bounds-write_field-start : goal.slice_bounds-write_field-start
slice_bounds-write_field-start c =
    omega (arith, c.loop-tag.invariant.held.fits, filling_length _ _ _ _ c.loop-tag.invariant)

pub shape_of-text-in_err-field : goal.shape_of-text-in_err-field
shape_of-text-in_err-field c =
    kept_length _ _ _ _ c.loop-tag.invariant c.loop-tag-test.true c.write_field.result c.write_field.new.text c.write_field.ensures.0 c.write_field.ensures.1

pub returns-in_err-field : goal.returns-in_err-field
returns-in_err-field c =
    rw (passed_on _ c.from_residual.ensures.1) (faulted _ _ _ _ c.loop-tag.invariant c.loop-tag-test.true c.write_field.result c.write_field.new.text c.write_field.ensures.0 _ c.in_err-field.was)

pub overflow_add-at : goal.overflow_add-at
overflow_add-at c =
    omega (
      arith,
      ((filled _ _ _ _ c.loop-tag.invariant c.loop-tag-test.true c.write_field.result c.write_field.new.text c.write_field.ensures.0
          c.write_field.ensures.1 c.in_ok-field.was)).held.fits,
      c.well_formed,
    )

pub loop-tag-preserved : goal.loop-tag-preserved
loop-tag-preserved c =
    filled _ _ _ _ c.loop-tag.invariant c.loop-tag-test.true c.write_field.result c.write_field.new.text c.write_field.ensures.0 c.write_field.ensures.1 c.in_ok-field.was

pub shape_of-text : goal.shape_of-text
shape_of-text c =
    filling_length _ _ _ _ c.loop-tag.invariant

pub returns : goal.returns
returns c =
    ends _ _ _ _ c.loop-tag.invariant c.loop-tag-test.false
