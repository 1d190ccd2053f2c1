-- `zone::lines::put_fields` meets its contract: so many fields are still to come.
use Rattle.numbers.proofs.Prelude.{ℕ, ◌+◌, ◌-◌, ◌≡◌, subst, arith}
use Rattle.header.proofs.Buffers.{tail_lent}
use Rattle.zone.proofs.{Printing.{Fielding, no_field_yet, one_field, all_fields, end_within, partly_length}}
use Rattle.zone.proofs.lines.put_fields.Goals as goal

pub loop-init : goal.loop-init
loop-init c =
    subst (λ (k : ℕ). Fielding c.args.out.now c.args.at c.args.text.now c.args.count c.args.out.now c.args.at 0 k) (let e : c.args.count ≡ c.args.count - 0 = omega arith in e) (no_field_yet _ _ _ _)

pub slice_bounds-field_end-count : goal.slice_bounds-field_end-count
slice_bounds-field_end-count c =
    omega (arith, c.loop.invariant.inside)

pub slice_bounds-field_end-start : goal.slice_bounds-field_end-start
slice_bounds-field_end-start c =
    omega (arith, c.loop.invariant.inside)

pub slice_bounds-field_end-end : goal.slice_bounds-field_end-end
slice_bounds-field_end-end c =
    omega (arith, c.loop.invariant.inside)

pub slice_bounds-put_field-count : goal.slice_bounds-put_field-count
slice_bounds-put_field-count c =
    omega (arith, c.loop.invariant.inside)

pub slice_bounds-put_field-start : goal.slice_bounds-put_field-start
slice_bounds-put_field-start c =
    omega (arith, c.loop.invariant.inside)

pub slice_bounds-put_field-end : goal.slice_bounds-put_field-end
slice_bounds-put_field-end c =
    omega (arith, c.loop.invariant.inside)

pub overflow_add-place : goal.overflow_add-place
overflow_add-place c =
    omega (
      arith,
      end_within c.args.text.now c.loop.place c.field_end-end.result (tail_lent c.loop.place c.args.text.now) c.loop.invariant.inside
          c.field_end-end.ensures,
    )

pub loop-preserved : goal.loop-preserved
loop-preserved c =
    let lent = tail_lent c.loop.place c.args.text.now in
    subst (λ (k : ℕ). Fielding c.args.out.now c.args.at c.args.text.now c.args.count c.put_field-next.new.out c.put_field-next.result (c.loop.place + c.field_end-end.result) k)
    (let e : c.args.count - c.loop.counter - 1 ≡ c.args.count - (c.loop.counter + 1) = omega arith in e) (one_field c.loop.place (c.args.count - c.loop.counter) c.field_end-end.result _ _ (omega (arith, c.loop-test.true)) lent lent c.field_end-end.ensures c.loop.invariant
    c.put_field-next.ensures)

pub shape_of-out : goal.shape_of-out
shape_of-out c =
    partly_length c.loop.invariant.partly

pub returns : goal.returns
returns c =
    all_fields c.loop.place (c.args.count - c.loop.counter) (omega (arith, c.loop-test.false)) c.loop.invariant
