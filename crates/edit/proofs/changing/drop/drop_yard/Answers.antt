-- `edit::changing::drop::drop_yard` meets its contract.
use Rattle.numbers.{proofs.{Prelude.{refl, ap, arith}, Replies.{passed_on}}, specs.Reply.{refused}}
use Rattle.edit.proofs.changing.Dropping.{drop_broken, drop_done, drop_refused, front_order, left_inside, left_summing, lengths_in, lent_here, names_few, product_few, short_is}
use Rattle.edit.proofs.changing.{Dropping.{texts_in, yards_few}}
use Rattle.edit.specs.inner.Changing.Dropped.{ends_of}
use Rattle.draft.specs.Held.State.{lists_as}
use Rattle.edit.proofs.changing.drop.drop_yard.Goals as goal

pub returns-in_err-left : goal.returns-in_err-left
returns-in_err-left c =
    rw (passed_on c.from_residual.result c.from_residual.ensures.1) (drop_refused _ _ (lists_as c.args.boxes.now c.args.borders.now c.args.lengths.now c.args.texts.now c.args.bytes.now) lent_here _ c.shorten.ensures _ c.in_err-left.was)

pub overflow_mul-to : goal.overflow_mul-to
overflow_mul-to c =
    omega (
      arith,
      product_few _ _ _ _ _ (short_is _ _ (lists_as c.args.boxes.now c.args.borders.now c.args.lengths.now c.args.texts.now c.args.bytes.now) lent_here
          _ c.shorten.ensures _ c.in_ok-left.was),
    )

pub overflow_add-to : goal.overflow_add-to
overflow_add-to c =
    omega (
      arith,
      product_few _ _ _ _ _ (short_is _ _ (lists_as c.args.boxes.now c.args.borders.now c.args.lengths.now c.args.texts.now c.args.bytes.now) lent_here
          _ c.shorten.ensures _ c.in_ok-left.was),
      names_few _ _ _ _ _ (short_is _ _ (lists_as c.args.boxes.now c.args.borders.now c.args.lengths.now c.args.texts.now
          c.args.bytes.now) lent_here _ c.shorten.ensures _ c.in_ok-left.was),
    )

pub slice_bounds-sum_up-end : goal.slice_bounds-sum_up-end
slice_bounds-sum_up-end c =
    lengths_in _ _ _ _ _ (short_is _ _ (lists_as c.args.boxes.now c.args.borders.now c.args.lengths.now c.args.texts.now c.args.bytes.now) lent_here _
    c.shorten.ensures _ c.in_ok-left.was) (lists_as c.args.boxes.now c.args.borders.now c.args.lengths.now c.args.texts.now c.args.bytes.now) lent_here

pub slice_bounds-sum_up-count-2 : goal.slice_bounds-sum_up-count-2
slice_bounds-sum_up-count-2 c =
    front_order _ _ _ _ _ (short_is _ _ (lists_as c.args.boxes.now c.args.borders.now c.args.lengths.now c.args.texts.now c.args.bytes.now) lent_here _
    c.shorten.ensures _ c.in_ok-left.was)

pub slice_bounds-sum_up-start-2 : goal.slice_bounds-sum_up-start-2
slice_bounds-sum_up-start-2 c =
    omega (
      arith,
      front_order _ _ _ _ _ (short_is _ _ (lists_as c.args.boxes.now c.args.borders.now c.args.lengths.now c.args.texts.now c.args.bytes.now) lent_here
          _ c.shorten.ensures _ c.in_ok-left.was),
      texts_in _ _ _ _ _ (short_is _ _ (lists_as c.args.boxes.now c.args.borders.now c.args.lengths.now c.args.texts.now
          c.args.bytes.now) lent_here _ c.shorten.ensures _ c.in_ok-left.was) (lists_as c.args.boxes.now c.args.borders.now c.args.lengths.now c.args.texts.now
          c.args.bytes.now) lent_here,
    )

pub slice_bounds-sum_up-end-2 : goal.slice_bounds-sum_up-end-2
slice_bounds-sum_up-end-2 c =
    texts_in _ _ _ _ _ (short_is _ _ (lists_as c.args.boxes.now c.args.borders.now c.args.lengths.now c.args.texts.now c.args.bytes.now) lent_here _
    c.shorten.ensures _ c.in_ok-left.was) (lists_as c.args.boxes.now c.args.borders.now c.args.lengths.now c.args.texts.now c.args.bytes.now) lent_here

pub sum_up-summed-requires : goal.sum_up-summed-requires
sum_up-summed-requires c =
    left_summing _ _ _ _ _ (short_is _ _ (lists_as c.args.boxes.now c.args.borders.now c.args.lengths.now c.args.texts.now c.args.bytes.now) lent_here _
    c.shorten.ensures _ c.in_ok-left.was) (lists_as c.args.boxes.now c.args.borders.now c.args.lengths.now c.args.texts.now c.args.bytes.now) lent_here _ _ refl refl

pub returns-in_default : goal.returns-in_default
returns-in_default c =
    drop_broken _ _ (lists_as c.args.boxes.now c.args.borders.now c.args.lengths.now c.args.texts.now c.args.bytes.now) lent_here _ c.shorten.ensures _ c.in_ok-left.was
    _ _ _ refl refl c.sum_up-summed.ensures c.in_default.is _ (ap refused c.alone.ensures)

pub overflow_mul-ends : goal.overflow_mul-ends
overflow_mul-ends c =
    omega (
      arith,
      yards_few _ _ _ _ _ (short_is _ _ (lists_as c.args.boxes.now c.args.borders.now c.args.lengths.now c.args.texts.now c.args.bytes.now) lent_here _
          c.shorten.ensures _ c.in_ok-left.was),
    )

pub cut_lists-requires : goal.cut_lists-requires
unfolding ends_of
cut_lists-requires c =
    left_inside _ _ _ _ _ (short_is _ _ (lists_as c.args.boxes.now c.args.borders.now c.args.lengths.now c.args.texts.now c.args.bytes.now) lent_here _
    c.shorten.ensures _ c.in_ok-left.was) (lists_as c.args.boxes.now c.args.borders.now c.args.lengths.now c.args.texts.now c.args.bytes.now) lent_here

pub returns : goal.returns
unfolding ends_of
returns c =
    drop_done _ _ (lists_as c.args.boxes.now c.args.borders.now c.args.lengths.now c.args.texts.now c.args.bytes.now) lent_here _ c.shorten.ensures _ c.in_ok-left.was _
    _ _ refl refl c.sum_up-summed.ensures _ c.in-Some.is _ c.cut_lists.ensures _ c.with_sums.ensures
