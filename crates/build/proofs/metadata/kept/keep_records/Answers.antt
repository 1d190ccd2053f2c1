-- `build::metadata::kept::keep_records` meets its contract.
use Rattle.numbers.proofs.Prelude.{◌+◌, ◌*◌, arith}
use Rattle.writer.proofs.Stores.{stored_length}
use Rattle.build.proofs.metadata.Keeping.{keep_starts, keep_ends, lent_inside, lent_here, lent_climb, lent_most, lent_to, lent_put_words, lent_put_bytes, lent_first, lent_old}
use Rattle.build.proofs.metadata.{Keeping.{lent_new}}
use Rattle.build.proofs.metadata.kept.keep_records.Goals as goal
use Rattle.build.proofs.metadata.kept.keep_records.Goals.{then-first-here, else-first-here}

pub loop-here-init : goal.loop-here-init
loop-here-init c =
    keep_starts _ _ _ _ _ _ _ c.requires.1 c.requires.2

pub first_of-first-requires : goal.first_of-first-requires
first_of-first-requires c = (
  lent_inside _ _ _ _ c.args.keys.now c.args.places.now c.args.kept.now c.args.held.now c.requires.0 c.requires.1 c.requires.2,
  c.requires.3,
  omega (
    arith,
    c.requires.4,
  ),
  c.loop-here-test.true,
)

pub overflow_cast-places : goal.overflow_cast-places
overflow_cast-places c =
    let told = lent_first _ _ _ _ c.args.keys.now _ _ _ c.requires.0 c.requires.1 c.requires.2 _ _ _ _ _ _ c.loop-here.invariant c.loop-here-test.true _
    c.first_of-first.ensures in
    omega (arith, told, c.requires.4)

pub bounds-starts-at : goal.bounds-starts-at
bounds-starts-at c =
    let told = (lent_here _ _ _ _ c.args.keys.now _ _ _ c.requires.0 c.requires.1 c.requires.2 _ _ _ _ _ _ c.loop-here.invariant c.loop-here-test.true).many in
    omega (arith, told)

pub bounds-starts-to : goal.bounds-starts-to
bounds-starts-to c =
    (lent_here _ _ _ _ c.args.keys.now _ _ _ c.requires.0 c.requires.1 c.requires.2 _ _ _ _ _ _ c.loop-here.invariant c.loop-here-test.true).many

pub slice_bounds-put_bytes-count : goal.slice_bounds-put_bytes-count
slice_bounds-put_bytes-count c =
    lent_climb _ _ _ _ c.args.keys.now _ _ _ c.requires.0 c.requires.1 c.requires.2 _ _ _ _ _ _ c.loop-here.invariant c.loop-here-test.true

pub slice_bounds-put_bytes-start : goal.slice_bounds-put_bytes-start
slice_bounds-put_bytes-start c =
    lent_climb _ _ _ _ c.args.keys.now _ _ _ c.requires.0 c.requires.1 c.requires.2 _ _ _ _ _ _ c.loop-here.invariant c.loop-here-test.true

pub slice_bounds-put_bytes-end : goal.slice_bounds-put_bytes-end
slice_bounds-put_bytes-end c =
    lent_most _ _ _ _ c.args.keys.now _ _ _ c.requires.0 c.requires.1 c.requires.2 _ _ _ _ _ _ c.loop-here.invariant c.loop-here-test.true

pub loop-here-preserved : goal.loop-here-preserved
loop-here-preserved c = elim c.if-first-here.branch [
  | then-first-here w ↦ rw (w.kept-is, w.held-is, w.sums-is) (lent_new _ _ _ _ c.args.keys.now _ _ _ c.requires.0 c.requires.1 c.requires.2 _ _ _ _ _ _ c.loop-here.invariant c.loop-here-test.true _ c.first_of-first.ensures
      w.if-first-here.true _ _ w.put_words-behind.ensures _ _ w.put_bytes-next.ensures)
  | else-first-here w ↦ rw (w.kept-is, w.held-is, w.sums-is) (lent_old _ _ _ _ c.args.keys.now _ _ _ c.requires.0 c.requires.1 c.requires.2 _ _ _ _ _ _ c.loop-here.invariant c.loop-here-test.true _ c.first_of-first.ensures
      w.if-first-here.false)
]
