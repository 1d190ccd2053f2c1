-- `build::metadata::begins::place_records` meets its contract.
use Rattle.numbers.proofs.Prelude.{◌+◌, ◌*◌, refl, arith}
use Rattle.build.proofs.metadata.Beginning.{begin_starts, here_inside, here_climb, here_most, here_to, here_place, first_place, begin_old, field_room, size_asks, begin_small}
use Rattle.build.proofs.metadata.{Beginning.{begin_room, begin_new, begin_ends}}
use Rattle.build.proofs.metadata.begins.place_records.Goals as goal
use Rattle.build.proofs.metadata.begins.place_records.Goals.{then-first-here, else-first-here}

pub loop-here-init : goal.loop-here-init
loop-here-init c =
    begin_starts _ _ _ _ _ _ _ _ c.requires

pub overflow_cast-places : goal.overflow_cast-places
overflow_cast-places c =
    omega (arith, begin_small _ _ _ _ _ _ _ _ c.requires _ _ _ _ c.loop-here.invariant c.loop-here-test.true _ refl c.if-first-here.true)

pub bounds-starts-at : goal.bounds-starts-at
bounds-starts-at c =
    let told = (here_inside _ _ _ _ _ _ _ _ c.requires _ _ _ _ c.loop-here.invariant c.loop-here-test.true).many in
    omega (arith, told)

pub bounds-starts-to : goal.bounds-starts-to
bounds-starts-to c =
    (here_inside _ _ _ _ _ _ _ _ c.requires _ _ _ _ c.loop-here.invariant c.loop-here-test.true).many

pub overflow_add-next : goal.overflow_add-next
overflow_add-next c =
    omega (arith, field_room _ _ _ _ _ _ _ _ c.requires _ _ _ _ c.loop-here.invariant c.loop-here-test.true _ refl c.if-first-here.true)

pub offset_bounds-words-field : goal.offset_bounds-words-field
offset_bounds-words-field c =
    let told = field_room _ _ _ _ _ _ _ _ c.requires _ _ _ _ c.loop-here.invariant c.loop-here-test.true _ refl c.if-first-here.true in
    omega (arith, told)

pub slice_bounds-record_size-end : goal.slice_bounds-record_size-end
slice_bounds-record_size-end c =
    field_room _ _ _ _ _ _ _ _ c.requires _ _ _ _ c.loop-here.invariant c.loop-here-test.true _ refl c.if-first-here.true

pub slice_bounds-record_size-count-then-first-here-2 : goal.slice_bounds-record_size-count-then-first-here-2
slice_bounds-record_size-count-then-first-here-2 c =
    here_climb _ _ _ _ _ _ _ _ c.requires _ _ _ _ c.loop-here.invariant c.loop-here-test.true

pub slice_bounds-record_size-start-then-first-here-2 : goal.slice_bounds-record_size-start-then-first-here-2
slice_bounds-record_size-start-then-first-here-2 c =
    here_climb _ _ _ _ _ _ _ _ c.requires _ _ _ _ c.loop-here.invariant c.loop-here-test.true

pub slice_bounds-record_size-end-then-first-here-2 : goal.slice_bounds-record_size-end-then-first-here-2
slice_bounds-record_size-end-then-first-here-2 c =
    here_most _ _ _ _ _ _ _ _ c.requires _ _ _ _ c.loop-here.invariant c.loop-here-test.true

pub record_size-begin-requires : goal.record_size-begin-requires
record_size-begin-requires c =
    size_asks _ _ _ _ _ _ _ _ c.requires _ _ _ _ c.loop-here.invariant c.loop-here-test.true _ refl c.if-first-here.true

pub overflow_add-begin : goal.overflow_add-begin
overflow_add-begin c =
    let told = begin_room _ _ _ _ _ _ _ _ c.requires _ _ _ _ c.loop-here.invariant c.loop-here-test.true _ refl c.if-first-here.true _ c.record_size-begin.ensures in
    omega (arith, told)

pub bounds-places-first : goal.bounds-places-first
bounds-places-first c =
    first_place _ _ _ _ _ _ _ _ c.requires _ _ _ _ c.loop-here.invariant c.loop-here-test.true _ refl c.if-first-here.false

pub loop-here-preserved : goal.loop-here-preserved
loop-here-preserved c = elim c.if-first-here.branch [
  | then-first-here w ↦ rw (w.places-is, w.begin-is, w.field-is) (begin_new _ _ _ _ _ _ _ _ c.requires _ _ _ _ c.loop-here.invariant c.loop-here-test.true _ refl w.if-first-here.true _
      w.record_size-begin.ensures)
  | else-first-here w ↦ rw (w.places-is, w.begin-is, w.field-is) (begin_old _ _ _ _ _ _ _ _ c.requires _ _ _ _ c.loop-here.invariant c.loop-here-test.true _ refl w.if-first-here.false)
]
