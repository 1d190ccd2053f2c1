-- `edit::changing::drop::shorten` meets its contract.
use Rattle.numbers.{proofs.Prelude.{◌-◌, rules, ap, w32, SFits, arith}, specs.Reply.{refused}}
use mir.Facts.{to_z-of_z}
use Rattle.edit.proofs.changing.Shortening.{border_inside, few_left, front_order, last_inside, last_less, last_order, last_over, names_small, no_yard, not_standing, place_over, product_small}
use Rattle.edit.proofs.changing.{Shortening.{room_bad, shortened}, Sums.{sum_over_told, sum_within_told}}
use Rattle.edit.specs.inner.Changing.Dropped.{short_of, with_sums}
use Rattle.edit.proofs.changing.drop.shorten.Goals as goal

pub returns-then-not-stands : goal.returns-then-not-stands
returns-then-not-stands c =
    not_standing _ _ c.args.borders.now c.args.lengths.now _ c.stands.ensures c.if-not-stands.true _ (ap refused c.alone.ensures)

pub returns-then-builder-eq0 : goal.returns-then-builder-eq0
returns-then-builder-eq0 c =
    no_yard _ _ c.args.borders.now c.args.lengths.now _ c.stands.ensures c.if-not-stands.false c.if-builder-eq0.true _ (ap refused c.alone-then-builder-eq0.ensures)

pub overflow_mul-from : goal.overflow_mul-from
overflow_mul-from c =
    omega (
      arith,
      product_small _ _ c.args.borders.now c.args.lengths.now _ c.stands.ensures c.if-not-stands.false c.if-builder-eq0.false c.requires.0
          c.requires.1,
      names_small _ _ c.args.borders.now c.args.lengths.now _ c.stands.ensures c.if-not-stands.false c.if-builder-eq0.false c.requires.0 c.requires.1,
    )

pub overflow_add-from-2 : goal.overflow_add-from-2
overflow_add-from-2 c =
    omega (
      arith,
      product_small _ _ c.args.borders.now c.args.lengths.now _ c.stands.ensures c.if-not-stands.false c.if-builder-eq0.false c.requires.0
          c.requires.1,
      names_small _ _ c.args.borders.now c.args.lengths.now _ c.stands.ensures c.if-not-stands.false c.if-builder-eq0.false c.requires.0 c.requires.1,
    )

pub overflow_add-to : goal.overflow_add-to
overflow_add-to c =
    omega (
      arith,
      product_small _ _ c.args.borders.now c.args.lengths.now _ c.stands.ensures c.if-not-stands.false c.if-builder-eq0.false c.requires.0
          c.requires.1,
      names_small _ _ c.args.borders.now c.args.lengths.now _ c.stands.ensures c.if-not-stands.false c.if-builder-eq0.false c.requires.0 c.requires.1,
    )

pub offset_bounds-lengths-from : goal.offset_bounds-lengths-from
offset_bounds-lengths-from c =
    omega (
      arith,
      product_small _ _ c.args.borders.now c.args.lengths.now _ c.stands.ensures c.if-not-stands.false c.if-builder-eq0.false c.requires.0
          c.requires.1,
      names_small _ _ c.args.borders.now c.args.lengths.now _ c.stands.ensures c.if-not-stands.false c.if-builder-eq0.false c.requires.0 c.requires.1,
    )

pub slice_bounds-sum_within-end : goal.slice_bounds-sum_within-end
slice_bounds-sum_within-end c =
    last_inside _ _ c.args.borders.now c.args.lengths.now _ c.stands.ensures c.if-not-stands.false c.if-builder-eq0.false c.requires.0 c.requires.1

pub overflow_sub-builder : goal.overflow_sub-builder
overflow_sub-builder c =
    front_order _ _ c.args.borders.now c.args.lengths.now _ c.stands.ensures c.if-not-stands.false c.if-builder-eq0.false c.requires.0 c.requires.1

pub returns-in_default : goal.returns-in_default
returns-in_default c =
    last_over _ _ c.args.borders.now c.args.lengths.now _ c.stands.ensures c.if-not-stands.false c.if-builder-eq0.false c.requires.0 c.requires.1 (sum_over_told _ _
    _ c.sum_within.ensures c.in_default.is) _ (ap refused c.alone-in_default.ensures)

pub offset_bounds-borders-count : goal.offset_bounds-borders-count
offset_bounds-borders-count c =
    omega (arith, few_left _ _ c.args.borders.now c.args.lengths.now _ c.stands.ensures c.if-not-stands.false c.if-builder-eq0.false c.requires.0 c.requires.1)

pub bounds-borders-count : goal.bounds-borders-count
bounds-borders-count c =
    border_inside _ _ c.args.borders.now c.args.lengths.now _ c.stands.ensures c.if-not-stands.false c.if-builder-eq0.false c.requires.0 c.requires.1

pub overflow_cast-bytes : goal.overflow_cast-bytes
overflow_cast-bytes c =
    omega (arith, c.type_inv.borders (c.args.builder.yards - 1))

pub returns-then-builder-bytes : goal.returns-then-builder-bytes
returns-then-builder-bytes c =
    place_over _ _ c.args.borders.now c.args.lengths.now _ c.stands.ensures c.if-not-stands.false c.if-builder-eq0.false c.requires.0 c.requires.1 _
    (sum_within_told _ _ _ c.sum_within.ensures _ c.in-Some.is) c.if-builder-bytes.true _ (ap refused c.alone-then-builder-bytes.ensures)

pub overflow_sub-strings : goal.overflow_sub-strings
overflow_sub-strings c =
    omega (
      arith,
      last_less _ _ c.args.borders.now c.args.lengths.now _ c.stands.ensures c.if-not-stands.false c.if-builder-eq0.false c.requires.0 c.requires.1 _
          (sum_within_told _ _ _ c.sum_within.ensures _ c.in-Some.is),
    )

pub has_space-requires : goal.has_space-requires
has_space-requires c = (
  names_small _ _ c.args.borders.now c.args.lengths.now _ c.stands.ensures c.if-not-stands.false c.if-builder-eq0.false c.requires.0 c.requires.1,
  few_left _ _
      c.args.borders.now c.args.lengths.now _ c.stands.ensures c.if-not-stands.false c.if-builder-eq0.false c.requires.0 c.requires.1,
  last_order _ _
      c.args.borders.now c.args.lengths.now _ c.stands.ensures c.if-not-stands.false c.if-builder-eq0.false c.requires.0 c.requires.1 _ (sum_within_told _ _ _
      c.sum_within.ensures _ c.in-Some.is),
)

pub returns-then-not-has_space : goal.returns-then-not-has_space
returns-then-not-has_space c =
    room_bad _ _ c.args.borders.now c.args.lengths.now _ c.stands.ensures c.if-not-stands.false c.if-builder-eq0.false c.requires.0 c.requires.1 _ (sum_within_told
    _ _ _ c.sum_within.ensures _ c.in-Some.is) c.if-builder-bytes.false _ c.has_space.ensures c.if-not-has_space.true _ (ap refused c.alone-then-not-has_space.ensures)

pub returns : goal.returns
unfolding short_of with_sums
returns c =
    let greatest : SFits w32 c.args.builder.greatest = search rules in
    shortened _ _ c.args.borders.now c.args.lengths.now _ c.stands.ensures c.if-not-stands.false c.if-builder-eq0.false c.requires.0 c.requires.1 _ (sum_within_told
    _ _ _ c.sum_within.ensures _ c.in-Some.is) c.if-builder-bytes.false _ c.has_space.ensures c.if-not-has_space.false _ (to_z-of_z greatest)
