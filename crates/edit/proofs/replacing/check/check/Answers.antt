-- `edit::replacing::check::check` meets its contract.
use Rattle.numbers.{proofs.Prelude.{◌+◌, ◌-◌, length, sym, ap, ◌∙◌, arith}, specs.Reply.{given, refused}}
use Rattle.edit.proofs.replacing.Spots.{index_inside, index_few, spot_ordered, within_parts, fallen, no_yard, no_field, no_text, outside, no_aside, no_space, spotted}
use Rattle.edit.specs.{declared.replacing.check.Spot.{Spot}, inner.Replacing.Spot.{within}}
use Rattle.draft.{proofs.held.{Standing.{text_short}, Stood.{stood}}, specs.Held.Space.{long_enough}}
use Rattle.edit.proofs.replacing.check.check.Goals as goal

pub returns-then-not-stands : goal.returns-then-not-stands
returns-then-not-stands c =
    ap refused c.alone.ensures ∙ fallen c.args.builder c.args.rooms c.args.out c.args.yard c.args.field c.args.text.now c.args.lengths.now (sym c.stands.ensures
    ∙ c.if-not-stands.true)

pub returns-then-builder-yard : goal.returns-then-builder-yard
returns-then-builder-yard c =
    ap refused c.alone-then-builder-yard.ensures ∙ no_yard c.args.builder c.args.rooms c.args.out c.args.yard c.args.field c.args.text.now c.args.lengths.now (sym
    c.stands.ensures ∙ c.if-not-stands.false) c.if-builder-yard.true

pub returns-then-builder-field : goal.returns-then-builder-field
returns-then-builder-field c =
    ap refused c.alone-then-builder-field.ensures ∙ no_field c.args.builder c.args.rooms c.args.out c.args.yard c.args.field c.args.text.now c.args.lengths.now (sym
    c.stands.ensures ∙ c.if-not-stands.false) c.if-builder-yard.false c.if-builder-field.true

pub returns-then-not-is_value : goal.returns-then-not-is_value
returns-then-not-is_value c =
    ap refused c.alone-then-not-is_value.ensures ∙ no_text c.args.builder c.args.rooms c.args.out c.args.yard c.args.field c.args.text.now c.args.lengths.now (sym
    c.stands.ensures ∙ c.if-not-stands.false) c.if-builder-yard.false c.if-builder-field.false (sym c.is_value.ensures ∙ c.if-not-is_value.true)

pub overflow_mul-index : goal.overflow_mul-index
overflow_mul-index c =
    omega (
      arith,
      index_few c.args.builder.names c.args.builder.yards c.args.yard c.args.field (stood c.args.builder c.args.rooms (sym c.stands.ensures
          ∙ c.if-not-stands.false)).few_names (stood c.args.builder c.args.rooms (sym c.stands.ensures
          ∙ c.if-not-stands.false)).few_yards c.if-builder-yard.false c.if-builder-field.false,
    )

pub overflow_add-index-2 : goal.overflow_add-index-2
overflow_add-index-2 c =
    omega (
      arith,
      index_few c.args.builder.names c.args.builder.yards c.args.yard c.args.field (stood c.args.builder c.args.rooms (sym c.stands.ensures
          ∙ c.if-not-stands.false)).few_names (stood c.args.builder c.args.rooms (sym c.stands.ensures
          ∙ c.if-not-stands.false)).few_yards c.if-builder-yard.false c.if-builder-field.false,
    )

pub overflow_add-index-3 : goal.overflow_add-index-3
overflow_add-index-3 c =
    omega (
      arith,
      index_few c.args.builder.names c.args.builder.yards c.args.yard c.args.field (stood c.args.builder c.args.rooms (sym c.stands.ensures
          ∙ c.if-not-stands.false)).few_names (stood c.args.builder c.args.rooms (sym c.stands.ensures
          ∙ c.if-not-stands.false)).few_yards c.if-builder-yard.false c.if-builder-field.false,
    )

pub spot_of-spot-requires : goal.spot_of-spot-requires
spot_of-spot-requires c = (
  omega (
    arith,
    c.requires,
    (stood c.args.builder c.args.rooms (sym c.stands.ensures ∙ c.if-not-stands.false)).own.lengths_all,
    index_inside
        c.args.builder.names c.args.builder.yards c.args.yard c.args.field c.if-builder-yard.false c.if-builder-field.false,
  ),
  index_few c.args.builder.names
      c.args.builder.yards c.args.yard c.args.field (stood c.args.builder c.args.rooms (sym c.stands.ensures
      ∙ c.if-not-stands.false)).few_names (stood c.args.builder c.args.rooms (sym c.stands.ensures
      ∙ c.if-not-stands.false)).few_yards c.if-builder-yard.false c.if-builder-field.false,
)

pub is_within-requires : goal.is_within-requires
is_within-requires c =
    spot_ordered _ _ _ c.spot_of-spot.ensures.0

pub returns-then-not-is_within : goal.returns-then-not-is_within
returns-then-not-is_within c =
    ap refused c.alone-then-not-is_within.ensures ∙ outside c.args.builder c.args.rooms c.args.out c.args.yard c.args.field c.args.text.now c.args.lengths.now (sym
    c.stands.ensures ∙ c.if-not-stands.false) c.if-builder-yard.false c.if-builder-field.false (sym c.is_value.ensures
    ∙ c.if-not-is_value.false) (ap (within c.args.builder) (sym c.spot_of-spot.ensures.0) ∙ (sym c.is_within.ensures ∙ c.if-not-is_within.true))

pub returns-then-out-builder : goal.returns-then-out-builder
returns-then-out-builder c =
    ap refused c.alone-then-out-builder.ensures ∙ no_aside c.args.builder c.args.rooms c.args.out c.args.yard c.args.field c.args.text.now c.args.lengths.now (sym
    c.stands.ensures ∙ c.if-not-stands.false) c.if-builder-yard.false c.if-builder-field.false (sym c.is_value.ensures
    ∙ c.if-not-is_value.false) (ap (within c.args.builder) (sym c.spot_of-spot.ensures.0) ∙ (sym c.is_within.ensures ∙ c.if-not-is_within.false)) c.if-out-builder.true

pub overflow_add-strings : goal.overflow_add-strings
overflow_add-strings c =
    omega (
      arith,
      (within_parts c.args.builder c.spot_of-spot.result (sym c.is_within.ensures
          ∙ c.if-not-is_within.false)).short,
      (within_parts c.args.builder c.spot_of-spot.result (sym c.is_within.ensures
          ∙ c.if-not-is_within.false)).inside,
      spot_ordered _ _ _ c.spot_of-spot.ensures.0,
      text_short c.args.text.now (sym c.is_value.ensures ∙ c.if-not-is_value.false),
    )

pub overflow_sub-strings : goal.overflow_sub-strings
overflow_sub-strings c =
    (within_parts c.args.builder c.spot_of-spot.result (sym c.is_within.ensures ∙ c.if-not-is_within.false)).inside

pub overflow_add-strings-2 : goal.overflow_add-strings-2
overflow_add-strings-2 c =
    omega (
      arith,
      (within_parts c.args.builder c.spot_of-spot.result (sym c.is_within.ensures
          ∙ c.if-not-is_within.false)).short,
      (within_parts c.args.builder c.spot_of-spot.result (sym c.is_within.ensures
          ∙ c.if-not-is_within.false)).inside,
      spot_ordered _ _ _ c.spot_of-spot.ensures.0,
      text_short c.args.text.now (sym c.is_value.ensures ∙ c.if-not-is_value.false),
    )

pub has_space-requires : goal.has_space-requires
has_space-requires c = (
  (stood c.args.builder c.args.rooms (sym c.stands.ensures ∙ c.if-not-stands.false)).few_names,
  (stood c.args.builder c.args.rooms (sym c.stands.ensures
      ∙ c.if-not-stands.false)).few_yards,
  omega (
    arith,
    (within_parts c.args.builder c.spot_of-spot.result (sym c.is_within.ensures
        ∙ c.if-not-is_within.false)).behind_front,
  ),
)

pub returns-then-not-has_space : goal.returns-then-not-has_space
returns-then-not-has_space c =
    ap refused c.alone-then-not-has_space.ensures ∙ no_space c.args.builder c.args.rooms c.args.out c.args.yard c.args.field c.args.text.now c.args.lengths.now (sym
    c.stands.ensures ∙ c.if-not-stands.false) c.if-builder-yard.false c.if-builder-field.false (sym c.is_value.ensures
    ∙ c.if-not-is_value.false) (ap (within c.args.builder) (sym c.spot_of-spot.ensures.0) ∙ (sym c.is_within.ensures
    ∙ c.if-not-is_within.false)) c.if-out-builder.false (ap (λ (s : Spot). long_enough c.args.rooms c.args.builder.names c.args.builder.yards c.args.builder.front
    (s.place + length c.args.text.now + (c.args.builder.strings - s.from))) (sym c.spot_of-spot.ensures.0) ∙ (sym c.has_space.ensures ∙ c.if-not-has_space.true))

pub returns : goal.returns
returns c =
    ap (λ (s : Spot). given s) c.spot_of-spot.ensures.0 ∙ spotted c.args.builder c.args.rooms c.args.out c.args.yard c.args.field c.args.text.now c.args.lengths.now
    (sym c.stands.ensures ∙ c.if-not-stands.false) c.if-builder-yard.false c.if-builder-field.false (sym c.is_value.ensures
    ∙ c.if-not-is_value.false) (ap (within c.args.builder) (sym c.spot_of-spot.ensures.0) ∙ (sym c.is_within.ensures
    ∙ c.if-not-is_within.false)) c.if-out-builder.false (ap (λ (s : Spot). long_enough c.args.rooms c.args.builder.names c.args.builder.yards c.args.builder.front
    (s.place + length c.args.text.now + (c.args.builder.strings - s.from))) (sym c.spot_of-spot.ensures.0) ∙ (sym c.has_space.ensures ∙ c.if-not-has_space.false))
