-- `notes::noted::note::enter_values` meets its contract.
use Rattle.numbers.proofs.Prelude.{refl, ◌∙◌, arith}
use Rattle.notes.proofs.noted.{Noting.{yard_next, values_few, enters_none, enters_next, enters_end}}
use Rattle.notes.proofs.noted.note.enter_values.Goals as goal

pub overflow_mul-first : goal.overflow_mul-first
overflow_mul-first c =
    omega (arith, yard_next c.args.yard c.args.names, c.requires.2)

pub loop-field-init : goal.loop-field-init
loop-field-init c =
    (omega arith, refl, enters_none _ _ _ _ _)

pub overflow_add-first : goal.overflow_add-first
overflow_add-first c =
    omega (arith, yard_next c.args.yard c.args.names, c.requires.2, c.loop-field-test.true)

pub enter-requires : goal.enter-requires
enter-requires c =
    let next = yard_next c.args.yard c.args.names in
    let h = c.loop-field-test.true in (
      omega (arith, next, h, c.requires.2),
      omega (arith, next, h, c.requires.3, c.loop-field.invariant.1),
      omega (
        arith,
        next,
        h,
        values_few c.args.yard
            c.args.names c.requires.1 c.requires.0,
      ),
    )

pub loop-field-smaller : goal.loop-field-smaller
loop-field-smaller c =
    omega (arith, c.loop-field-test.true)

pub loop-field-preserved : goal.loop-field-preserved
loop-field-preserved c = (
  omega (arith, c.loop-field-test.true),
  c.chains-1.given ∙ c.loop-field.invariant.1,
  enters_next _ _ _ _ _ _ _ _ c.loop-field-test.true c.loop-field.invariant.2
      c.enter.ensures,
)

pub shape_of-chains : goal.shape_of-chains
shape_of-chains c =
    c.loop-field.invariant.1

pub returns : goal.returns
returns c =
    enters_end _ _ _ _ _ _ _ c.loop-field.invariant.0 c.loop-field-test.false c.loop-field.invariant.2
