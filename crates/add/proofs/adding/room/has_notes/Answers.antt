-- `add::adding::room::has_notes` meets its contract.
use Rattle.numbers.proofs.Prelude.{refl, arith}
use Rattle.add.proofs.adding.{Asking.{values_few, no_marks, no_chains, no_groups, begins_last}}
use Rattle.add.proofs.adding.room.has_notes.Goals as goal

pub overflow_mul-values : goal.overflow_mul-values
overflow_mul-values c =
    omega (arith, values_few c.args.names c.args.yards c.requires.0 c.requires.1)

pub overflow_add-values : goal.overflow_add-values
overflow_add-values c =
    omega (arith, values_few c.args.names c.args.yards c.requires.0 c.requires.1)

pub returns-then-rooms-values : goal.returns-then-rooms-values
returns-then-rooms-values c =
    no_marks c.args.rooms c.args.names c.args.yards c.if-rooms-values.true

pub overflow_add-values-2 : goal.overflow_add-values-2
overflow_add-values-2 c =
    omega (arith, values_few c.args.names c.args.yards c.requires.0 c.requires.1)

pub returns-then-rooms-values-2 : goal.returns-then-rooms-values-2
returns-then-rooms-values-2 c =
    no_chains c.args.rooms c.args.names c.args.yards c.if-rooms-values.false c.if-rooms-values-2.true

pub returns-then-rooms-yards : goal.returns-then-rooms-yards
returns-then-rooms-yards c =
    no_groups c.args.rooms c.args.names c.args.yards c.if-rooms-values.false c.if-rooms-values-2.false c.if-rooms-yards.true

pub returns : goal.returns
returns c =
    begins_last c.args.rooms c.args.names c.args.yards c.if-rooms-values.false c.if-rooms-values-2.false c.if-rooms-yards.false _ refl
