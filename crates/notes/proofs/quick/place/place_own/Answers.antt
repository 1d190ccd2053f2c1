-- `notes::quick::place::place_own` meets its contract.
use Rattle.numbers.proofs.{Prelude.{◌+◌, rules, arith}, Spelling.{varint_few}}
use Rattle.notes.proofs.quick.{Owned.{by_few, own_at, own_unsure}}
use Rattle.notes.proofs.quick.place.place_own.Goals as goal

pub weigh-requires : goal.weigh-requires
weigh-requires c =
    (search rules, omega (arith, c.size_of_varint-word.ensures, varint_few (256 + c.args.records)), search rules, search rules)

pub returns-in_err-by : goal.returns-in_err-by
returns-in_err-by c =
    rw c.from_residual.ensures (own_unsure _ _ _ _ _ _ _)

pub overflow_add-records-3 : goal.overflow_add-records-3
overflow_add-records-3 c =
    omega (arith, by_few _ c.weigh.ensures.0 _ c.in_ok-by.was)

pub overflow_add-records-4 : goal.overflow_add-records-4
overflow_add-records-4 c =
    omega (arith, by_few _ c.weigh.ensures.0 _ c.in_ok-by.was)

pub returns-then-longest-word : goal.returns-then-longest-word
returns-then-longest-word c =
    own_unsure _ _ _ _ _ _ _

pub returns : goal.returns
returns c =
    own_at _ _ _ _ _ _ _ _ _ c.weigh.ensures _ c.in_ok-by.was _ c.size_of_varint-word.ensures c.size_of_varint-longest.ensures c.if-longest-word.false
