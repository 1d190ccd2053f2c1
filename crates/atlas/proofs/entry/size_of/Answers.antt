-- `atlas::entry::size_of` meets its contract.
use Rattle.numbers.proofs.Prelude.{ne_eqb, arith}
use Rattle.atlas.proofs.{Behind.{groups_few}}
use Rattle.atlas.proofs.entry.size_of.Goals as goal

pub overflow_mul-result-2 : goal.overflow_mul-result-2
overflow_mul-result-2 c =
    omega (arith, c.requires, c.groups_of-groups.ensures, groups_few c.args.count)

pub overflow_add-result-2 : goal.overflow_add-result-2
overflow_add-result-2 c =
    omega (arith, c.requires, c.groups_of-groups.ensures, groups_few c.args.count)

pub returns : goal.returns
returns c = (
  rw (ne_eqb c.args.count 0 c.if-count-eq0.false) (omega (arith, c.groups_of-groups.ensures)),
  omega (
    arith,
    c.requires,
    c.groups_of-groups.ensures,
    groups_few
        c.args.count,
  ),
)
