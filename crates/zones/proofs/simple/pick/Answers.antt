-- `zones::simple::pick` meets its contract. The loop's invariant: the fields that are left give the whole.
use Rattle.numbers.proofs.{Prelude.{sym, ◌∙◌, arith}, Replies.{passed_on}}
use Rattle.zones.proofs.simple.{Picking.{starts, all_picked, no_name, name_inside, no_value, goes}}
use Rattle.zones.proofs.simple.pick.Goals as goal

pub loop-index-init : goal.loop-index-init
loop-index-init c =
    (starts _ _ _ _ c.begun-last.ensures, omega arith)

pub returns-in_err-called : goal.returns-in_err-called
returns-in_err-called c =
    passed_on _ c.from_residual.ensures.1 ∙ no_name _ _ _ _ _ _ _ c.loop-index.invariant.0 c.loop-index-test.true (sym c.in_err-called.was ∙ c.read_header_text.ensures)

pub returns-in_err-value : goal.returns-in_err-value
returns-in_err-value c =
    passed_on _ c.from_residual-in_err-value.ensures.1 ∙ no_value _ _ _ _ _ _ _ c.loop-index.invariant.0 c.loop-index-test.true (sym c.in_ok-called.was
    ∙ c.read_header_text.ensures) (sym c.in_err-value.was ∙ c.read_text.ensures)

pub part_of-requires : goal.part_of-requires
part_of-requires c =
    name_inside _ _ _ _ _ _ _ c.loop-index.invariant.0 c.loop-index-test.true (sym c.in_ok-called.was ∙ c.read_header_text.ensures)

pub loop-index-preserved : goal.loop-index-preserved
loop-index-preserved c = (
  goes _ _ _ _ _ _ _ c.loop-index.invariant.0 c.loop-index-test.true (sym c.in_ok-called.was
      ∙ c.read_header_text.ensures) (sym c.in_ok-value.was ∙ c.read_text.ensures) c.part_of.ensures c.newer-last.ensures,
  omega (
    arith,
    c.loop-index-test.true,
  ),
)

pub returns : goal.returns
returns c =
    all_picked _ _ _ _ _ _ _ c.loop-index.invariant.0 c.loop-index-test.false
