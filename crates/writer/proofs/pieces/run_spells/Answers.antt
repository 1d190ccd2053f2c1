-- `writer::pieces::run_spells` meets its contract.
use Rattle.numbers.proofs.Prelude.{refl, ◌∙◌, arith}
use Rattle.writer.proofs.{Spelling.{unread, cut_off, of_zero, of_other, of_same, spells_end, index_inside}}
use Rattle.writer.proofs.pieces.run_spells.Goals as goal

pub loop-j-init : goal.loop-j-init
loop-j-init c =
    (omega arith, refl)

pub returns-in_default : goal.returns-in_default
returns-in_default c =
    unread _ _ _ c.requires.0 c.requires.1 _ _ _ c.loop-j-test.true c.in_default.field-0 (rw c.in_default.is at c.read_forward.ensures) ∙ c.loop-j.invariant.1

pub returns-then-run-number : goal.returns-then-run-number
returns-then-run-number c =
    cut_off _ _ _ c.requires.0 c.requires.1 _ _ _ c.loop-j-test.true _ c.read_forward.ensures _ c.in-Ok.is c.if-run-number.true ∙ c.loop-j.invariant.1

pub returns-then-number-eq0 : goal.returns-then-number-eq0
returns-then-number-eq0 c =
    of_zero _ _ _ c.requires.0 c.requires.1 _ _ _ c.loop-j-test.true _ c.read_forward.ensures _ c.in-Ok.is c.if-run-number.false c.if-number-eq0.true
    ∙ c.loop-j.invariant.1

pub index_of-index-requires : goal.index_of-index-requires
index_of-index-requires c =
    c.loop-j-test.true

pub is_lent-requires : goal.is_lent-requires
is_lent-requires c =
    let inside = index_inside c.args.piece in
    (rw c.index_of-index.ensures (inside _ c.requires.0 _ c.loop-j-test.true), rw c.index_of-index.ensures (inside _ c.requires.1 _ c.loop-j-test.true))

pub returns-then-not-is_lent : goal.returns-then-not-is_lent
returns-then-not-is_lent c =
    of_other _ _ _ c.requires.0 c.requires.1 _ _ _ c.loop-j-test.true _ c.read_forward.ensures _ c.in-Ok.is c.if-run-number.false c.if-number-eq0.false
    c.index_of-index.ensures c.is_lent.ensures c.if-not-is_lent.true ∙ c.loop-j.invariant.1

pub loop-j-preserved : goal.loop-j-preserved
loop-j-preserved c = (
  omega arith,
  of_same _ _ _ c.requires.0 c.requires.1 _ _ _ c.loop-j-test.true _ c.read_forward.ensures _ c.in-Ok.is c.if-run-number.false
      c.if-number-eq0.false c.index_of-index.ensures c.is_lent.ensures c.if-not-is_lent.false ∙ c.loop-j.invariant.1,
)

pub returns : goal.returns
returns c =
    spells_end _ _ _ c.requires.0 c.requires.1 _ _ _ c.loop-j-test.false c.loop-j.invariant.0 ∙ c.loop-j.invariant.1
