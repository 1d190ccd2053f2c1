-- `edit::changing::copy::copy_words` meets its contract.
use Rattle.numbers.proofs.Prelude.{ℕ, ◌≤◌, length, take, drop, take-length, List, ◌++◌, ◌≡◌, refl, ap, ◌∙◌, arith}
use Rattle.header.proofs.Buffers.{copied_suc, copied_length}
use Rattle.numbers.specs.Lists.{over}
use Rattle.edit.proofs.changing.copy.copy_words.Goals as goal

-- behind the last word the list is the words, and then what it was
copied_all : (s d : List ℕ) (i : ℕ) → i ≤ length s → length s ≤ i → take i s ++ drop i d ≡ over s d
copied_all s d i le ge = let e : i ≡ length s = omega arith in rw (e, take-length)

pub loop-i-init : goal.loop-i-init
loop-i-init c =
    (omega arith, c.requires, refl)

pub bounds-list-i : goal.bounds-list-i
bounds-list-i c =
    omega (arith, ap length c.loop-i.invariant.2 ∙ copied_length c.args.words.now c.args.list.now c.loop-i.i (omega arith) (omega arith))

pub loop-i-preserved : goal.loop-i-preserved
loop-i-preserved c =
    (omega arith, c.loop-i.invariant.1, rw c.loop-i.invariant.2 (copied_suc c.args.words.now c.args.list.now c.loop-i.i (omega arith) (omega arith)))

pub shape_of-list : goal.shape_of-list
shape_of-list c =
    ap length c.loop-i.invariant.2 ∙ copied_length c.args.words.now c.args.list.now c.loop-i.i (omega arith) (omega arith)

pub returns : goal.returns
returns c =
    c.loop-i.invariant.2 ∙ copied_all c.args.words.now c.args.list.now c.loop-i.i (omega arith) (omega arith)
