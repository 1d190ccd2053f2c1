-- `notes::nearby::near::table_more` meets its contract.
use Rattle.numbers.proofs.Prelude.{arith}
use Rattle.notes.proofs.nearby.{Grown.{grows, answer_none, answer_some}}
use Rattle.notes.proofs.nearby.near.table_more.Goals as goal

pub overflow_add-grown : goal.overflow_add-grown
overflow_add-grown c =
    let g = grows _ _ _ _ _ _ _ c.neighbours-near.ensures _ c.places_of-from.ensures _ c.box_at.ensures _ c.entry_size-new.ensures _ c.size_behind-behind.ensures _
    c.size_behind-before.ensures in
    omega (arith, g.new_small, c.requires.1)

pub overflow_add-grown-2 : goal.overflow_add-grown-2
overflow_add-grown-2 c =
    let g = grows _ _ _ _ _ _ _ c.neighbours-near.ensures _ c.places_of-from.ensures _ c.box_at.ensures _ c.entry_size-new.ensures _ c.size_behind-behind.ensures _
    c.size_behind-before.ensures in
    omega (arith, g.new_small, g.behind_small, c.requires.1)

pub returns-then-grown-before : goal.returns-then-grown-before
returns-then-grown-before c = let both = answer_none _ _ _ _ _ _ _ _ (grows _ _ _ _ _ _ _ c.neighbours-near.ensures _ c.places_of-from.ensures _ c.box_at.ensures _ c.entry_size-new.ensures _
    c.size_behind-behind.ensures _ c.size_behind-before.ensures) _ c.if-grown-before.true in record { is = both.0; small = both.1 }

pub returns : goal.returns
returns c = let both = answer_some _ _ _ _ _ _ _ _ (grows _ _ _ _ _ _ _ c.neighbours-near.ensures _ c.places_of-from.ensures _ c.box_at.ensures _ c.entry_size-new.ensures _
    c.size_behind-behind.ensures _ c.size_behind-before.ensures) _ c.if-grown-before.false in record { is = both.0; small = both.1 }
