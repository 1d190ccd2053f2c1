-- `build::metadata::words::word_of` meets its contract.
use Rattle.numbers.proofs.Prelude.{arith}
use Rattle.build.proofs.metadata.{Worded.{marked_inside, marked_few, old_inside, old_word, once_word, new_word, word_empty}}
use Rattle.build.proofs.metadata.words.word_of.Goals as goal

pub first_of-first-requires : goal.first_of-first-requires
first_of-first-requires c =
    (marked_inside _ _ _ _ c.requires.0, c.requires.0.order, marked_few _ _ _ _ c.requires.0, omega (arith, c.requires.0.many, c.requires.1))

pub offset_bounds-words-first : goal.offset_bounds-words-first
offset_bounds-words-first c =
    let told = old_inside _ _ _ _ c.requires.0 _ c.requires.1 _ c.first_of-first.ensures _ c.requires.2 c.if-first-field.true in
    omega (arith, told)

pub bounds-words-first : goal.bounds-words-first
bounds-words-first c =
    old_inside _ _ _ _ c.requires.0 _ c.requires.1 _ c.first_of-first.ensures _ c.requires.2 c.if-first-field.true

pub returns-then-first-field : goal.returns-then-first-field
returns-then-first-field c =
    old_word _ _ _ _ c.requires.0 _ c.requires.1 _ c.first_of-first.ensures _ c.requires.2 c.if-first-field.true

pub returns-then-lengths-field-eq0 : goal.returns-then-lengths-field-eq0
returns-then-lengths-field-eq0 c =
    word_empty _ _ c.requires.0.whole _ c.requires.1 c.if-lengths-field-eq0.true

pub is_twice-requires : goal.is_twice-requires
is_twice-requires c =
    (marked_inside _ _ _ _ c.requires.0, c.requires.0.order, marked_few _ _ _ _ c.requires.0, omega (arith, c.requires.0.many, c.requires.1))

pub returns-then-is_twice : goal.returns-then-is_twice
returns-then-is_twice c =
    new_word _ _ _ _ c.requires.0 _ c.requires.1 _ c.first_of-first.ensures c.if-lengths-field-eq0.false _ c.is_twice.ensures c.if-is_twice.true
    c.if-first-field.false _ c.requires.3

pub returns : goal.returns
returns c =
    once_word _ _ _ _ c.requires.0 _ c.requires.1 _ c.first_of-first.ensures c.if-lengths-field-eq0.false _ c.is_twice.ensures c.if-is_twice.false
