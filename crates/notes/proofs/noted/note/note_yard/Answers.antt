-- `notes::noted::note::note_yard` meets its contract.
use Rattle.numbers.proofs.Prelude.{sym, ◌∙◌}
use Rattle.notes.proofs.{chains.Walking.{word_some, word_none}, noted.Noting.{notes_old, notes_new}}
use Rattle.notes.proofs.noted.note.note_yard.Goals as goal

pub returns-then-is_some : goal.returns-then-is_some
returns-then-is_some c =
    notes_old _ _ _ _ _ _ _ c.find.ensures.1 (word_some c.find.result (sym c.is_some.ensures ∙ c.if-is_some.true)) c.requires.3 c.requires.4

pub returns : goal.returns
returns c =
    notes_new _ _ _ _ _ _ _ c.find.ensures.1 (word_none c.find.result (sym c.is_some.ensures ∙ c.if-is_some.false)) _ _ c.enter.ensures c.enter_values.ensures
