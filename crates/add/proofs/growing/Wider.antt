-- The lists of notes may grow between two calls: with zeros behind them they note what they noted. Assumes nothing.
use Rattle.numbers.proofs.Prelude.{ℕ, List}
use Rattle.builder.specs.Yards.{Yard}
use Rattle.notes.proofs.chains.Entering.{chained_wider}
use Rattle.draft.proofs.held.Wider.{front_wider}
use Rattle.add.specs.Growing.Notes.{MoreNotes, Noted, NotedBy, Notes, wider_notes}

module _ (more : MoreNotes) (names : ℕ) (yards : List Yard) (noted : ℕ) (notes : Notes) where
  -- Notes that are right are right with zeros behind them.
  pub noted_wider : Noted names yards noted notes → Noted names yards noted (wider_notes more notes)
  noted_wider n = let l = n.lists in record {
    number = n.number;
    lists = record {
      marks_are = front_wider 0 more.marks l.marks_are;
      indexed = record { fields = chained_wider _ _ _ more.chains notes.chains l.indexed.fields; records = chained_wider _ _ _ more.groups notes.groups l.indexed.records };
      begins_are = front_wider 0 more.begins l.begins_are;
    };
  }

  pub noted_by_wider : NotedBy names yards noted notes → NotedBy names yards noted (wider_notes more notes)
  unfolding NotedBy
  noted_by_wider by some = noted_wider (by some)
