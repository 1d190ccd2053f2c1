-- An entry: its border, then its strings. Assumes nothing.
use Rattle.numbers.{proofs.Prelude.{ℕ, List, ◌≡◌, ap, ◌∙◌}, specs.{Answer.{Answer}, Reply.{Reply, given, refused, plain, ◌or_else◌, ◌>>◌}, declared.refusal.Refusal.{Refusal}}}
use Rattle.border.specs.{Trace.{trace_of, border_at}, declared.reader.Encoding.{Encoding}}
use Rattle.header.specs.declared.header.Head.{Head}
use Rattle.salvage.specs.{Kept.{encoding_in, border_place, record_place, border_good, fields_good, entry_good}, Moves.Moves.{end_of}}
use Rattle.table.specs.declared.rows.Row.{Row}

module _ (file : List ℕ) (head : Head) (r : Row) where
  pub border_told : {end : Answer (Unit {0})} {encoding : Encoding} {place : ℕ} → encoding ≡ encoding_in file head → place ≡ border_place file head r
      → end ≡ end_of (trace_of file encoding (border_at place))
      → (end or_else plain 71) ≡ border_good file head r
  unfolding border_good
  border_told {end} {encoding} {place} e p t =
      ap (λ (a : Answer (Unit {0})). a or_else plain 71) (t ∙ ap (λ (x : Encoding). end_of (trace_of file x (border_at place))) e
      ∙ ap (λ (n : ℕ). end_of (trace_of file (encoding_in file head) (border_at n))) p)

  pub entry_stops : {why : Refusal} → refused why ≡ border_good file head r → refused why ≡ entry_good file head r
  unfolding entry_good
  entry_stops e = rw (← e)

  pub entry_goes : {place : ℕ} {answer : Reply (Unit {0})} → given tt ≡ border_good file head r → place ≡ record_place file head r →
      answer ≡ fields_good file head head.preamble.count place → answer ≡ entry_good file head r
  unfolding entry_good
  entry_goes {place} e p a = a ∙ ap (fields_good file head head.preamble.count) p ∙ ap (λ (b : Reply (Unit {0})). b >> fields_good file head head.preamble.count (record_place file head r)) e
