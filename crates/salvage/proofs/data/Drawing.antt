-- Kept borders, drawn one behind the other. Assumes nothing.
use Rattle.numbers.proofs.Prelude.{ℕ, List, [], ◌∷◌, ◌++◌, append_assoc, flat_map, ◌≡◌, refl, sym, ap, subst, ◌∙◌, arith}
use Rattle.numbers.specs.{Answer.{Answer, found, failed, refused, ◌>>=◌}, Reply.{Reply, given, plain, ◌or_else◌, ◌>>◌}, declared.refusal.Refusal.{Refusal}}
use Rattle.border.specs.{Trace.{trace_of, border_at}, declared.reader.Encoding.{Encoding}}
use Rattle.header.specs.declared.header.Head.{Head}
use Rattle.salvage.proofs.moves.{Capping.{capped_none, capped_then, capped_as}, pairs.Pairing.{bytes_next}}
use Rattle.salvage.specs.{File.{border_bytes}, Kept.{encoding_in, border_place, border_good, fields_good, record_place, entry_good, kept_of, kept_from, LedTo}}
use Rattle.salvage.specs.{Moves.Moves.{end_of, moves_at, closed_moves, moves_bytes}, inner.Moves.Laid.{Capped, Copied}}
use Rattle.table.specs.{Rows.{start_at, after, rows_in}, declared.rows.{Cursor.{Cursor}, Row.{Row}}}
use Rattle.numbers.specs.Reply as R

-- ---- a kept border closes
not_given : {B : Type 0} {why : Refusal} → ◌≡◌ {A = Reply (Unit {0})} (R.refused why) (given tt) → B
not_given e = let z : ◌≡◌ {A = ℕ} 0 1 = cc in absurd (omega arith)

first_good : (a b : Reply (Unit {0})) → (a >> b) ≡ given tt → a ≡ given tt
first_good (given tt) b e = refl
first_good (R.refused why) b e = not_given e

was_found : (a : Answer (Unit {0})) → (a or_else plain 71) ≡ given tt → a ≡ found tt
was_found (found tt) e = refl
was_found failed e = not_given e
was_found (refused n) e = not_given e

module _ (file : List ℕ) (head : Head) where
  pub kept_closes : (r : Row) → entry_good file head r ≡ given tt → end_of (trace_of file (encoding_in file head) (border_at (border_place file head r))) ≡ found tt
  unfolding entry_good border_good
  kept_closes r e = was_found _ (first_good _ (fields_good file head head.preamble.count (record_place file head r)) e)

  -- so what is drawn of it are its bytes
  pub border_drawn : (r : Row) {now after : List ℕ} {at next place : ℕ} {encoding : Encoding} → entry_good file head r ≡ given tt → encoding ≡ encoding_in file head → place ≡ border_place file head r
      → Copied (moves_bytes encoding.version) (closed_moves file encoding place) now at after next → Capped now at (border_bytes file head r) after next
  unfolding border_bytes closed_moves
  border_drawn r {now} {after} {at} {next} {place} {encoding} good e p c =
      let same = subst (λ (n : ℕ). Copied (moves_bytes (encoding_in file head).version) (closed_moves file (encoding_in file head) n) now at after next) p
      (subst (λ (x : Encoding). Copied (moves_bytes x.version) (closed_moves file x place) now at after next) e c) in
      subst (λ (a : Answer (Unit {0})). Copied (moves_bytes (encoding_in file head).version) (a >>= λ end. found (moves_at file (encoding_in file head) (border_place file head r))) now at after
      next) (kept_closes r good) same

  module _ (before : List ℕ) (at : ℕ) where
    abbrev all : List Row
    all = kept_of file head (rows_in file head)

    -- those that are done were drawn, and those that are left make up the rest
    pub record Drawing (now : List ℕ) (next : ℕ) (from : Cursor) : Type 0 where
      pub done : List Row
      pub rest : all ≡ done ++ kept_from file head from
      pub laid : Capped before at (flat_map (border_bytes file head) done) now next

    pub draws_start : {from : Cursor} → from ≡ start_at head.sections.table → Drawing before at from
    unfolding flat_map kept_from rows_in
    draws_start e = record { done = []; rest = sym (ap (kept_from file head) e); laid = capped_none before at }

    pub draws_go : {now after' : List ℕ} {next next' : ℕ} {from cursor : Cursor} (r : Row) → Drawing now next from → LedTo file head from r → cursor ≡ after r
        → Capped now next (border_bytes file head r) after' next' → Drawing after' next' cursor
    draws_go {from = from} r d l n c =
        record {
          done = d.done ++ (r ∷ []);
          rest = d.rest
              ∙ ap (λ (rs : List Row). d.done ++ rs) (l.more ∙ ap (λ (x : Cursor). r ∷ kept_from file head x) (sym n))
              ∙ sym (append_assoc d.done (r ∷ []) _);
          laid = capped_as (bytes_next (border_bytes file head) d.done r) (capped_then (flat_map (border_bytes file head) d.done) (border_bytes file head r) d.laid c);
        }
