-- The entries of kept rows, one behind the other. Assumes nothing.
use Rattle.numbers.proofs.Prelude.{ℕ, ltb-true, ltb-false, ltb, length, Bool, true, false, List, [], ◌++◌, append_assoc, append-nil, ◌≡◌, refl, sym, ap, subst, ◌∙◌, arith}
use Rattle.numbers.{proofs.Tests.{both}, specs.Reply.{Reply, given, refused}}
use Rattle.header.specs.declared.header.Head.{Head}
use Rattle.salvage.proofs.moves.Capping.{capped_none, capped_then}
use Rattle.salvage.specs.{File.{border_bytes, entry_bytes, table_from, Sized, Measured, all_short, Tabled}, Kept.{entry_good, kept_of, kept_from, LedTo}, inner.Moves.Laid.{cap, Capped}}
use Rattle.table.specs.{Rows.{start_at, after, rows_in}, declared.rows.{Cursor.{Cursor}, Row.{Row}}}

-- what is written into no room is only counted
pub sized_of : {before bytes after : List ℕ} {size : ℕ} → Capped before 0 bytes after size → Sized bytes size
sized_of c = record { exact = λ l. omega (arith, (c.fits l).place_after); over = λ l. omega (arith, c.over l) }

pub measured_if : (good : Reply (Unit {0})) (bytes : List ℕ) (size : ℕ) → (good ≡ given tt → Sized bytes size) → Measured good bytes size
measured_if (given tt) bytes size h = h refl
measured_if (refused why) bytes size h = tt

size_exact : (good : Reply (Unit {0})) (bytes : List ℕ) (size : ℕ) → Measured good bytes size → good ≡ given tt → ltb (length bytes) cap ≡ true → size ≡ length bytes
size_exact good bytes size m e short = go (ltb size cap) refl where
  sized : Sized bytes size
  sized = subst (λ (g : Reply (Unit {0})). Measured g bytes size) e m

  go : (t : Bool) → ltb size cap ≡ t → size ≡ length bytes
  go true h = sized.exact (ltb-true size cap h)
  go false h = absurd (omega (arith, sized.over (ltb-false size cap h), ltb-true (length bytes) cap short))

module _ (file : List ℕ) (head : Head) (before : List ℕ) (at : ℕ) where
  abbrev all : List Row
  all = kept_of file head (rows_in file head)

  -- what is written, and what the rows that are left give, make up the table
  pub record Tabling (now : List ℕ) (next id size : ℕ) (from : Cursor) : Type 0 where
    pub written : List ℕ
    pub rest : all_short file head all ≡ true → (table_from file head 0 0 all ≡ written ++ table_from file head id size (kept_from file head from)) × (all_short file head (kept_from file
        head from) ≡ true)
    pub laid : Capped before at written now next

  pub tables_start : {from : Cursor} → from ≡ start_at head.sections.table → Tabling before at 0 0 from
  unfolding kept_from rows_in
  tables_start e = record { written = []; rest = λ short. rw e (refl, short); laid = capped_none before at }

  pub tables_go : {now after' : List ℕ} {next next' id id' size size' : ℕ} {from cursor : Cursor} (r : Row) → Tabling now next id size from → LedTo file head from r → cursor ≡ after r →
      id' ≡ r.metadata
      → Measured (entry_good file head r) (border_bytes file head r) size' → Capped now next (entry_bytes id size r) after' next' → Tabling after' next' id' size' cursor
  unfolding table_from all_short
  tables_go {id = id} {id' = id'} {size = size} {size' = size'} {from = from} {cursor = cursor} r t l n i m c =
      record {
        written = t.written ++ entry_bytes id size r;
        rest = λ short. onward (t.rest short).0 (t.rest short).1;
        laid = capped_then t.written (entry_bytes id size r) t.laid c;
      } where
        onward : table_from file head 0 0 all ≡ t.written ++ table_from file head id size (kept_from file head from) → all_short file head (kept_from file head from) ≡ true
            → (table_from file head 0 0 all ≡ (t.written ++ entry_bytes id size r) ++ table_from file head id' size' (kept_from file head cursor)) ×
            (all_short file head (kept_from file head cursor) ≡ true)
        onward e short =
            let parts = both (ltb (length (border_bytes file head r)) cap) (all_short file head (kept_from file head (after r))) (ap (all_short file head) (sym l.more) ∙ short) in
            let same : size' ≡ length (border_bytes file head r) = size_exact (entry_good file head r) (border_bytes file head r) size' m l.good parts.0 in (
              e
                  ∙ ap (λ (rs : List Row). t.written ++ table_from file head id size rs) l.more
                  ∙ sym (append_assoc t.written (entry_bytes id size r) _)
                  ∙ rw (n, i, same),
              rw n parts.1,
            )

  pub tables_end : {now : List ℕ} {next id size : ℕ} {from : Cursor} → Tabling now next id size from → kept_from file head from ≡ [] →
      Tabled (all_short file head all) before at (table_from file head 0 0 all) now next
  unfolding table_from
  tables_end {now} {next} {id} {size} {from} t e = go (all_short file head all) refl where
    go : (b : Bool) → all_short file head all ≡ b → Tabled b before at (table_from file head 0 0 all) now next
    go false h = tt
    go true h =
        let whole : t.written ≡ table_from file head 0 0 all = sym ((t.rest h).0 ∙ ap (λ (rs : List Row). t.written ++ table_from file head id size rs) e ∙ append-nil t.written) in
        subst (λ (bytes : List ℕ). Capped before at bytes now next) whole t.laid
