-- The new file from its parts, whose sizes were counted with a cap. Assumes nothing.
use Rattle.numbers.proofs.Prelude.{ℕ, ◌+◌, ◌≤◌, ◌<◌, ltb-true, ltb-false, ltb, length, take, length-append, Bool, true, false, ◌&&◌, List, [], ◌∷◌, ◌++◌, append_assoc, flat_map, ◌≡◌, refl}
use Rattle.numbers.{proofs.{Prelude.{sym, ap, ◌∙◌, arith}, Tests.{differ}}, specs.{Reply.{Reply, given, refused}, Spelling.{varint_of}, declared.refusal.Refusal.{Refusal}}}
use Rattle.header.specs.declared.header.Head.{Head}
use Rattle.salvage.proofs.{entries.Tabling.{sized_of}, moves.Capping.{capped_then, capped_as, capped_form}}
use Rattle.salvage.specs.{File.{head_texts, metadata_of, border_bytes, assembled, new_file, Sized, all_short, Tabled}, Kept.{kept_of}, inner.Moves.Laid.{cap, Capped}}
use Rattle.salvage.specs.inner.Rescue.{Texts.{behind, Inlined}, Whole.{new_table, new_data, sizes_of, SizedIf, Sizes, whole_of}}
use Rattle.table.specs.{Rows.{rows_in}, declared.rows.Row.{Row}}

-- ---- a border that reaches the cap makes the data section reach it
module _ (file : List ℕ) (head : Head) where
  long_data : (rows : List Row) → all_short file head rows ≡ false → cap ≤ length (flat_map (border_bytes file head) rows)
  unfolding all_short flat_map
  long_data [] e = differ (sym e)
  long_data (r ∷ rows) e = go (ltb (length (border_bytes file head r)) cap) refl e (long_data rows) where
    go : (t : Bool) → ltb (length (border_bytes file head r)) cap ≡ t → (t && all_short file head rows) ≡ false
        → (all_short file head rows ≡ false → cap ≤ length (flat_map (border_bytes file head) rows)) → cap ≤ length (border_bytes file head r ++ flat_map (border_bytes file head) rows)
    go true is all rest = omega (arith, length-append (border_bytes file head r) (flat_map (border_bytes file head) rows), rest all)
    go false is all rest = omega (arith, length-append (border_bytes file head r) (flat_map (border_bytes file head) rows), ltb-false (length (border_bytes file head r)) cap is)

  abbrev kept : List Row
  kept = kept_of file head (rows_in file head)

  pub table_sized : (before after : List ℕ) (size : ℕ) → Tabled (all_short file head kept) before 0 (new_table file head) after size → SizedIf (new_data file head) (new_table file head) size
  table_sized before after size t short = go (all_short file head kept) refl t where
    go : (b : Bool) → all_short file head kept ≡ b → Tabled b before 0 (new_table file head) after size → Sized (new_table file head) size
    go true is c = sized_of c
    go false is c = absurd (omega (arith, long_data kept is, short))

  -- the three sections
  pub sections_laid : (before : List ℕ) (at : ℕ) {one two after : List ℕ} {p q next : ℕ} → Tabled (all_short file head kept) before at (new_table file head) one p →
      Capped one p (metadata_of file head) two q → Capped two q (new_data file head) after next
      → length one ≡ length before → Capped before at (new_table file head ++ (metadata_of file head ++ new_data file head)) after next
  sections_laid before at {one} {two} {after} {p} {q} {next} t m d same = go (all_short file head kept) refl t where
    sum : length (new_table file head ++ (metadata_of file head ++ new_data file head)) ≡ length (new_table file head) + (length (metadata_of file head) + length (new_data file head))
    sum = length-append (new_table file head) (metadata_of file head ++ new_data file head)
        ∙ ap (λ (n : ℕ). length (new_table file head) + n) (length-append (metadata_of file head) (new_data file head))

    go : (b : Bool) → all_short file head kept ≡ b → Tabled b before at (new_table file head) one p → Capped before at (new_table file head ++ (metadata_of file head ++ new_data file head)) after next
    go true is c = capped_then (new_table file head) (metadata_of file head ++ new_data file head) c (capped_then (metadata_of file head) (new_data file head) m d)
    go false is c =
        record {
          fits = λ l. absurd (omega (arith, long_data kept is, (d.fits l).place_after));
          over = λ l. omega (arith, long_data kept is, sum);
          size = d.size ∙ m.size ∙ same;
        }

-- ---- the three sizes
exact : {bytes : List ℕ} {size : ℕ} → Sized bytes size → length bytes < cap → size ≡ length bytes
exact {bytes} {size} s short = go (ltb size cap) refl where
  go : (t : Bool) → ltb size cap ≡ t → size ≡ length bytes
  go true is = s.exact (ltb-true size cap is)
  go false is = absurd (omega (arith, s.over (ltb-false size cap is), short))

pub sizes_laid : {table metadata bytes before one two after : List ℕ} {at p q next a b c : ℕ} → SizedIf bytes table a → Sized metadata b → Sized bytes c
    → Capped before at (varint_of a) one p → Capped one p (varint_of b) two q → Capped two q (varint_of c) after next → Sizes table metadata bytes before at after next
sizes_laid {table} {metadata} {bytes} sa sb sc x y z =
    record {
      right = λ short middle long. capped_then (varint_of (length table)) (varint_of (length metadata) ++ varint_of (length bytes)) (capped_form (exact (sa long) short) x)
          (capped_then (varint_of (length metadata)) (varint_of (length bytes)) (capped_form (exact sb middle) y) (capped_form (exact sc long) z));
      size = z.size ∙ y.size ∙ x.size;
    }

-- ---- all of it
module _ (front table metadata bytes : List ℕ) where
  abbrev sections : List ℕ
  sections = table ++ (metadata ++ bytes)

  sum : length sections ≡ length table + (length metadata + length bytes)
  sum = length-append table (metadata ++ bytes) ∙ ap (λ (n : ℕ). length table + n) (length-append metadata bytes)

  -- as the definition has them one after the other
  parts : front ++ (sizes_of table metadata bytes ++ sections) ≡ assembled front table metadata bytes
  unfolding assembled
  parts =
      ap (λ (xs : List ℕ). front ++ xs) (append_assoc (varint_of (length table)) (varint_of (length metadata) ++ varint_of (length bytes)) sections
      ∙ ap (λ (xs : List ℕ). varint_of (length table) ++ xs) (append_assoc (varint_of (length metadata)) (varint_of (length bytes)) sections))

  long : cap ≤ length sections → cap ≤ length (assembled front table metadata bytes)
  long h = omega (arith, ap length (sym parts), length-append front (sizes_of table metadata bytes ++ sections), length-append (sizes_of table metadata bytes) sections)

  pub whole_laid : {before one two after : List ℕ} {p q next : ℕ} → Capped before 0 front one p → Sizes table metadata bytes one p two q → Capped two q sections after next →
      Capped before 0 (assembled front table metadata bytes) after next
  whole_laid {before} {one} {two} {after} {p} {q} {next} h s c = go (ltb (length table) cap) (ltb (length metadata) cap) (ltb (length bytes) cap) refl refl refl where
    past : cap ≤ length sections → Capped before 0 (assembled front table metadata bytes) after next
    past l = record { fits = λ n. absurd (omega (arith, (c.fits n).place_after, l)); over = λ n. omega (arith, long l); size = c.size ∙ s.size ∙ h.size }

    go : (x y z : Bool) → ltb (length table) cap ≡ x → ltb (length metadata) cap ≡ y → ltb (length bytes) cap ≡ z → Capped before 0 (assembled front table metadata bytes) after next
    go true true true x y z =
        capped_as parts (capped_then front (sizes_of table metadata bytes ++ sections) h
        (capped_then (sizes_of table metadata bytes) sections (s.right (ltb-true (length table) cap x) (ltb-true (length metadata) cap y) (ltb-true (length bytes) cap z)) c))
    go false u v x y z = past (omega (arith, sum, ltb-false (length table) cap x))
    go true false v x y z = past (omega (arith, sum, ltb-false (length metadata) cap y))
    go true true false x y z = past (omega (arith, sum, ltb-false (length bytes) cap z))

module _ (file : List ℕ) (head : Head) where
  pub whole_refused : (r : Reply (List ℕ)) → r ≡ head_texts file head → (before one after : List ℕ) {why : Refusal} {reply : Reply ℕ} → reply ≡ refused why
      → Inlined (behind (take 7 file) r) before 0 one (refused why) → Inlined (whole_of file head) before 0 after reply
  whole_refused (given texts) e before one after is i = absurd i
  whole_refused (refused told) e before one after is i = rw (← e, is) i

  pub whole_given : (r : Reply (List ℕ)) → r ≡ head_texts file head → (before : List ℕ) {one two after : List ℕ} {p q next : ℕ} → Inlined (behind (take 7 file) r) before 0 one (given p)
      → Sizes (new_table file head) (metadata_of file head) (new_data file head) one p two q → Capped two q (new_table file head ++ (metadata_of file head ++ new_data file head)) after next
      → Inlined (whole_of file head) before 0 after (given next)
  unfolding new_file
  whole_given (given texts) e before i s c = rw (← e) (whole_laid (take 7 file ++ texts) (new_table file head) (metadata_of file head) (new_data file head) i s c)
  whole_given (refused why) e before i s c = absurd i
