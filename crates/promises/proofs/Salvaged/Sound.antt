-- The rows that are kept: good, and with numbers that can be written. Assumes nothing.
use Rattle.numbers.proofs.Prelude.{ℕ, ◌^◌, ◌<◌, mag, List, [], ◌∷◌, ◌≡◌, refl, arith}
use Rattle.numbers.{proofs.Answers.{All, then_all, any}, specs.{Answer.{Answer, found, failed, ◌>>=◌}, Reply.{Reply, given, refused}, Varint.{Numeral, reading_of}}}
use Rattle.header.specs.declared.header.Head.{Head}
use Rattle.salvage.{proofs.moves.Forms.{signed_mag}, specs.Kept.{entry_good, kept_if, kept_of}}
use Rattle.table.{proofs.TableRows.{rows_so}, specs.{Rows.{Rows, row, row_by, start_at, rows_in}, Table.{steps_by, entry_by}, declared.{rows.{Cursor.{Cursor}, Row.{Row}}, table.Bounds.{Bounds}}}}
use Rattle.table.specs.declared.table.Entry.{Entry}
use Rattle.numbers.specs.Answer as A

pub data Every {A : Type 0} (P : A → Type 0) : List A → Type 0 where
  none : Every P []
  one : {a : A} {more : List A} → P a → Every P more → Every P (a ∷ more)

pub record FitsBox (b : Bounds) : Type 0 where
  pub south : mag b.min_lat.0 < 2 ^ 31
  pub west : mag b.min_lon.0 < 2 ^ 31
  pub north : mag b.max_lat.0 < 2 ^ 31
  pub east : mag b.max_lon.0 < 2 ^ 31

pub record Fits (r : Row) : Type 0 where
  pub box : FitsBox r.bounds
  pub id : r.metadata < 2 ^ 32

pub record Sound (file : List ℕ) (head : Head) (r : Row) : Type 0 where
  pub good : entry_good file head r ≡ given tt
  pub fits : Fits r

-- ---- a row that was read
module _ (read : ℕ → Answer Numeral) where
  anyway : {B : Type 0} (Q : B → Type 0) (place : ℕ) (next : Numeral → Answer B) → ((number : Numeral) → All Q (next number)) → All Q (read place >>= next)
  anyway Q place next h = then_all (λ (n : Numeral). Unit {0}) Q (read place) next (any (read place)) (λ number u. h number)

  entry_fits : (place : ℕ) → All (λ (entry : Entry). FitsBox entry.bounds) (entry_by read place)
  unfolding entry_by steps_by
  entry_fits place = let Q : Entry → Type 0 = λ entry. FitsBox entry.bounds in
      anyway Q place _
      λ a. anyway Q a.place _
      λ b. anyway Q b.place _
      λ c. anyway Q c.place _
      λ d. anyway Q d.place _
      λ m. anyway Q m.place _
      λ p. record { south = signed_mag a.value; west = signed_mag b.value; north = signed_mag c.value; east = signed_mag d.value }

  row_fits : (at : Cursor) → All Fits (row_by read at)
  unfolding row_by
  row_fits at = then_all (λ (entry : Entry). FitsBox entry.bounds) Fits (entry_by read at.place) _ (entry_fits at.place) (λ entry h. record { box = h; id = omega arith })

  found_fits : (at : Cursor) (r : Row) → found r ≡ row_by read at → Fits r
  found_fits at r e = go (row_by read at) (row_fits at) e where
    go : (answer : Answer Row) → All Fits answer → found r ≡ answer → Fits r
    go (found q) h e = let same : q ≡ r = cc (e) in rw (← same) h
    go failed h e = let z : ◌≡◌ {A = ℕ} 0 1 = cc in absurd (omega arith)
    go (A.refused n) h e = let z : ◌≡◌ {A = ℕ} 0 1 = cc in absurd (omega arith)

-- ---- all that are kept
module _ (file : List ℕ) (head : Head) where
  keeps : (at : Cursor) (r : Row) (rest : Rows) → found r ≡ row_by (reading_of head.strict file) at → Every (Sound file head) (kept_of file head rest)
      → Every (Sound file head) (kept_of file head (row r rest))
  unfolding kept_of
  keeps at r rest e later = go (entry_good file head r) refl where
    go : (g : Reply (Unit {0})) → entry_good file head r ≡ g → Every (Sound file head) (kept_if g r (kept_of file head rest))
    go (given tt) good = one (record { good = good; fits = found_fits (reading_of head.strict file) at r e }) later
    go (refused why) good = later

  pub kept_sound : Every (Sound file head) (kept_of file head (rows_in file head))
  unfolding rows_in kept_of
  kept_sound =
      rows_so (reading_of head.strict file) (λ (rows : Rows). Every (Sound file head) (kept_of file head rows)) none none keeps (λ at n e. none) head.sections.metadata
      (start_at head.sections.table)
