-- The rest of a table behind an early stop: entry by entry, by its lower latitude and its end. Assumes nothing.
use Rattle.numbers.proofs.Prelude.{ℕ, zero, suc, ◌-◌, ◌≤◌, ◌<◌, lt-ltb, le-ltb, ltb, length, lt_z, Bool, true, false, List, ◌≡◌, refl, sym, ap, ◌∙◌, arith}
use Rattle.numbers.{proofs.{Answers.{All, other}, Laws.{end_then, stops}, Readings.{Grows, reading_grows}}, specs.Answer.{Answer, found, failed, refused, if◌then◌else◌, ◌>>=◌}}
use Rattle.numbers.specs.{Point.{signed_of}, Varint.{Numeral, told, nowhere, end_of, forward_at, reading_of}, declared.varint.Stop.{Stop, TheVariants.{Failed, TooLong, Incomplete, OutOfRange, PastEnd}}}
use Rattle.std.specs.Prelude.{Result, Err}
use Rattle.table.proofs.table.Bounding.{then_then}
use Rattle.border.specs.declared.place.Point.{Point}
use Rattle.table.proofs.TableRows.{rows_step, entry_past}
use Rattle.table.specs.{Rest.{rest_mark, five_by, held_by, is_held}, Rows.{Rows, row, row_of, after, start_at, table_end, rows_then, row_by, rows_within, rows_from}}
use Rattle.table.specs.{Table.{steps_by, entry_by, is_above, holds}, declared.{rows.{Cursor.{Cursor}, Row.{Row}}, table.{Bounds.{Bounds}, Entry.{Entry}}}}
use Rattle.verdict.proofs.Gliding.{less_le}

-- ---- a box above the location does not hold it
pub not_held : (bounds : Bounds) (fix : Point) → is_above bounds fix ≡ true → holds bounds fix ≡ false
not_held bounds fix e = rw (less_le fix.lat.0 bounds.min_lat.0 e).1

-- ---- rows that a test lets through
pub either_marked : (end : ℕ) (fix : Point) (test : Bool) (rows rows' : Rows) → rest_mark end fix rows ≡ rest_mark end fix rows'
    → rest_mark end fix (if test then rows else table_end) ≡ rest_mark end fix (if test then rows' else table_end)
either_marked end fix true rows rows' e = e
either_marked end fix false rows rows' e = refl

-- ---- the sums before a row make no difference to the mark
module _ (read : ℕ → Answer Numeral) (end : ℕ) (fix : Point) where
  -- what an entry says behind the stop, and what is then left to the rows after it
  abbrev behind : (ℕ → ℕ) → Answer Entry → ℕ
  behind rest (found entry) = if ltb end entry.next then 2 else (if holds entry.bounds fix then 4 else rest entry.next)
  behind rest failed = 2
  behind rest (refused n) = 2

  within_same : (n : ℕ) (at : Cursor) → rest_mark end fix (rows_within read n end at) ≡ rest_mark end fix (rows_within read n end (start_at at.place))
  unfolding rows_within rows_then row_by rest_mark
  within_same zero at = refl
  within_same (suc n) at = either_marked end fix (ltb at.place end) _ _ (by_entry (entry_by read at.place) (within_same n)) where
    by_entry : (answer : Answer Entry) → ((at : Cursor) → rest_mark end fix (rows_within read n end at) ≡ rest_mark end fix (rows_within read n end (start_at at.place)))
        → rest_mark end fix (rows_then (answer >>= λ entry. found (row_of at entry)) (rows_within read n end))
        ≡ rest_mark end fix (rows_then (answer >>= λ entry. found (row_of (start_at at.place) entry)) (rows_within read n end))
    by_entry (found entry) rest =
        ap (λ (m : ℕ). if ltb end entry.next then 2 else (if holds entry.bounds fix then 4 else m)) (rest (after (row_of at entry)) ∙ sym (rest (after (row_of (start_at at.place) entry))))
    by_entry failed rest = refl
    by_entry (refused k) rest = refl

  pub rest_same : (at : Cursor) → rest_mark end fix (rows_from read end at) ≡ rest_mark end fix (rows_from read end (start_at at.place))
  unfolding rows_from
  rest_same at = within_same (suc (end - at.place)) at

  -- the mark of the rows from a place on
  abbrev pub rest_from : ℕ → ℕ
  rest_from place = rest_mark end fix (rows_from read end (start_at place))

  -- the mark of a search that stopped at a row above the location, by what is told from the row's end on
  pub stopped_mark : (r : Row) {mark : ℕ} → is_above r.bounds fix ≡ true → mark ≡ (if ltb end r.next then 2 else rest_from r.next)
      → mark ≡ rest_mark end fix (row r (rows_from read end (after r)))
  unfolding rest_mark
  stopped_mark r up m = m ∙ ap (λ (k : ℕ). if ltb end r.next then 2 else k) (sym (rest_same (after r)) ∙ other (not_held r.bounds fix up) 4 (rest_mark end fix (rows_from read end (after r))))

  module _ (grows : Grows read) (place : ℕ) where
    pub at_end : end ≤ place → rest_from place ≡ 1
    unfolding rest_mark
    at_end h = rw (rows_step read grows end (start_at place), le-ltb _ _ h)

    rest_step : place < end → rest_from place ≡ behind rest_from (entry_by read place)
    unfolding rows_then row_by rest_mark
    rest_step h = rw (rows_step read grows end (start_at place), lt-ltb _ _ h) (by_entry (entry_by read place)) where
      by_entry : (answer : Answer Entry) → rest_mark end fix (rows_then (answer >>= λ entry. found (row_of (start_at place) entry)) (rows_from read end)) ≡ behind rest_from answer
      by_entry (found entry) = ap (λ (m : ℕ). if ltb end entry.next then 2 else (if holds entry.bounds fix then 4 else m)) (rest_same (after (row_of (start_at place) entry)))
      by_entry failed = refl
      by_entry (refused k) = refl

-- ---- five numbers one after the other, by where each ends
module _ (file : List ℕ) (short : length file ≤ nowhere) (place : ℕ) where
  next : Numeral → Answer Numeral
  next number = forward_at file number.place

  after_end : {end : ℕ} (m : Answer Numeral) → end ≡ end_of m → end_of (forward_at file end) ≡ end_of (m >>= next)
  unfolding next
  after_end m e = ap (λ (n : ℕ). end_of (forward_at file n)) e ∙ end_then file short m

  pub five_ends : {p₁ p₂ p₃ p₄ p₅ : ℕ} → p₁ ≡ end_of (forward_at file place) → p₂ ≡ end_of (forward_at file p₁) → p₃ ≡ end_of (forward_at file p₂)
      → p₄ ≡ end_of (forward_at file p₃) → p₅ ≡ end_of (forward_at file p₄) → p₅ ≡ end_of (five_by (forward_at file) place)
  unfolding five_by next
  five_ends e₁ e₂ e₃ e₄ e₅ = let m = forward_at file place in let two : _ ≡ end_of (m >>= next) = e₂ ∙ after_end m e₁ in
      let three : _ ≡ end_of (m >>= λ b. next b >>= next) = e₃ ∙ after_end (m >>= next) two ∙ ap end_of (then_then m next next) in
      let four : _ ≡ end_of (m >>= λ b. (next b >>= λ c. next c >>= next)) = e₄ ∙ after_end (m >>= λ b. next b >>= next) three
      ∙ ap end_of (then_then m (λ b. next b >>= next) next ∙ (λ i. m >>= λ b. then_then (next b) next next i)) in
      e₅ ∙ after_end (m >>= λ b. (next b >>= λ c. next c >>= next)) four ∙ ap end_of (then_then m (λ b. (next b >>= λ c. next c >>= next)) next
      ∙ (λ i. m >>= λ b. then_then (next b) (λ c. next c >>= next) next i) ∙ (λ i. m >>= λ b. (next b >>= λ c. then_then (next c) next next i)))

-- ---- what the code knows of an entry
-- something follows what was found, if it was
each : {A B : Type 0} (Q : B → Type 0) (answer : Answer A) (next : A → Answer B) → ((a : A) → answer ≡ found a → All Q (next a)) → All Q (answer >>= next)
each Q (found a) next h = h a refl
each Q failed next h = tt
each Q (refused n) next h = tt

-- where an entry ends; nowhere if it can't be read
abbrev entry_end : Answer Entry → ℕ
entry_end (found entry) = entry.next
entry_end failed = nowhere
entry_end (refused n) = nowhere

ends_alike : (answer : Answer Numeral) (k : Numeral → Answer Entry) (l : Numeral → Answer Numeral) → ((number : Numeral) → entry_end (k number) ≡ end_of (l number))
    → entry_end (answer >>= k) ≡ end_of (answer >>= l)
ends_alike (found number) k l h = h number
ends_alike failed k l h = refl
ends_alike (refused n) k l h = refl

module _ (read : ℕ → Answer Numeral) (fix : Point) (place : ℕ) (first : Numeral) (is : read place ≡ found first) where
  -- it ends where the fifth number behind its first one does
  end_of_five : entry_end (entry_by read place) ≡ end_of (five_by read first.place)
  unfolding entry_by steps_by five_by
  end_of_five =
      rw is (ends_alike (read first.place) _ _ λ b. ends_alike (read b.place) _ _ λ c. ends_alike (read c.place) _ _ λ d. ends_alike (read d.place)
      _ _ λ m. last (read m.place) _ m.value) where
        last : (answer : Answer Numeral) (bounds : Bounds) (metadata : ℕ)
            → entry_end (answer >>= λ p. found (record { bounds = bounds; metadata = metadata; polygon = p.value; next = p.place })) ≡ end_of answer
        last (found p) bounds metadata = refl
        last failed bounds metadata = refl
        last (refused n) bounds metadata = refl

  -- its lower latitude is the first number's, and its box holds the location where the code says so
  pub record Said (entry : Entry) : Type 0 where
    pub lowest : entry.bounds.min_lat.0 ≡ signed_of first.value
    pub held : is_held (held_by read place fix) ≡ holds entry.bounds fix

  entry_said : All Said (entry_by read place)
  unfolding entry_by steps_by held_by
  entry_said =
      each Said (read place) _ λ a ea. each Said (read a.place) _ λ b eb. each Said (read b.place) _ λ c ec. each Said (read c.place) _ λ d ed.
      each Said (read d.place) _ λ m em. each Said (read m.place) _ λ p ep. record { lowest = ap (λ (n : Numeral). signed_of n.value) (same ea); held = rw (ea, eb, ec, ed) } where
        same : {a : Numeral} → read place ≡ found a → a ≡ first
        same e = let f : found _ ≡ found first = sym e ∙ is in cc

-- a box that is not there
pub none_held : {A : Type 0} {answer : Answer A} (a : Result A Stop) → told a ≡ answer → {why : Stop} → a ≡ Err why → (k : A → Answer Bool) → false ≡ is_held (answer >>= k)
none_held a e {why} is k = none why ∙ ap is_held (stops a e is k) where
  none : (why : Stop) → false ≡ is_held (told {A = Bool} (Err why))
  none Failed = refl
  none TooLong = refl
  none Incomplete = refl
  none OutOfRange = refl
  none PastEnd = refl

module _ (strict : Bool) (file : List ℕ) (end : ℕ) (fix : Point) (place : ℕ) (more : place < end) where
  abbrev read : ℕ → Answer Numeral
  read = reading_of strict file

  here_is : {mark : ℕ} → behind read end fix (rest_from read end fix) (entry_by read place) ≡ mark → rest_from read end fix place ≡ mark
  here_is e = rest_step read end fix (reading_grows strict file) place more ∙ e

  -- an entry above the location that ends inside the table makes no difference
  module _ {entry : Entry} (is : found entry ≡ entry_by read place) where
    pub skipped_later : place < entry.next
    skipped_later = rw (sym is) at (entry_past read (reading_grows strict file) place)

    pub skipped : is_above entry.bounds fix ≡ true → entry.next ≤ end → rest_from read end fix place ≡ rest_from read end fix entry.next
    skipped up within = here_is (rw (sym is, le-ltb end entry.next within, not_held entry.bounds fix up) refl)

  pub unread : (a : Result Numeral Stop) → told a ≡ read place → {why : Stop} → a ≡ Err why → rest_from read end fix place ≡ 2
  unfolding entry_by
  unread a e {why} is = here_is (sym (ap (behind read end fix (rest_from read end fix)) (stops a e is _)) ∙ none why) where
    none : (why : Stop) → behind read end fix (rest_from read end fix) (told {A = Entry} (Err why)) ≡ 2
    none Failed = refl
    none TooLong = refl
    none Incomplete = refl
    none OutOfRange = refl
    none PastEnd = refl

  module _ {first : Numeral} {next : ℕ} (is : found first ≡ read place) (n : next ≡ end_of (five_by read first.place)) where
    pub past : end < next → rest_from read end fix place ≡ 2
    past h = here_is (go (entry_by read place) (end_of_five read fix place first (sym is))) where
      go : (answer : Answer Entry) → entry_end answer ≡ end_of (five_by read first.place) → behind read end fix (rest_from read end fix) answer ≡ 2
      go (found entry) e = simp (lt-ltb end entry.next (omega (arith, e, n)))
      go failed e = refl
      go (refused k) e = refl

    module _ (small : end < nowhere) (within : next ≤ end) where
      -- the entry that is there
      record Here : Type 0 where
        entry : Entry
        entry_is : entry_by read place ≡ found entry
        next_is : entry.next ≡ next
        said : Said read fix place first (sym is) entry
        later : place < next

      here : Here
      here = go (entry_by read place) refl (end_of_five read fix place first (sym is)) (entry_said read fix place first (sym is)) (entry_past read (reading_grows strict file) place) where
        go : (answer : Answer Entry) → entry_by read place ≡ answer → entry_end answer ≡ end_of (five_by read first.place) → All (Said read fix place first (sym is)) answer
            → All (λ (entry : Entry). place < entry.next) answer → Here
        go (found entry) e ends said later = record { entry = entry; entry_is = e; next_is = ends ∙ sym n; said = said; later = rw (sym (ends ∙ sym n)) later }
        go failed e ends said later = absurd (omega (arith, ends, n))
        go (refused k) e ends said later = absurd (omega (arith, ends, n))

      pub less : end - next < end - place
      less = omega (arith, here.later)

      on : holds here.entry.bounds fix ≡ false → rest_from read end fix place ≡ rest_from read end fix next
      on e = here_is (rw (here.entry_is, here.next_is, le-ltb end next within, e) refl)

      pub above : lt_z fix.lat.0 (signed_of first.value) ≡ true → rest_from read end fix place ≡ rest_from read end fix next
      above e = on (not_held here.entry.bounds fix (ap (lt_z fix.lat.0) here.said.lowest ∙ e))

      pub missed : is_held (held_by read place fix) ≡ false → rest_from read end fix place ≡ rest_from read end fix next
      missed e = on (sym here.said.held ∙ e)

      pub met : is_held (held_by read place fix) ≡ true → rest_from read end fix place ≡ 4
      met e = here_is (rw (here.entry_is, here.next_is, le-ltb end next within, ← here.said.held, e) refl)
