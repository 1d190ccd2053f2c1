-- What is read strictly beside the plain reading, by where it ends: the same, which the file holds, or nothing; and then the plain reading has nothing, or what
-- ends behind the file. Assumes nothing.
use Rattle.numbers.proofs.{Answers.{All, then_all}, Laws.{Read, forward_read}, Prelude.{ℕ, ◌≤◌, ◌<◌, leb-true, leb-false, length, Bool, true, false, List, ◌≡◌, refl, sym, arith}, Tests.{differ}}
use Rattle.numbers.specs.{Answer.{Answer, found, failed, refused, if◌then◌else◌, ◌>>=◌}, Varint.{Numeral, forward_at, is_complete, whole_of, reading_of, nowhere, end_of}}
use Rattle.table.specs.{Rest.{five_by}, Table.{steps_by, entry_by}, declared.table.Entry.{Entry}}

pub data Beside (file : List ℕ) {A : Type 0} (end : A → ℕ) : Answer A → Answer A → Type 0 where
  held : {a : A} → end a ≤ length file → Beside file end (found a) (found a)
  gone : {n : ℕ} {plain : Answer A} → All (λ (a : A). length file < end a) plain → Beside file end (refused n) plain
  none : Beside file end failed failed

module _ (file : List ℕ) where
  abbrev placed : Numeral → ℕ
  placed number = number.place

  -- one number
  number_beside : (place : ℕ) → Beside file placed (reading_of true file place) (forward_at file place)
  unfolding reading_of whole_of
  number_beside place = go (forward_at file place) where
    chosen : (number : Numeral) (test : Bool) → is_complete file number ≡ test → Beside file placed (if test then found number else refused 31) (found number)
    chosen number true e = held (leb-true _ _ e)
    chosen number false e = gone (leb-false _ _ e)

    go : (answer : Answer Numeral) → Beside file placed (answer >>= λ number. if is_complete file number then found number else refused 31) answer
    go (found number) = chosen number (is_complete file number) refl
    go failed = none
    go (refused n) = gone tt

  -- there is no number behind the file
  past : {B : Type 0} (Q : B → Type 0) (place : ℕ) (next : Numeral → Answer B) → length file < place → All Q (forward_at file place >>= next)
  past Q place next h =
      then_all (λ (number : Numeral). Read file place number.value number.place) Q (forward_at file place) next (forward_read file place) (λ number r. absurd (omega (arith, h, r.inside)))

  past_number : (Q : Numeral → Type 0) (place : ℕ) → length file < place → All Q (forward_at file place)
  past_number Q place h = go (forward_at file place) (forward_read file place) where
    go : (answer : Answer Numeral) → All (λ (number : Numeral). Read file place number.value number.place) answer → All Q answer
    go (found number) r = absurd (omega (arith, h, r.inside))
    go failed r = tt
    go (refused n) r = tt

  -- one after the other
  then_beside : {B : Type 0} {end : B → ℕ} {strict plain : Answer Numeral} {k k' : Numeral → Answer B} → Beside file placed strict plain
      → ((number : Numeral) → number.place ≤ length file → Beside file end (k number) (k' number))
      → ((number : Numeral) → length file < number.place → All (λ (b : B). length file < end b) (k' number)) → Beside file end (strict >>= k) (plain >>= k')
  then_beside (held {a = number} h) go behind = go number h
  then_beside (gone {plain = found number} h) go behind = gone (behind number h)
  then_beside (gone {plain = failed} h) go behind = gone tt
  then_beside (gone {plain = refused n} h) go behind = gone tt
  then_beside none go behind = none

  -- five numbers
  five_beside : (place : ℕ) → Beside file placed (five_by (reading_of true file) place) (five_by (forward_at file) place)
  unfolding five_by
  five_beside place = let Q : Numeral → Type 0 = λ number. length file < number.place in
      then_beside (number_beside place) (λ b _. then_beside (number_beside b.place) (λ c _. then_beside (number_beside c.place) (λ d _. then_beside
      (number_beside d.place) (λ e _. number_beside e.place) (λ e h. past_number Q e.place h)) (λ d h. past Q d.place _ h)) (λ c h. past Q c.place _ h)) (λ b h. past Q b.place _ h)

  -- an entry
  pub entry_beside : (place : ℕ) → Beside file (λ (entry : Entry). entry.next) (entry_by (reading_of true file) place) (entry_by (forward_at file) place)
  unfolding entry_by steps_by
  entry_beside place = let Q : Entry → Type 0 = λ entry. length file < entry.next in
      then_beside (number_beside place) (λ a _. then_beside (number_beside a.place) (λ b _. then_beside (number_beside b.place) (λ c _. then_beside
      (number_beside c.place) (λ d _. then_beside (number_beside d.place) (λ metadata _. then_beside (number_beside metadata.place) (λ polygon h. held h)
      (λ polygon h. h)) (λ metadata h. past Q metadata.place _ h)) (λ d h. past Q d.place _ h)) (λ c h. past Q c.place _ h)) (λ b h. past Q b.place _ h)) (λ a h. past Q a.place _ h)

  -- an entry that either reading finds is the plain one's
  pub entry_plain : (strict : Bool) (place : ℕ) {entry : Entry} → entry_by (reading_of strict file) place ≡ found entry → entry_by (forward_at file) place ≡ found entry
  unfolding reading_of
  entry_plain false place e = e
  entry_plain true place {entry} e = go (entry_beside place) e where
    go : {strict plain : Answer Entry} → Beside file (λ (entry : Entry). entry.next) strict plain → strict ≡ found entry → plain ≡ found entry
    go (held h) e = e
    go (gone h) e = let z : ◌≡◌ {A = ℕ} 0 1 = cc in absurd (omega arith)
    go none e = let z : ◌≡◌ {A = ℕ} 0 1 = cc in absurd (omega arith)

  -- ---- where the fifth of five numbers ends, in either reading
  module _ (place : ℕ) {end : ℕ} (is : end ≡ end_of (five_by (forward_at file) place)) where
    pub five_cut : (strict : Bool) → strict ≡ true → length file < end → nowhere ≡ end_of (five_by (reading_of strict file) place)
    five_cut false e h = differ e
    five_cut true e h = go (five_beside place) is where
      go : {strict plain : Answer Numeral} → Beside file placed strict plain → end ≡ end_of plain → nowhere ≡ end_of strict
      go (held {a = number} k) is = absurd (omega (arith, k, is, h))
      go (gone k) is = refl
      go none is = refl

    pub five_held : (strict : Bool) → strict ≡ true → end ≤ length file → end ≡ end_of (five_by (reading_of strict file) place)
    five_held false e h = differ e
    five_held true e h = go (five_beside place) is where
      go : {strict plain : Answer Numeral} → Beside file placed strict plain → end ≡ end_of plain → end ≡ end_of strict
      go (held k) is = is
      go (gone {plain = found number} k) is = absurd (omega (arith, k, is, h))
      go (gone {plain = failed} k) is = is
      go (gone {plain = refused n} k) is = is
      go none is = is

    pub five_plain : (strict : Bool) → strict ≡ false → end ≡ end_of (five_by (reading_of strict file) place)
    unfolding reading_of
    five_plain true e = differ (sym e)
    five_plain false e = is
