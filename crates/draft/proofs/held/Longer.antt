-- The records with one more, where no word changes its length: the least layout is longer by the record. Assumes nothing.
use Rattle.numbers.proofs.Prelude.{ℕ, zero, suc, ◌+◌, ◌*◌, ◌≤◌, ◌<◌, leb-true, leb-false, leb, length, Bool, true, false, List, [], ◌∷◌, ◌++◌, ◌≡◌, refl, arith}
use Rattle.layout.{proofs.Steps.{words_rise, next_rises, inline_first, least_layout, least_unique}, specs.inner.Layout.{words_size, next, Fits, Least, after}}

module _ (inline : ℕ) (words : List ℕ) where
  under : (other : ℕ) → next inline words other ≤ other → (n : ℕ) → after inline words n ≤ other
  unfolding after
  under other h zero = omega (arith, inline_first inline words other, h)
  under other h (suc n) = omega (arith, next_rises inline words (after inline words n) other (under other h n), h)

  -- below the least length that fits every step goes up
  goes_up : (records : ℕ) → Least inline words records → (other : ℕ) → next inline words other ≤ other → records ≤ other
  goes_up records l other h = omega (arith, least_unique inline words records (after inline words (10 * length words)) l (least_layout inline words), under other h (10 * length words))

words_more : (words new : List ℕ) (a : ℕ) → words_size (words ++ new) a ≡ words_size words a + words_size new a
unfolding words_size
words_more [] new a = omega arith
words_more (w ∷ words) new a = omega (arith, words_more words new a)

module _ (inline more : ℕ) (words new : List ℕ) (records by : ℕ) (l : Least inline words records) (size : by ≡ more + words_size new records)
    (steady : words_size (words ++ new) (records + by) ≡ words_size (words ++ new) records) where
  longer_fits : next (inline + more) (words ++ new) (records + by) ≡ records + by
  unfolding next Fits
  longer_fits = omega (arith, steady, words_more words new records, l.fits, size)

  not_less : (other : ℕ) → next (inline + more) (words ++ new) other ≡ other → other < records + by → ⊥
  unfolding next
  not_less other fits h = go (leb records other) refl where
    go : (t : Bool) → leb records other ≡ t → ⊥
    go true e = let k = leb-true records other e in
        omega (arith, fits, h, k, words_rise (words ++ new) records other k, words_rise (words ++ new) other (records + by) (omega (arith, h)), steady, longer_fits)
    go false e = omega (arith, goes_up inline words records l other (omega (arith, fits, words_more words new other)), leb-false records other e)

  pub longer : Least (inline + more) (words ++ new) (records + by)
  unfolding Fits
  longer = record { fits = longer_fits; least = λ other fits. go other fits (leb (records + by) other) refl } where
    go : (other : ℕ) → next (inline + more) (words ++ new) other ≡ other → (t : Bool) → leb (records + by) other ≡ t → records + by ≤ other
    go other fits true e = leb-true (records + by) other e
    go other fits false e = absurd (not_less other fits (leb-false (records + by) other e))
