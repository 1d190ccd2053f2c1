-- Stepping to the least length that fits; there always is one, and its section is the shortest. Assumes nothing.
use Rattle.numbers.proofs.Prelude.{ℕ, zero, suc, ◌+◌, ◌*◌, ◌≤◌, ◌<◌, eqb, length, Bool, true, false, List, [], ◌∷◌, ◌⊎◌, inl, inr, ⊎_elim, ◌≡◌, sym, ap, le_refl, arith}
use Rattle.numbers.{proofs.Spelling.{varint_few}, specs.{Answer.{if◌then◌else◌}, Spelling.{varint_of}}}
use native.Mathlib.Nat.{eq-or-lt_of_le}
use Rattle.layout.proofs.Sizes.{size_rises}
use Rattle.layout.specs.inner.Layout.{word_size, words_size, next, Fits, Least, after}

-- longer records make no word shorter
word_rises : (word a b : ℕ) → a ≤ b → word_size word a ≤ word_size word b
unfolding word_size
word_rises word a b h = go (eqb word 0) where
  go : (none : Bool) → (if none then 0 else length (varint_of (255 + a + word))) ≤ (if none then 0 else length (varint_of (255 + b + word)))
  go true = le_refl 0
  go false = size_rises (255 + a + word) (255 + b + word) (omega arith)

word_few : (word a : ℕ) → word_size word a ≤ 10
unfolding word_size
word_few word a = go (eqb word 0) where
  go : (none : Bool) → (if none then 0 else length (varint_of (255 + a + word))) ≤ 10
  go true = omega arith
  go false = varint_few (255 + a + word)

pub words_rise : (words : List ℕ) (a b : ℕ) → a ≤ b → words_size words a ≤ words_size words b
unfolding words_size
words_rise [] a b h = le_refl 0
words_rise (w ∷ ws) a b h = omega (arith, word_rises w a b h, words_rise ws a b h)

words_few : (words : List ℕ) (a : ℕ) → words_size words a ≤ 10 * length words
unfolding words_size
words_few [] a = le_refl 0
words_few (w ∷ ws) a = omega (arith, word_few w a, words_few ws a)

pub next_rises : (inline : ℕ) (words : List ℕ) (a b : ℕ) → a ≤ b → next inline words a ≤ next inline words b
unfolding next
next_rises inline words a b h = omega (arith, words_rise words a b h)

-- no length is below the bytes that are no words
pub inline_first : (inline : ℕ) (words : List ℕ) (a : ℕ) → inline ≤ next inline words a
unfolding next
inline_first inline words a = omega arith

-- what stays at or below all that fit still does a step later
pub next_under : (inline : ℕ) (words : List ℕ) (a other : ℕ) → Fits inline words other → a ≤ other → next inline words a ≤ other
unfolding Fits
next_under inline words a other fits h = omega (arith, next_rises inline words a other h)

pub inline_under : (inline : ℕ) (words : List ℕ) (other : ℕ) → Fits inline words other → inline ≤ other
unfolding Fits
inline_under inline words other fits = omega (arith, inline_first inline words other)

-- ---- a step adds at least one byte, or the length fits and stays
module _ (inline : ℕ) (words : List ℕ) where
  after_rises : (n : ℕ) → after inline words n ≤ after inline words (suc n)
  unfolding after
  after_rises zero = inline_first inline words inline
  after_rises (suc n) = next_rises inline words _ _ (after_rises n)

  -- each step stays at or below every length that fits
  after_under : (n other : ℕ) → Fits inline words other → after inline words n ≤ other
  unfolding after
  after_under zero other fits = inline_under inline words other fits
  after_under (suc n) other fits = next_under inline words _ other fits (after_under n other fits)

  grows : (n : ℕ) → (after inline words n ≡ after inline words (suc n)) ⊎ (inline + suc n ≤ after inline words (suc n))
      → (after inline words (suc n) ≡ after inline words (suc (suc n))) ⊎ (inline + suc (suc n) ≤ after inline words (suc (suc n)))
  unfolding after
  grows n (inl e) = inl (ap (next inline words) e)
  grows n (inr h) = ⊎_elim (λ e. inl e) (λ g. inr (omega arith)) (eq-or-lt_of_le (after_rises (suc n)))

  stays_or_grows : (n : ℕ) → (after inline words n ≡ after inline words (suc n)) ⊎ (inline + suc n ≤ after inline words (suc n))
  unfolding after
  stays_or_grows zero = ⊎_elim (λ e. inl e) (λ g. inr (omega arith)) (eq-or-lt_of_le (after_rises zero))
  stays_or_grows (suc n) = grows n (stays_or_grows n)

  -- where no step passes this many bytes more, that many steps suffice
  pub reached : (most : ℕ) → ((n : ℕ) → after inline words n ≤ inline + most) → Least inline words (after inline words most)
  unfolding Fits after
  reached most bound = record { fits = ⊎_elim (λ e. sym e) (λ h. absurd (omega (arith, bound (suc most)))) (stays_or_grows most); least = after_under most }

  bound : (n : ℕ) → after inline words n ≤ inline + 10 * length words
  unfolding after next
  bound zero = omega arith
  bound (suc n) = omega (arith, words_few words (after inline words n))

  -- whatever the words, some length fits, so there is a least one, and stepping from the inline bytes reaches it
  pub least_layout : Least inline words (after inline words (10 * length words))
  least_layout = reached (10 * length words) bound

  -- there is only one
  pub least_unique : (a b : ℕ) → Least inline words a → Least inline words b → a ≡ b
  least_unique a b la lb = omega (arith, la.least b lb.fits, lb.least a la.fits)

-- ---- What the least length gives, beside another that fits.
pub record Shorter (words : List ℕ) (records other : ℕ) : Type 0 where
  -- no number that tells a place behind the records is longer
  pub numbers : (more : ℕ) → length (varint_of (records + more)) ≤ length (varint_of (other + more))
  -- nor is any stretch of words: a record's, those between two records
  pub stretches : (some : List ℕ) → words_size some records ≤ words_size some other
  -- and the section, with so many bytes of texts behind the records, is shorter unless the two are the same layout
  pub section : (texts : ℕ) → records + texts ≤ other + texts
  pub strictly : (texts : ℕ) → (records ≡ other → ⊥) → records + texts < other + texts

pub shortest : (inline : ℕ) (words : List ℕ) (records other : ℕ) → Least inline words records → Fits inline words other → Shorter words records other
shortest inline words records other l fits = let under = l.least other fits in record {
  numbers = λ more. size_rises _ _ (omega arith);
  stretches = λ some. words_rise some records other under;
  section = λ texts. omega arith;
  strictly = λ texts differ. omega arith;
}
