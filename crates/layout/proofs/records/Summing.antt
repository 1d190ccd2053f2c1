-- Summing the words one by one: what is summed and what is still to come are all of them. Assumes nothing.
use Rattle.numbers.{proofs.Prelude.{ℕ, ◌+◌, ◌*◌, ◌^◌, ◌≤◌, ◌<◌, ne_eqb, length, drop, get_or, drop-cons, drop-length, List, ◌≡◌, ap, subst, add-one, arith}, specs.Spelling.{varint_of}}
use Rattle.layout.specs.inner.{Answers.{WordSize, WordsSize}, Layout.{word_size, words_size}}
use Rattle.layout.proofs.Sizes.{size_35}

-- the loop's invariant, at the word i
pub record Summed (words : List ℕ) (records sum i : ℕ) : Type 0 where
  pub place : i ≤ length words
  pub all : sum + words_size (drop i words) records ≡ words_size words records
  pub most : sum ≤ 5 * i

pub starts : (words : List ℕ) (records : ℕ) → Summed words records 0 0
starts words records = record { place = omega arith; all = omega arith; most = omega arith }

pub goes_on : (words : List ℕ) (records sum i size : ℕ) → Summed words records sum i → i < length words → WordSize (get_or words i 0) records size → Summed words records (sum + size) (i + 1)
unfolding words_size
goes_on words records sum i size s h w = let cut = ap (λ l. words_size l records) (drop-cons words i 0 h) in
    record { place = omega arith; all = rw add-one (omega (arith, cut, s.all, w.is)); most = omega (arith, s.most, w.most) }

pub ends : (words : List ℕ) (records sum i : ℕ) → Summed words records sum i → length words ≤ i → WordsSize words records sum
unfolding words_size
ends words records sum i s h = let e : i ≡ length words = omega (arith, s.place) in let none = ap (λ l. words_size l records) (drop-length words) in
    let all = subst (λ (n : ℕ). sum + words_size (drop n words) records ≡ words_size words records) e s.all in
    record { sum = omega (arith, all, none); most = omega (arith, s.most) }

-- ---- one word
pub none_size : (word records : ℕ) → word ≡ 0 → WordSize word records 0
unfolding word_size
none_size word records e = record { is = rw e; most = omega arith }

pub some_size : (word records size : ℕ) → (word ≡ 0 → ⊥) → records < 2 ^ 32 → word < 2 ^ 32 → size ≡ length (varint_of (255 + records + word)) → WordSize word records size
unfolding word_size
some_size word records size other h k e = record { is = rw (ne_eqb word 0 other) e; most = omega (arith, e, size_35 (255 + records + word) (omega arith)) }
