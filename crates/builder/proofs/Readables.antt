-- Texts that are tested one after another. Assumes nothing.
use Rattle.numbers.proofs.Prelude.{ℕ, suc, ◌+◌, ◌-◌, ◌≤◌, ◌<◌, le-leb, lt-leb, leb, length, take, drop, get_or, drop-cons, drop-length, drop-drop, Bool, true, false, ◌&&◌}
use Rattle.numbers.proofs.Prelude.{List, [], ◌∷◌, ◌≡◌, sym, ap, ◌∙◌, add-one, arith}
use Rattle.writer.specs.Writer.{every}
use Rattle.builder.specs.{File.{is_text, are_texts}, Yards.{cut_by, sum_of}}
use Rattle.builder.proofs.Sums.{sum_next}
use mathlib.Core.Bool.{and-false}

-- what is left to test: the texts from the ith on, whose bytes begin at a place
abbrev left : List ℕ → List ℕ → ℕ → ℕ → Bool
left lengths texts at i = leb (at + sum_of (drop i lengths)) (length texts) && every is_text (cut_by (drop i lengths) (drop at texts))

pub record Testing (lengths texts : List ℕ) (at i : ℕ) : Type 0 where
  pub index : i ≤ length lengths
  pub inside : at ≤ length texts
  pub same : left lengths texts at i ≡ are_texts lengths texts

pub test_starts : (lengths texts : List ℕ) → Testing lengths texts 0 0
unfolding are_texts
test_starts lengths texts = let e : 0 + sum_of lengths ≡ sum_of lengths = omega arith in
    record { index = omega arith; inside = omega arith; same = ap (λ (n : ℕ). leb n (length texts) && every is_text (cut_by lengths texts)) e }

module _ (lengths texts : List ℕ) (at i : ℕ) (t : Testing lengths texts at i) (more : i < length lengths) where
  rest : drop i lengths ≡ get_or lengths i 0 ∷ drop (suc i) lengths
  rest = drop-cons lengths i 0 more

  cuts : every is_text (cut_by (drop i lengths) (drop at texts)) ≡ (is_text (take (at + get_or lengths i 0 - at) (drop at texts)) && every is_text (cut_by (drop (suc i) lengths)
      (drop (at + get_or lengths i 0) texts)))
  unfolding cut_by every
  cuts = let size : at + get_or lengths i 0 - at ≡ get_or lengths i 0 = omega arith in
      ap (λ (ls : List ℕ). every is_text (cut_by ls (drop at texts))) rest ∙ rw (size, drop-drop (get_or lengths i 0) at texts)

  pub test_missing : length texts - at < get_or lengths i 0 → false ≡ are_texts lengths texts
  test_missing h =
      let l : leb (at + sum_of (drop i lengths)) (length texts) ≡ false = lt-leb (at + sum_of (drop i lengths)) (length texts) (omega (arith, sum_next lengths i more, t.inside)) in
      let e : left lengths texts at i ≡ false = rw l in sym e ∙ t.same

  pub test_bad : (r : Bool) → r ≡ is_text (take (at + get_or lengths i 0 - at) (drop at texts)) → r ≡ false → false ≡ are_texts lengths texts
  test_bad r is bad = let b : is_text (take (at + get_or lengths i 0 - at) (drop at texts)) ≡ false = sym is ∙ bad in
      let n : every is_text (cut_by (drop i lengths) (drop at texts)) ≡ false = cuts ∙ rw b in
      let e : left lengths texts at i ≡ false = rw n (and-false (leb (at + sum_of (drop i lengths)) (length texts))) in sym e ∙ t.same

  pub test_good : (r : Bool) → r ≡ is_text (take (at + get_or lengths i 0 - at) (drop at texts)) → r ≡ true → get_or lengths i 0 ≤ length texts - at
      → Testing lengths texts (at + get_or lengths i 0) (i + 1)
  test_good r is good h = let b : is_text (take (at + get_or lengths i 0 - at) (drop at texts)) ≡ true = sym is ∙ good in
      let n : every is_text (cut_by (drop i lengths) (drop at texts)) ≡ every is_text (cut_by (drop (suc i) lengths) (drop (at + get_or lengths i 0) texts)) = cuts ∙ rw b in
      let s : at + sum_of (drop i lengths) ≡ at + get_or lengths i 0 + sum_of (drop (suc i) lengths) = omega (arith, sum_next lengths i more) in
      let e : left lengths texts at i ≡ left lengths texts (at + get_or lengths i 0) (suc i) = rw (s, n) in
      rw (add-one i) (record { index = omega arith; inside = omega (arith, t.inside); same = sym e ∙ t.same })

pub test_ends : (lengths texts : List ℕ) (at i : ℕ) → Testing lengths texts at i → length lengths ≤ i → true ≡ are_texts lengths texts
unfolding cut_by every sum_of
test_ends lengths texts at i t h = let e : i ≡ length lengths = omega (arith, t.index) in
    let none : drop i lengths ≡ [] = ap (λ (n : ℕ). drop n lengths) e ∙ drop-length lengths in
    let z : left lengths texts at i ≡ true = rw (none, le-leb (at + 0) (length texts) (omega (arith, t.inside))) in sym z ∙ t.same
