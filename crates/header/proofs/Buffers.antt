-- Laws on what a loop or a call has written into a lent buffer. Assumes nothing.
use Rattle.numbers.proofs.Prelude.{ℕ, zero, suc, ◌+◌, ◌-◌, ◌≤◌, ◌<◌, length, take, drop, get_or, set, length-append, length-drop, length-replicate, drop_of_length-le, length-take-le, drop-cons}
use Rattle.numbers.proofs.Prelude.{take_all, take-suc, take-length, List, [], ◌∷◌, ◌++◌, map, append-nil, ◌≡◌, refl, sym, ap, ◌∙◌, le_refl, le_of_lt, add-one, arith}
use Rattle.numbers.specs.Lists.{zeros, over}
use lib.{Seq.{set_at, append_snoc}}

-- an element of a list whose elements are taken one by one
pub map_at : (f : ℕ → ℕ) (l : List ℕ) (i : ℕ) → i < length l → get_or (map f l) i 0 ≡ f (get_or l i 0)
map_at f [] i h = absurd (omega arith)
map_at f (x ∷ l) zero h = refl
map_at f (x ∷ l) (suc i) h = map_at f l i (omega arith)

-- ---- s over the front of d, one element after another
-- one more element goes on
pub copied_suc : (s d : List ℕ) (i : ℕ) → i < length s → i < length d → set (take i s ++ drop i d) i (get_or s i 0) ≡ take (i + 1) s ++ drop (i + 1) d
copied_suc s d i hs hd =
    ap (λ (r : List ℕ). set (take i s ++ r) i (get_or s i 0)) (drop-cons d i 0 hd) ∙ set_at (take i s) (get_or d i 0) (drop (suc i) d) (get_or s i 0) i
    (length-take-le i s (le_of_lt hs)) ∙ sym (append_snoc (take i s) (get_or s i 0) (drop (suc i) d)) ∙ ap (λ (r : List ℕ). r ++ drop (suc i) d) (sym (take-suc s i 0 hs))
    ∙ ap (λ (k : ℕ). take k s ++ drop k d) (sym (add-one i))

pub copied_length : (s d : List ℕ) (i : ℕ) → i ≤ length s → i ≤ length d → length (take i s ++ drop i d) ≡ length d
copied_length s d i hs hd = simp (length-append, length-take-le i s hs, length-drop) (omega arith)

pub copied_all : (s d : List ℕ) (i : ℕ) → i ≤ length s → length s ≤ i → take i s ++ drop i d ≡ over s d
copied_all s d i le ge = let e : i ≡ length s = omega arith in rw (e, take-length)

pub of_length : (xs : List ℕ) (n : ℕ) → xs ≡ zeros n → length xs ≡ n
of_length xs n e = ap length e ∙ length-replicate n 0

pub all_zero : (xs : List ℕ) (n : ℕ) → xs ≡ zeros n → xs ≡ zeros (length xs)
all_zero xs n e = e ∙ ap zeros (sym (of_length xs n e))

-- ---- the tail `&mut d[a..]`, lent to a call
pub over_length : (s d : List ℕ) → length s ≤ length d → length (over s d) ≡ length d
over_length s d h = simp (length-append, length-drop) (omega arith)

module _ (a : ℕ) (d : List ℕ) where
  -- what is lent
  pub tail_lent : take (length d - a) (drop a d) ≡ drop a d
  tail_lent = take_all (length d - a) (drop a d) (rw length-drop (le_refl (length d - a)))

  pub lent_length : length (take (length d - a) (drop a d)) ≡ length d - a
  lent_length = ap length tail_lent ∙ length-drop a d

  -- what d holds once s has come back for it
  pub tail_back : (s : List ℕ) → take a d ++ (s ++ drop (length d - a) (drop a d)) ≡ take a d ++ s
  tail_back s =
      ap (λ (r : List ℕ). take a d ++ (s ++ r)) (drop_of_length-le (drop a d) {i = length d - a} (rw length-drop (le_refl (length d - a)))) ∙ ap (λ (r : List ℕ). take a d ++ r) (append-nil s)

-- one store at the front, and s over what is after it
module _ (d s : List ℕ) (x : ℕ) (fits : length s + 1 ≤ length d) where
  abbrev one : List ℕ
  one = set d 0 x

  over_one : (d : List ℕ) → 1 ≤ length d → take 1 (set d 0 x) ++ over s (drop 1 (set d 0 x)) ≡ over (x ∷ s) d
  over_one [] h = absurd (omega arith)
  over_one (a ∷ d) h = refl

  pub put_one : (last : List ℕ) → last ≡ over s (take (length one - 1) (drop 1 one)) → take 1 one ++ (last ++ drop (length one - 1) (drop 1 one)) ≡ over (x ∷ s) d
  put_one last e = tail_back 1 one last ∙ ap (λ (r : List ℕ). take 1 one ++ r) (e ∙ ap (over s) (tail_lent 1 one)) ∙ over_one d (omega arith)

-- two stores
module _ (d s : List ℕ) (x y : ℕ) (fits : length s + 2 ≤ length d) where
  abbrev two : List ℕ
  two = set (set d 0 x) 1 y

  over_two : (d : List ℕ) → 2 ≤ length d → take 2 (set (set d 0 x) 1 y) ++ over s (drop 2 (set (set d 0 x) 1 y)) ≡ over (x ∷ y ∷ s) d
  over_two [] h = absurd (omega arith)
  over_two (a ∷ []) h = absurd (omega arith)
  over_two (a ∷ b ∷ d) h = refl

  pub put_two : (last : List ℕ) → last ≡ over s (take (length two - 2) (drop 2 two)) → take 2 two ++ (last ++ drop (length two - 2) (drop 2 two)) ≡ over (x ∷ y ∷ s) d
  put_two last e = tail_back 2 two last ∙ ap (λ (r : List ℕ). take 2 two ++ r) (e ∙ ap (over s) (tail_lent 2 two)) ∙ over_two d (omega arith)
