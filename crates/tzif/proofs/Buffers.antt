-- A text that a loop writes over another one, octet by octet. Assumes nothing.
use Rattle.numbers.proofs.{Lists.{wider_at}, Prelude.{ℕ, suc, ◌+◌, ◌-◌, ◌≤◌, ◌<◌, length, take, drop, get_or, set, length-append, length-drop, length-replicate, length-take-le, drop-cons, drop-length}}
use Rattle.numbers.{proofs.Prelude.{take-suc, take-length, List, [], ◌++◌, append-nil, ◌≡◌, refl, sym, ap, ◌∙◌, add-one, arith}, specs.Lists.{padded}}
use lib.Seq.{set_at, append_snoc}

-- what stands after i octets
abbrev pub over : ℕ → List ℕ → List ℕ → List ℕ
over i s d = take i s ++ drop i d

-- ---- s over d, of one length
module _ (s d : List ℕ) (same : length s ≡ length d) (i : ℕ) where
  pub over_suc : i < length d → set (over i s d) i (get_or s i 0) ≡ over (i + 1) s d
  over_suc h =
      ap (λ (r : List ℕ). set (take i s ++ r) i (get_or s i 0)) (drop-cons d i 0 h) ∙ set_at (take i s) (get_or d i 0) (drop (suc i) d) (get_or s i 0) i
      (length-take-le i s (omega arith)) ∙ sym (append_snoc (take i s) (get_or s i 0) (drop (suc i) d)) ∙ ap (λ (r : List ℕ). r ++ drop (suc i) d)
      (sym (take-suc s i 0 (omega arith))) ∙ ap (λ (k : ℕ). take k s ++ drop k d) (sym (add-one i))

  pub over_length : i ≤ length d → length (over i s d) ≡ length d
  over_length h = let l : i ≤ length s = omega arith in simp (length-append, length-take-le i s l, length-drop) (omega arith)

  pub over_all : i ≤ length d → length d ≤ i → over i s d ≡ s
  over_all le ge = let e : i ≡ length s = omega arith in let f : i ≡ length d = omega arith in let front : take i s ≡ s = rw (e, take-length) refl in
      let rest : drop i d ≡ [] = rw (f, drop-length) refl in rw (front, rest) (append-nil s)

-- ---- a name with zeros behind it
module _ (n : ℕ) (name : List ℕ) (fits : length name ≤ n) where
  pub padded_length : length (padded n name) ≡ n
  padded_length = simp (length-append, length-replicate) (omega arith)

-- where the loop stands at an octet
pub record Lending (name text₀ text : List ℕ) (i : ℕ) : Type 0 where
  pub within : i ≤ length text₀
  pub fits : length name ≤ length text₀
  pub stands : text ≡ over i (padded (length text₀) name) text₀

module _ {name text₀ text : List ℕ} {i : ℕ} (l : Lending name text₀ text i) where
  pub lending_length : length text ≡ length text₀
  lending_length = ap length l.stands ∙ over_length (padded (length text₀) name) text₀ (padded_length (length text₀) name l.fits) i l.within

  pub next_octet : i < length text → Lending name text₀ (set text i (get_or name i 0)) (i + 1)
  next_octet h = record {
    within = omega (arith, lending_length);
    fits = l.fits;
    stands =
        ap (λ (t : List ℕ). set t i (get_or name i 0)) l.stands
        ∙ ap (set (over i (padded (length text₀) name) text₀) i) (sym (wider_at name (length text₀ - length name) i))
        ∙ over_suc (padded (length text₀) name) text₀ (padded_length (length text₀) name l.fits) i (omega (arith, lending_length));
  }

  pub all_lent : length text ≤ i → text ≡ padded (length text₀) name
  all_lent h = l.stands ∙ over_all (padded (length text₀) name) text₀ (padded_length (length text₀) name l.fits) i l.within (omega (arith, lending_length))

pub nothing_lent : (name text₀ : List ℕ) → length name ≤ length text₀ → Lending name text₀ text₀ 0
nothing_lent name text₀ h = record { within = omega arith; fits = h; stands = refl }
