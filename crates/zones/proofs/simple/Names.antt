-- Two lists of bytes, compared one by one. Assumes nothing.
use Rattle.numbers.proofs.Prelude.{ℕ, suc, ◌+◌, ◌≤◌, ◌<◌, eq-eqb, ne_eqb, eqb, length, drop, get_or, length-map, drop_of_length-le, drop-cons, Bool, true, false, ◌&&◌, List, [], ◌∷◌, map, ◌≡◌, refl}
use Rattle.numbers.proofs.Prelude.{sym, ap, ◌∙◌, add-one, arith}
use Rattle.zones.specs.Simple.{same, name, timezone_id, timezone_id_prefix, part_of}
use Rattle.header.specs.Utf8.{unmasked}
use mathlib.Core.Bool.{and-false}
use Rattle.std.specs.List.{list_all, zip}

pub lengths_differ : (xs ys : List ℕ) → (length xs ≡ length ys → ⊥) → same xs ys ≡ false
unfolding same
lengths_differ [] [] h = absurd (h refl)
lengths_differ [] (y ∷ ys) h = refl
lengths_differ (x ∷ xs) [] h = refl
lengths_differ (x ∷ xs) (y ∷ ys) h = ap (λ (t : Bool). eqb x y && t) (lengths_differ xs ys (λ e. h (ap suc e))) ∙ and-false (eqb x y)

module _ (xs ys : List ℕ) (lengths : length xs ≡ length ys) (i : ℕ) {whole : Bool} (so_far : same (drop i xs) (drop i ys) ≡ whole) where
  pub all_same : length xs ≤ i → true ≡ whole
  unfolding same
  all_same h = let one : drop i xs ≡ [] = drop_of_length-le xs {i = i} h in
      let two : drop i ys ≡ [] = drop_of_length-le ys {i = i} (omega (arith, lengths, h)) in sym (λ j. same (one j) (two j)) ∙ so_far

  module _ (more : i < length xs) where
    opened : (eqb (get_or xs i 0) (get_or ys i 0) && same (drop (i + 1) xs) (drop (i + 1) ys)) ≡ whole
    unfolding same
    opened = let first : drop i xs ≡ get_or xs i 0 ∷ drop (i + 1) xs = drop-cons xs i 0 more ∙ (λ j. get_or xs i 0 ∷ drop (sym (add-one i) j) xs) in
        let second : drop i ys ≡ get_or ys i 0 ∷ drop (i + 1) ys = drop-cons ys i 0 (omega (arith, lengths, more)) ∙ (λ j. get_or ys i 0 ∷ drop (sym (add-one i) j) ys) in
        sym (λ j. same (first j) (second j)) ∙ so_far

    pub differs : (get_or xs i 0 ≡ get_or ys i 0 → ⊥) → false ≡ whole
    differs n = simp (ne_eqb _ _ n) at opened

    pub goes_on : get_or xs i 0 ≡ get_or ys i 0 → same (drop (i + 1) xs) (drop (i + 1) ys) ≡ whole
    goes_on e = simp (eq-eqb _ _ e) at opened

-- a stored string, unmasked byte by byte, and a name
module _ (stored name : List ℕ) where
  abbrev called : List ℕ
  called = map unmasked stored

  pub not_as_long : (length stored ≡ length name → ⊥) → false ≡ same called name
  not_as_long h = sym (lengths_differ called name (λ e. h (sym (length-map stored unmasked) ∙ e)))

-- as long as each other, they are the same by each pair
pub called_zip : (stored name : List ℕ) → length stored ≡ length name → list_all (λ pair. eqb (unmasked pair.0) pair.1) (zip stored name) ≡ same (map unmasked stored) name
unfolding same
called_zip [] [] h = refl
called_zip [] (y ∷ ys) h = absurd (omega arith)
called_zip (x ∷ xs) [] h = absurd (omega arith)
called_zip (x ∷ xs) (y ∷ ys) h = ap (λ (t : Bool). eqb (unmasked x) y && t) (called_zip xs ys (omega arith))

-- ---- the part that a name stands for, by the tests that the code makes
module _ (kind : ℕ) (called : List ℕ) where
  module _ (zone : kind ≡ 0x54) where
    pub is_prefix : same called timezone_id_prefix ≡ true → 1 ≡ part_of kind called
    is_prefix e = rw (eq-eqb _ _ zone, e) refl

    pub is_id : same called timezone_id_prefix ≡ false → same called timezone_id ≡ true → 2 ≡ part_of kind called
    is_id e f = rw (eq-eqb _ _ zone, e, f) refl

    pub is_neither : same called timezone_id_prefix ≡ false → same called timezone_id ≡ false → 0 ≡ part_of kind called
    is_neither e f = rw (eq-eqb _ _ zone, e, f) refl

  module _ (country : kind ≡ 0x54 → ⊥) where
    pub is_name : same called name ≡ true → 1 ≡ part_of kind called
    is_name e = rw (ne_eqb _ _ country, e) refl

    pub is_other : same called name ≡ false → 0 ≡ part_of kind called
    is_other e = rw (ne_eqb _ _ country, e) refl
