-- The border's points and moves by index. Assumes nothing.
use Rattle.numbers.proofs.Prelude.{ℕ, zero, suc, ◌+◌, ◌-◌, ◌*◌, ◌≤◌, ◌<◌, min, ltb-true, ltb-false, ltb, ℤ, pos, ◌-ℤ◌, length, drop, get_or, length-append, length-drop, length-take, slice, drop-cons}
use Rattle.numbers.proofs.Prelude.{take_all, take-length, Bool, true, false, ◌&&◌, List, [], ◌∷◌, ◌++◌, flat_map, zip_with, ◌≡◌, refl, sym, ap, ◌∙◌, mul-suc, arith}
use Rattle.numbers.specs.declared.point.RawPoint.{RawPoint}
use lib.Seq.{slice-cons}
use Rattle.border.specs.{Place.{point_at, move_by}, declared.place.Point.{Point}}
use Rattle.writer.specs.{Moves.{move_to, moves_from, points_of, moves_of}, Writer.{every}, inner.Stored.{gap_at, move_at}}

-- ---- the coordinate before an index
pub before_first : (zs : List ℤ) (i : ℕ) → i ≡ 0 → pos 0 ≡ get_or (pos 0 ∷ zs) i (pos 0)
before_first zs i e = rw e

pub before_next : (zs : List ℤ) (i : ℕ) → (i ≡ 0 → ⊥) → get_or zs (i - 1) (pos 0) ≡ get_or (pos 0 ∷ zs) i (pos 0)
before_next zs zero other = absurd (other refl)
before_next zs (suc i) other = ap (λ (n : ℕ). get_or zs n (pos 0)) (omega arith)

-- ---- moves
abbrev pub still : RawPoint
still = move_by (pos 0) (pos 0)

pub moves_length : (p : Point) (qs : List Point) → length (moves_from p qs) ≡ length qs
unfolding moves_from zip_with
moves_length p [] = refl
moves_length p (q ∷ qs) = ap suc (moves_length q qs)

pub points_length : (lats lons : List ℤ) → length (points_of lats lons) ≡ min (length lats) (length lons)
unfolding points_of zip_with
points_length (x ∷ xs) (y ∷ ys) = omega (arith, points_length xs ys)
points_length (x ∷ xs) [] = omega arith
points_length [] ys = omega arith

pub border_length : (lats lons : List ℤ) → length (moves_of lats lons) ≡ min (length lats) (length lons)
unfolding moves_of
border_length lats lons = moves_length (point_at (pos 0) (pos 0)) (points_of lats lons) ∙ points_length lats lons

move_from : (lats lons : List ℤ) (x y : ℤ) (i : ℕ) → i < length lats → i < length lons
    → get_or (moves_from (point_at x y) (points_of lats lons)) i still ≡ move_by (get_or lats i (pos 0) -ℤ get_or (x ∷ lats) i (pos 0)) (get_or lons i (pos 0) -ℤ get_or (y ∷ lons) i (pos 0))
unfolding moves_from points_of zip_with move_to
move_from (x ∷ xs) (y ∷ ys) u v zero h k = refl
move_from (x ∷ xs) (y ∷ ys) u v (suc i) h k = move_from xs ys x y i (omega arith) (omega arith)
move_from (x ∷ xs) [] u v i h k = absurd (omega arith)
move_from [] ys u v i h k = absurd (omega arith)

module _ (lats lons : List ℤ) (i : ℕ) (h : i < length lats) (k : i < length lons) where
  pub move_at_lem : get_or (moves_of lats lons) i still ≡ move_at lats lons i
  unfolding moves_of gap_at
  move_at_lem = move_from lats lons (pos 0) (pos 0) i h k

  abbrev moves : List RawPoint
  moves = moves_of lats lons

  pub moves_next : drop i moves ≡ move_at lats lons i ∷ drop (i + 1) moves
  moves_next = let n : suc i ≡ i + 1 = omega arith in drop-cons moves i still (omega (arith, border_length lats lons)) ∙ rw (move_at_lem, ← n)

  -- what is left to write
  pub each_next : (each : RawPoint → List ℕ) (to : ℕ) → i < to → to ≤ length lats → to ≤ length lons →
      flat_map each (slice i to moves) ≡ each (move_at lats lons i) ++ flat_map each (slice (i + 1) to moves)
  unfolding flat_map
  each_next each to l m n = let next : suc i ≡ i + 1 = omega arith in
      ap (flat_map each) (slice-cons i to moves still l (omega (arith, border_length lats lons))) ∙ rw (move_at_lem, ← next)

slice_past : {A : Type 0} (from to : ℕ) (ms : List A) → to ≤ from → slice from to ms ≡ []
slice_past zero zero ms h = refl
slice_past zero (suc to) ms h = absurd (omega arith)
slice_past (suc from) zero ms h = refl
slice_past (suc from) (suc to) [] h = refl
slice_past (suc from) (suc to) (m ∷ ms) h = slice_past from to ms (omega arith)

pub each_done : (each : RawPoint → List ℕ) (from to : ℕ) (ms : List RawPoint) → to ≤ from → flat_map each (slice from to ms) ≡ []
unfolding flat_map
each_done each from to ms h = ap (flat_map each) (slice_past from to ms h)

-- ---- a test of each element
module _ {A : Type 0} (good : A → Bool) (xs : List A) (i : ℕ) where
  pub every_next : (d : A) → i < length xs → every good (drop i xs) ≡ (good (get_or xs i d) && every good (drop (i + 1) xs))
  unfolding every
  every_next d h = let n : suc i ≡ i + 1 = omega arith in rw (drop-cons xs i d h, ← n)

  pub every_done : length xs ≤ i → every good (drop i xs) ≡ every good []
  every_done h = ap (every good) (nothing xs i h) where
    nothing : (xs : List A) (i : ℕ) → length xs ≤ i → drop i xs ≡ []
    nothing [] zero h = refl
    nothing [] (suc i) h = refl
    nothing (x ∷ xs) zero h = absurd (omega arith)
    nothing (x ∷ xs) (suc i) h = nothing xs i (omega arith)

  -- in a loop over the elements: the ith one is bad, or good
  module _ (d : A) (h : i < length xs) where
    pub every_bad : good (get_or xs i d) ≡ false → every good (drop i xs) ≡ false
    every_bad e = every_next d h ∙ rw e

    pub every_good : good (get_or xs i d) ≡ true → every good (drop (i + 1) xs) ≡ every good (drop i xs)
    every_good e = sym (every_next d h ∙ rw e)

-- ---- how long the bytes are
pub each_few : (each : RawPoint → List ℕ) (k : ℕ) → ((m : RawPoint) → length (each m) ≤ k) → (ms : List RawPoint) → length (flat_map each ms) ≤ k * length ms
unfolding flat_map
each_few each k few [] = omega arith
each_few each k few (m ∷ ms) = let n = length ms in let e : k * suc n ≡ k * n + k = mul-suc k n in
    rw e (simp length-append (omega (arith, few m, each_few each k few ms)))

pub slice_few : {A : Type 0} (from to : ℕ) (xs : List A) → length (slice from to xs) ≤ length xs
slice_few from to xs = simp (length-take, length-drop) (omega arith)

-- a slice ends with the list
pub slice_ends : {A : Type 0} (from to : ℕ) (xs : List A) → slice from (min to (length xs)) xs ≡ slice from to xs
slice_ends from to xs = by_test (ltb to (length xs)) refl where
  by_test : (t : Bool) → ltb to (length xs) ≡ t → slice from (min to (length xs)) xs ≡ slice from to xs
  by_test true e = let h = ltb-true to (length xs) e in let m : min to (length xs) ≡ to = omega arith in rw m
  by_test false e = let h = ltb-false to (length xs) e in let m : min to (length xs) ≡ length xs = omega arith in
      rw m (ap (drop from) (take-length xs ∙ sym (take_all to xs h)))

pub slice_rest : {A : Type 0} (from : ℕ) (xs : List A) → slice from (length xs) xs ≡ drop from xs
slice_rest from xs = ap (drop from) (take-length xs)

pub all_moves : (lats lons : List ℤ) → length lons ≡ length lats → slice 0 (length lats) (moves_of lats lons) ≡ moves_of lats lons
all_moves lats lons e = take_all (length lats) (moves_of lats lons) (omega (arith, border_length lats lons))
