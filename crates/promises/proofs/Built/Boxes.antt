-- The box of a yard's entry is that of its border's points. Assumes nothing.
use Rattle.numbers.proofs.Prelude.{ℕ, suc, ◌^◌, ◌≤◌, ◌<◌, le-leb, leb-true, ltb-true, lt-leb, eqb-true, ltb-false, eqb, ltb, leb, ℤ, pos, negsuc, nat_abs, length, lt_z, le_z, Bool, true, false, ◌&&◌}
use Rattle.numbers.{proofs.{Prelude.{List, [], ◌∷◌, zip_with, ◌≡◌, refl, sym, ap, ◌∙◌, arith}, Tests.{both}}, specs.Answer.{if◌then◌else◌}}
use Rattle.border.specs.{Box.{min_z, max_z, box_over}, Place.{point_at}}
use Rattle.writer.specs.{Moves.{points_of}, Writer.{every, sized, near}}
use Rattle.builder.specs.Entries.{lesser, greater, best_by, farthest_of, lowest_of, highest_of, box_of, from_south}
use Rattle.promises.specs.Built.Seats.{bounds_in}
use Rattle.table.specs.Ordered.{bounds_around}
use Rattle.border.specs.Box as B

-- ---- of two numbers
lesser_of : (a b : ℕ) {A : Type 0} (x y : A) → (if ltb b a then y else x) ≡ (if leb a b then x else y)
lesser_of a b {A} x y = go (ltb b a) refl where
  go : (t : Bool) → ltb b a ≡ t → (if t then y else x) ≡ (if leb a b then x else y)
  go true e = rw (lt-leb a b (ltb-true b a e))
  go false e = rw (le-leb a b (ltb-false b a e))

greater_of : (a b : ℕ) {A : Type 0} (f : ℕ → A) → (if ltb a b then f b else f a) ≡ (if leb a b then f b else f a)
greater_of a b {A} f = go (ltb a b) refl (leb a b) refl where
  go : (t : Bool) → ltb a b ≡ t → (s : Bool) → leb a b ≡ s → (if t then f b else f a) ≡ (if s then f b else f a)
  go true e true k = refl
  go true e false k = let z : ◌≡◌ {A = Bool} true false = sym (le-leb a b (omega (arith, ltb-true a b e))) ∙ k in let w : ◌≡◌ {A = ℕ} 0 1 = cc in absurd (omega arith)
  go false e true k = ap f (omega (arith, ltb-false a b e, leb-true a b k))
  go false e false k = refl

lesser_min : (a b : ℤ) → lesser a b ≡ min_z a b
unfolding lesser min_z
lesser_min (pos a) (pos b) = lesser_of a b (pos a) (pos b)
lesser_min (pos a) (negsuc b) = refl
lesser_min (negsuc a) (pos b) = refl
lesser_min (negsuc a) (negsuc b) = go (ltb a b) refl where
  go : (t : Bool) → ltb a b ≡ t → (if t then negsuc b else negsuc a) ≡ (if leb b a then negsuc a else negsuc b)
  go true e = rw (lt-leb b a (ltb-true a b e))
  go false e = rw (le-leb b a (ltb-false a b e))

greater_max : (a b : ℤ) → greater a b ≡ max_z a b
unfolding greater max_z
greater_max (pos a) (pos b) = greater_of a b pos
greater_max (pos a) (negsuc b) = refl
greater_max (negsuc a) (pos b) = refl
greater_max (negsuc a) (negsuc b) = go (ltb b a) refl (leb b a) refl where
  go : (t : Bool) → ltb b a ≡ t → (s : Bool) → leb b a ≡ s → (if t then negsuc b else negsuc a) ≡ (if s then negsuc b else negsuc a)
  go true e true k = refl
  go true e false k = let z : ◌≡◌ {A = Bool} true false = sym (le-leb b a (omega (arith, ltb-true b a e))) ∙ k in let w : ◌≡◌ {A = ℕ} 0 1 = cc in absurd (omega arith)
  go false e true k = ap negsuc (omega (arith, ltb-false b a e, leb-true b a k))
  go false e false k = refl

-- ---- of a list
best_alike : (f g : ℤ → ℤ → ℤ) → ((a b : ℤ) → f a b ≡ g a b) → (z : ℤ) (zs : List ℤ) → best_by f z zs ≡ best_by g z zs
unfolding best_by
best_alike f g same z [] = refl
best_alike f g same z (x ∷ zs) = ap (λ (y : ℤ). best_by f y zs) (same z x) ∙ best_alike f g same (g z x) zs

box_over_lem : (lats lons : List ℤ) → length lats ≡ length lons → (a b c d : ℤ)
    → box_over (record { low = point_at a b; high = point_at c d }) (zip_with point_at lats lons)
    ≡ record { low = point_at (best_by min_z a lats) (best_by min_z b lons); high = point_at (best_by max_z c lats) (best_by max_z d lons) }
unfolding box_over best_by zip_with
box_over_lem [] [] e a b c d = refl
box_over_lem [] (x ∷ lons) e a b c d = absurd (omega arith)
box_over_lem (y ∷ lats) [] e a b c d = absurd (omega arith)
box_over_lem (y ∷ lats) (x ∷ lons) e a b c d = box_over_lem lats lons (omega arith) (min_z a y) (min_z b x) (max_z c y) (max_z d x)

pub boxes_same : (lats lons : List ℤ) → sized lats lons ≡ true → bounds_in (box_of lats lons) ≡ bounds_around (B.box_of (points_of lats lons))
unfolding sized farthest_of points_of zip_with B.box_of
boxes_same [] lons h = let z = (both (eqb (length {A = ℤ} []) (length lons)) _ h).1 in let w : ◌≡◌ {A = ℕ} 0 1 = cc in absurd (omega arith)
boxes_same (y ∷ lats) [] h = let e = eqb-true (suc (length lats)) 0 (both (eqb (suc (length lats)) 0) (ltb 0 (suc (length lats)) && leb (suc (length lats)) 65535) h).0 in absurd (omega arith)
boxes_same (y ∷ lats) (x ∷ lons) h =
    let e = eqb-true (suc (length lats)) (suc (length lons)) (both (eqb (suc (length lats)) (suc (length lons))) (ltb 0 (suc (length lats)) && leb (suc (length lats)) 65535) h).0 in
    rw (best_alike lesser min_z lesser_min y lats, best_alike lesser min_z lesser_min x lons, best_alike greater max_z greater_max y lats, best_alike greater max_z greater_max x lons)
    (sym (ap bounds_around (box_over_lem lats lons (omega (arith, e)) y x y x)))

-- ---- its numbers are small
near_small : (z : ℤ) → near z ≡ true → nat_abs z < 2 ^ 30
unfolding near
near_small z h = omega (arith, leb-true (nat_abs z) 1073741823 h)

chosen_near : (t : Bool) (a b : ℤ) → near a ≡ true → near b ≡ true → near (if t then a else b) ≡ true
chosen_near true a b h k = h
chosen_near false a b h k = k

best_near : (f : ℤ → ℤ → ℤ) → ((a b : ℤ) → near a ≡ true → near b ≡ true → near (f a b) ≡ true) → (z : ℤ) (zs : List ℤ) → near z ≡ true → every near zs ≡ true → near (best_by f z zs) ≡ true
unfolding best_by every
best_near f keeps z [] h k = h
best_near f keeps z (x ∷ zs) h k = let now = both (near x) (every near zs) k in best_near f keeps (f z x) zs (keeps z x h now.0) now.1

pub lowest_small : (zs : List ℤ) → every near zs ≡ true → nat_abs (lowest_of zs) < 2 ^ 30
unfolding farthest_of every lesser
lowest_small [] h = omega arith
lowest_small (z ∷ zs) h = let now = both (near z) (every near zs) h in
    near_small (best_by lesser z zs) (best_near lesser (λ a b p q. chosen_near (lt_z b a) b a q p) z zs now.0 now.1)

pub highest_small : (zs : List ℤ) → every near zs ≡ true → nat_abs (highest_of zs) < 2 ^ 30
unfolding farthest_of every greater
highest_small [] h = omega arith
highest_small (z ∷ zs) h = let now = both (near z) (every near zs) h in
    near_small (best_by greater z zs) (best_near greater (λ a b p q. chosen_near (lt_z a b) b a q p) z zs now.0 now.1)

-- ---- counted from the south they keep their order
pub south_order : (a b : ℤ) → nat_abs a < 2 ^ 31 → nat_abs b < 2 ^ 31 → from_south a ≤ from_south b → le_z a b ≡ true
unfolding from_south
south_order (pos a) (pos b) h k l = le-leb a b (omega arith)
south_order (pos a) (negsuc b) h k l = absurd (omega arith)
south_order (negsuc a) (pos b) h k l = refl
south_order (negsuc a) (negsuc b) h k l = le-leb b a (omega arith)
