-- What the derived comparisons of coordinates compute: equality, the lesser and the greater, as the definitions have them. Assumes nothing.
use Rattle.numbers.proofs.Prelude.{ℕ, le-ltb, lt-ltb, ltb, leb, inl, inr, ℤ, pos, negsuc, le_z, lt_z, Bool, true, false, not, cond, ◌&&◌, ◌≡◌, refl, sym, ◌∙◌, ap}
use Rattle.std.specs.Ordering.{is_eq, is_lt, int_cmp, int_eq, ord_min, ord_max}
use Rattle.std.specs.declared.cmp.Ordering.TheVariants.{Less, Greater, Equal}
use Rattle.std.proofs.lemmas.Bool.Decides.{leb_tells}
use Rattle.border.specs.{Box.{min_z, max_z}, declared.place.{FixedLat.{FixedLat}, FixedLon.{FixedLon}}}

not_leb : (a b : ℕ) → ltb a b ≡ not (leb b a)
not_leb a b = elim (leb_tells b a) [ inl h ↦ le-ltb a b h.1 ∙ sym (ap not h.0) | inr h ↦ lt-ltb a b h.1 ∙ sym (ap not h.0) ]

below_not : (x y : ℤ) → lt_z x y ≡ not (le_z y x)
below_not (pos a) (pos b) = not_leb a b
below_not (pos a) (negsuc b) = refl
below_not (negsuc a) (pos b) = refl
below_not (negsuc a) (negsuc b) = not_leb b a

-- `==`
pub equal_is : (x y : ℤ) → int_eq x y ≡ (le_z x y && le_z y x)
equal_is x y = rw (below_not x y, below_not y x) (go (le_z x y) (le_z y x)) where
  go : (a b : Bool) → is_eq (cond (not b) Less (cond (not a) Greater Equal)) ≡ (a && b)
  go true true = refl
  go true false = refl
  go false true = refl
  go false false = refl

-- `min` and `max`, by what they ensure: of two latitudes, and of two longitudes
module _ (x y : ℤ) where
  by_lesser : {A : Type 0} (value : A → ℤ) (a b : A) → value a ≡ x → value b ≡ y → value (cond (is_lt (int_cmp y x)) b a) ≡ min_z x y
  unfolding min_z
  by_lesser {A} value a b ea eb = rw (below_not x y, below_not y x) (go (le_z x y) (le_z y x)) where
    go : (s t : Bool) → value (cond (is_lt (cond (not s) Less (cond (not t) Greater Equal))) b a) ≡ cond s x y
    go true true = ea
    go true false = ea
    go false true = eb
    go false false = eb

  by_greater : {A : Type 0} (value : A → ℤ) (a b : A) → value a ≡ x → value b ≡ y → value (cond (is_lt (int_cmp y x)) a b) ≡ max_z x y
  unfolding max_z
  by_greater {A} value a b ea eb = rw (below_not x y, below_not y x) (go (le_z x y) (le_z y x)) where
    go : (s t : Bool) → value (cond (is_lt (cond (not s) Less (cond (not t) Greater Equal))) a b) ≡ cond s y x
    go true true = eb
    go true false = eb
    go false true = ea
    go false false = ea

pub least_lat : (a b : FixedLat) → (ord_min (λ (p q : FixedLat). int_cmp p.0 q.0) a b).0 ≡ min_z a.0 b.0
least_lat a b = by_lesser a.0 b.0 (λ (p : FixedLat). p.0) a b refl refl

pub least_lon : (a b : FixedLon) → (ord_min (λ (p q : FixedLon). int_cmp p.0 q.0) a b).0 ≡ min_z a.0 b.0
least_lon a b = by_lesser a.0 b.0 (λ (p : FixedLon). p.0) a b refl refl

pub most_lat : (a b : FixedLat) → (ord_max (λ (p q : FixedLat). int_cmp p.0 q.0) a b).0 ≡ max_z a.0 b.0
most_lat a b = by_greater a.0 b.0 (λ (p : FixedLat). p.0) a b refl refl

pub most_lon : (a b : FixedLon) → (ord_max (λ (p q : FixedLon). int_cmp p.0 q.0) a b).0 ≡ max_z a.0 b.0
most_lon a b = by_greater a.0 b.0 (λ (p : FixedLon). p.0) a b refl refl
