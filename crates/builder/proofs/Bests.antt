-- The least and the greatest of a list, item by item. Assumes nothing.
use Rattle.numbers.proofs.Prelude.{ℕ, ◌+◌, ◌≤◌, ◌<◌, ℤ, pos, length, drop, get_or, drop-cons, drop-length, lt_z, true, false, List, [], ◌∷◌, ◌≡◌, refl, sym, ap, ◌∙◌, w32, SFits, of_z, to_z, add-one}
use Rattle.numbers.proofs.Prelude.{arith}
use mir.Facts.{to_z-of_z}
use Rattle.numbers.proofs.Prelude.{subst, Bool, not}
use Rattle.std.proofs.lemmas.Int.{ints}
use Rattle.std.specs.{Option.{unwrap_or}, List.{fold, reduce}, Ordering.{int_cmp, MatchOrdering, min_by_ordering, max_by_ordering}, Cmp.{int_ranks}, Int.Signed.{lt_z_yes, lt_z_no}, Prelude.{Option, ◌<ℤ◌, if◌then◌else◌}}
use Rattle.std.specs.declared.cmp.Ordering.{Ordering, TheVariants.{Less, Equal, Greater}}
use Rattle.std.proofs.Math.Dec.{T}
use Rattle.builder.specs.Entries.{best_by, farthest_of, lesser, greater}

-- the loop's invariant: the best so far, with the rest, gives that of all
pub record Choosing (best : ℤ → ℤ → ℤ) (whole : ℤ) (list : List ℤ) (so : ℤ) (i : ℕ) : Type 0 where
  pub index : i ≤ length list
  pub same : best_by best so (drop i list) ≡ whole

pub farthest_none : (best : ℤ → ℤ → ℤ) (list : List ℤ) → length list ≡ 0 → pos 0 ≡ farthest_of best list
unfolding farthest_of
farthest_none best [] e = refl
farthest_none best (z ∷ zs) e = absurd (omega arith)

pub farthest_starts : (best : ℤ → ℤ → ℤ) (list : List ℤ) → (length list ≡ 0 → ⊥) → Choosing best (farthest_of best list) list (get_or list 0 (pos 0)) 1
unfolding farthest_of
farthest_starts best [] h = absurd (h refl)
farthest_starts best (z ∷ zs) h = record { index = omega arith; same = refl }

module _ (best : ℤ → ℤ → ℤ) (whole : ℤ) (list : List ℤ) (so : ℤ) (i : ℕ) (c : Choosing best whole list so i) where
  pub choose_goes : i < length list → (later : ℤ) → later ≡ best so (get_or list i (pos 0)) → Choosing best whole list later (i + 1)
  unfolding best_by
  choose_goes h later e = record { index = omega arith; same = rw (e, add-one i) (sym (ap (best_by best so) (drop-cons list i (pos 0) h)) ∙ c.same) }

  pub choose_ends : length list ≤ i → so ≡ whole
  unfolding best_by
  choose_ends h = let e : i ≡ length list = omega (arith, c.index) in sym (ap (best_by best so) (ap (λ (n : ℕ). drop n list) e ∙ drop-length list)) ∙ c.same

-- an i32 that is read back
pub read_back : (best : ℤ → ℤ → ℤ) (whole : ℤ) (list : List ℤ) (so : ℤ) (i : ℕ) → SFits w32 so → Choosing best whole list so i → Choosing best whole list (to_z w32 (of_z w32 so)) i
read_back best whole list so i h c = rw (to_z-of_z h) c

-- ---- of two
module _ {a b : ℤ} (h : SFits w32 a) (k : SFits w32 b) where
  pub lesser_second : lt_z (to_z w32 (of_z w32 b)) (to_z w32 (of_z w32 a)) ≡ true → to_z w32 (of_z w32 b) ≡ lesser a b
  unfolding lesser
  lesser_second e = let f : lt_z b a ≡ true = rw (to_z-of_z k, to_z-of_z h) at e in rw f (to_z-of_z k)

  pub lesser_first : lt_z (to_z w32 (of_z w32 b)) (to_z w32 (of_z w32 a)) ≡ false → to_z w32 (of_z w32 a) ≡ lesser a b
  unfolding lesser
  lesser_first e = let f : lt_z b a ≡ false = rw (to_z-of_z k, to_z-of_z h) at e in rw f (to_z-of_z h)

  pub greater_second : lt_z (to_z w32 (of_z w32 a)) (to_z w32 (of_z w32 b)) ≡ true → to_z w32 (of_z w32 b) ≡ greater a b
  unfolding greater
  greater_second e = let f : lt_z a b ≡ true = rw (to_z-of_z h, to_z-of_z k) at e in rw f (to_z-of_z k)

  pub greater_first : lt_z (to_z w32 (of_z w32 a)) (to_z w32 (of_z w32 b)) ≡ false → to_z w32 (of_z w32 a) ≡ greater a b
  unfolding greater
  greater_first e = let f : lt_z a b ≡ false = rw (to_z-of_z h, to_z-of_z k) at e in rw f (to_z-of_z h)

-- ---- by the library's `min` and `max`
yes : {t : Bool} → t ≡ true → T t
yes e = subst T (sym e) tt

no : {t : Bool} → t ≡ false → T (not t)
no e = subst (λ (t : Bool). T (not t)) (sym e) tt

least_pick : (a b : ℤ) → min_by_ordering (int_cmp a b) a b ≡ lesser a b
unfolding lesser
least_pick a b = go (int_cmp a b) (int_ranks a b) (lt_z b a) refl where
  go : (o : Ordering) → MatchOrdering o (a <ℤ b) (a ≡ b) (b <ℤ a) → (t : Bool) → lt_z b a ≡ t → min_by_ordering o a b ≡ (if t then b else a)
  go Less h true e = let other = lt_z_yes {a = b} {b = a} (yes e) in absurd (omega (arith, ints, h, other))
  go Less h false e = refl
  go Equal h true e = h
  go Equal h false e = refl
  go Greater h true e = refl
  go Greater h false e = let other = lt_z_no {a = b} {b = a} (no e) in absurd (omega (arith, ints, h, other))

greatest_pick : (a b : ℤ) → max_by_ordering (int_cmp a b) a b ≡ greater a b
unfolding greater
greatest_pick a b = go (int_cmp a b) (int_ranks a b) (lt_z a b) refl where
  go : (o : Ordering) → MatchOrdering o (a <ℤ b) (a ≡ b) (b <ℤ a) → (t : Bool) → lt_z a b ≡ t → max_by_ordering o a b ≡ (if t then b else a)
  go Less h true e = refl
  go Less h false e = let other = lt_z_no {a = a} {b = b} (no e) in absurd (omega (arith, ints, h, other))
  go Equal h true e = refl
  go Equal h false e = sym h
  go Greater h true e = let other = lt_z_yes {a = a} {b = b} (yes e) in absurd (omega (arith, ints, h, other))
  go Greater h false e = refl

module _ (pick best : ℤ → ℤ → ℤ) (same : (a b : ℤ) → pick a b ≡ best a b) where
  folded : (z : ℤ) (zs : List ℤ) → fold pick z zs ≡ best_by best z zs
  unfolding best_by
  folded z [] = refl
  folded z (x ∷ zs) = ap (λ (y : ℤ). fold pick y zs) (same z x) ∙ folded (best z x) zs

  pub reduced : (list : List ℤ) (r : Option ℤ) → r ≡ reduce pick list → unwrap_or r (pos 0) ≡ farthest_of best list
  unfolding farthest_of
  reduced [] r e = ap (λ (o : Option ℤ). unwrap_or o (pos 0)) e
  reduced (z ∷ zs) r e = ap (λ (o : Option ℤ). unwrap_or o (pos 0)) e ∙ folded z zs

pub lowest_reduced : (list : List ℤ) (r : Option ℤ) → r ≡ reduce (λ (p z : ℤ). min_by_ordering (int_cmp p z) p z) list → unwrap_or r (pos 0) ≡ farthest_of lesser list
lowest_reduced = reduced _ lesser least_pick

pub highest_reduced : (list : List ℤ) (r : Option ℤ) → r ≡ reduce (λ (p z : ℤ). max_by_ordering (int_cmp p z) p z) list → unwrap_or r (pos 0) ≡ farthest_of greater list
highest_reduced = reduced _ greater greatest_pick
