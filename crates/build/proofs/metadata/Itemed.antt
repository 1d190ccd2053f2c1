-- An item's lengths and bytes are parts of the lent lists. Assumes nothing.
use Rattle.numbers.proofs.Prelude.{ℕ, zero, suc, ◌+◌, ◌-◌, ◌≤◌, ◌<◌, length, take, drop, get_or, length-drop, length-take-le, drop-drop, take-add, List, [], ◌∷◌, ◌++◌, map, flat_map, ◌≡◌, refl}
use Rattle.numbers.proofs.Prelude.{sym, ap}
use Rattle.numbers.proofs.Prelude.{◌∙◌, add-one, arith}
use Rattle.builder.{proofs.grouping.{Meant.{item_part}, Walks.{fewer_inside}}, specs.{Grouping.Items.{starts_from, text_at, item_at, Inside}, Yards.{Text, cut_by, sum_of}}}
use Rattle.build.specs.Metadata.Kept.{joined}

-- ---- the lengths
pub map_take : (f : Text → ℕ) (n : ℕ) (xs : List Text) → map f (take n xs) ≡ take n (map f xs)
map_take f zero xs = refl
map_take f (suc n) [] = refl
map_take f (suc n) (x ∷ xs) = ap (λ (l : List ℕ). f x ∷ l) (map_take f n xs)

pub map_drop : (f : Text → ℕ) (n : ℕ) (xs : List Text) → map f (drop n xs) ≡ drop n (map f xs)
map_drop f zero xs = refl
map_drop f (suc n) [] = refl
map_drop f (suc n) (x ∷ xs) = map_drop f n xs

pub cut_lengths : (lengths texts : List ℕ) → sum_of lengths ≤ length texts → map length (cut_by lengths texts) ≡ lengths
unfolding cut_by sum_of
cut_lengths [] texts h = refl
cut_lengths (n ∷ ns) texts h = let l : length (take n texts) ≡ n = length-take-le n texts (omega arith) in
    ap (λ (k : ℕ). k ∷ map length (cut_by ns (drop n texts))) l ∙ ap (λ (ks : List ℕ). n ∷ ks) (cut_lengths ns (drop n texts) (omega (arith, length-drop n texts)))

pub item_lengths : (lengths texts : List ℕ) → sum_of lengths ≤ length texts → (at width : ℕ) → at + width ≤ length lengths →
    map length (item_at (starts_from 0 lengths) texts at width) ≡ take width (drop at lengths)
item_lengths lengths texts h at width k =
    ap (map length) (item_part lengths texts at width k) ∙ (map_take length width (drop at (cut_by lengths texts)) ∙ ap (take width) (map_drop length at
    (cut_by lengths texts) ∙ ap (drop at) (cut_lengths lengths texts h)))

-- ---- the bytes
module _ (starts texts : List ℕ) where
  pub starts_climb : (at width : ℕ) → Inside starts texts (at + width) → get_or starts at 0 ≤ get_or starts (at + width) 0
  starts_climb at zero c = let e : at + 0 ≡ at = omega arith in rw e (omega arith)
  starts_climb at (suc width) c = let e : at + suc width ≡ at + width + 1 = omega arith in
      let less = starts_climb at width (fewer_inside starts texts (at + suc width) (at + width) (omega arith) c) in
      let step = c.rise (at + width) (omega arith) in rw e (omega (arith, less, step))

  pub starts_most : (at : ℕ) → Inside starts texts at → 0 < at → get_or starts at 0 ≤ length texts
  starts_most zero c h = absurd (omega arith)
  starts_most (suc at) c h = rw (sym (add-one at)) (c.most at (omega arith))

  pub item_bytes : (at width : ℕ) → Inside starts texts (at + width)
      → joined (item_at starts texts at width) ≡ take (get_or starts (at + width) 0 - get_or starts at 0) (drop (get_or starts at 0) texts)
  unfolding item_at flat_map text_at
  item_bytes at zero c = let e : at + 0 ≡ at = omega arith in
      let z : get_or starts (at + 0) 0 - get_or starts at 0 ≡ 0 = let f : get_or starts (at + 0) 0 ≡ get_or starts at 0 = ap (λ (n : ℕ). get_or starts n 0) e in omega (arith, f) in
      sym (ap (λ (n : ℕ). take n (drop (get_or starts at 0) texts)) z)
  item_bytes at (suc width) c = let e : at + 1 + width ≡ at + suc width = omega arith in
      let inside : Inside starts texts (at + 1 + width) = fewer_inside starts texts (at + suc width) (at + 1 + width) (omega arith) c in
      let s0 : ℕ = get_or starts at 0 in let s1 : ℕ = get_or starts (at + 1) 0 in let s2 : ℕ = get_or starts (at + 1 + width) 0 in
      let up : get_or starts at 0 ≤ get_or starts (at + 1) 0 = c.rise at (omega arith) in
      let on : get_or starts (at + 1) 0 ≤ get_or starts (at + 1 + width) 0 = starts_climb (at + 1) width inside in
      let back : s0 + (s1 - s0) ≡ s1 = omega (arith, up) in let all : s1 - s0 + (s2 - s1) ≡ s2 - s0 = omega (arith, up, on) in
      ap (λ (l : List ℕ). take (s1 - s0) (drop s0 texts) ++ l) (item_bytes (at + 1) width inside) ∙ (ap (λ (l : List ℕ). take (s1 - s0) (drop s0 texts) ++ take
      (s2 - s1) l) (sym (drop-drop (s1 - s0) s0 texts ∙ ap (λ (n : ℕ). drop n texts) back)) ∙ (sym (take-add (s1 - s0) (s2 - s1) (drop s0 texts))
      ∙ (ap (λ (n : ℕ). take n (drop s0 texts)) all ∙ ap (λ (n : ℕ). take (get_or starts n 0 - s0) (drop s0 texts)) e)))
