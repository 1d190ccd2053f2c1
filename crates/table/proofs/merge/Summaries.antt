-- Summaries join as document 01 says of counts and of the last border verdict. Assumes nothing.
use Rattle.numbers.proofs.Prelude.{ℕ, zero, suc, ◌+◌, eq-eqb, ne_eqb, eqb, ℤ, pos, negsuc, ◌+ℤ◌, ◌-ℤ◌, neg_ℤ, Bool, true, false, List, [], ◌∷◌, ◌++◌, ◌≡◌, refl, sym, ap, ◌∙◌, arith}
use Rattle.numbers.specs.Answer.{if◌then◌else◌}
use lib.IntN.{+ℤ_assoc, +ℤ_comm, +ℤ_idl, +ℤ_idr, +ℤ_invr, -ℤ-+ℤ_cancel, pos-+ℤ-pos, neg_ℤ-+ℤ}
use Rattle.table.specs.{Merge.{Summary, summed, later, ◌⊕◌, empty, single, differs, group_kind, seen}, declared.hits.Hit.{Hit}}

-- ---- joining
suc_not : (n : ℕ) → eqb (suc n) 0 ≡ false
suc_not n = ne_eqb (suc n) 0 (λ e. omega (arith, e))

later_assoc : (a b c : ℕ) → (if eqb c 0 then (if eqb b 0 then a else b) else c) ≡ (if eqb (if eqb c 0 then b else c) 0 then a else (if eqb c 0 then b else c))
later_assoc a b zero = refl
later_assoc a b (suc c) = simp (suc_not c)

-- joining three summaries, it does not matter which two are joined first
pub join_associative : (s t u : Summary) → (s ⊕ t) ⊕ u ≡ s ⊕ (t ⊕ u)
join_associative s t u = λ i. summed (+ℤ_assoc s.balance t.balance u.balance i) (later_assoc s.border t.border u.border i)

last_kept : (b : ℕ) → (if eqb b 0 then 0 else b) ≡ b
last_kept zero = refl
last_kept (suc b) = simp (suc_not b)

-- an empty summary before another changes nothing
pub join_empty_left : (s : Summary) → empty ⊕ s ≡ s
join_empty_left s = λ i. summed (+ℤ_idl s.balance i) (last_kept s.border i)

-- an empty summary behind another changes nothing
pub join_empty_right : (s : Summary) → s ⊕ empty ≡ s
join_empty_right s = ap (λ (z : ℤ). summed z s.border) (+ℤ_idr s.balance)

-- ---- tallies
one_more : (a b : ℕ) → pos (a + 1) -ℤ pos b ≡ (pos a -ℤ pos b) +ℤ pos 1
one_more a b =
    ap (λ (z : ℤ). z -ℤ pos b) (sym (pos-+ℤ-pos a 1)) ∙ +ℤ_assoc (pos a) (pos 1) (neg_ℤ (pos b)) ∙ ap (λ (z : ℤ). pos a +ℤ z) (+ℤ_comm (pos 1) (neg_ℤ (pos b)))
    ∙ sym (+ℤ_assoc (pos a) (neg_ℤ (pos b)) (pos 1))

one_less : (a b : ℕ) → pos a -ℤ pos (b + 1) ≡ (pos a -ℤ pos b) +ℤ negsuc 0
one_less a b =
    ap (λ (z : ℤ). pos a -ℤ z) (sym (pos-+ℤ-pos b 1)) ∙ ap (λ (z : ℤ). pos a +ℤ z) (neg_ℤ-+ℤ (pos b) (pos 1)) ∙ sym (+ℤ_assoc (pos a) (neg_ℤ (pos b)) (negsuc 0))

module _ (inside excluded border kind : ℕ) where
  abbrev t : Summary
  t = summed (pos inside -ℤ pos excluded) border

  pub one_inside : kind ≡ 1 → summed (pos (inside + 1) -ℤ pos excluded) border ≡ t ⊕ single kind
  one_inside k = rw k (ap (λ (z : ℤ). summed z border) (one_more inside excluded))

  pub one_excluded : kind ≡ 2 → summed (pos inside -ℤ pos (excluded + 1)) border ≡ t ⊕ single kind
  one_excluded k = rw k (ap (λ (z : ℤ). summed z border) (one_less inside excluded))

  pub on_border : {last : ℕ} → (kind ≡ 1 → ⊥) → (kind ≡ 2 → ⊥) → last ≡ later border kind → summed (pos inside -ℤ pos excluded) last ≡ t ⊕ single kind
  on_border o e l =
      ap (summed (pos inside -ℤ pos excluded)) l ∙ simp (ne_eqb _ _ o, ne_eqb _ _ e) (ap (λ (b : ℤ). summed b (later border kind)) (sym (+ℤ_idr (pos inside -ℤ pos excluded))))

-- ---- the group's kind
differs_not : (z : ℤ) → (z ≡ pos 0 → ⊥) → differs z ≡ true
differs_not (pos zero) n = absurd (n refl)
differs_not (pos (suc k)) n = refl
differs_not (negsuc k) n = refl

not_zero : (a b : ℕ) → (a ≡ b → ⊥) → pos a -ℤ pos b ≡ pos 0 → ⊥
not_zero a b n e = let back : pos 0 +ℤ pos b ≡ pos a = ap (λ (z : ℤ). z +ℤ pos b) (sym e) ∙ -ℤ-+ℤ_cancel (pos a) (pos b) in
    let same : pos b ≡ pos a = sym (+ℤ_idl (pos b)) ∙ back in n (cc)

pub last_border : (z : ℤ) (border : ℕ) → (border ≡ 0 → ⊥) → border ≡ group_kind (summed z border)
last_border z border n = simp (ne_eqb _ _ n)

module _ (a b border : ℕ) (none : border ≡ 0) where
  pub counts_differ : (a ≡ b → ⊥) → 1 ≡ group_kind (summed (pos a -ℤ pos b) border)
  counts_differ n = simp (eq-eqb _ _ none, differs_not (pos a -ℤ pos b) (not_zero a b n))

  pub counts_equal : a ≡ b → 0 ≡ group_kind (summed (pos a -ℤ pos b) border)
  counts_equal e = simp (eq-eqb _ _ none, e, +ℤ_invr (pos b))

-- ---- which ids have a hit
-- an id is seen in two hit lists, one behind the other, where it is seen in either
pub seen_joined : (id : ℕ) (xs ys : List Hit) → seen id (xs ++ ys) ≡ (if seen id xs then true else seen id ys)
unfolding seen
seen_joined id [] ys = refl
seen_joined id (x ∷ xs) ys = go (eqb x.metadata id) (seen_joined id xs ys) where
  go : (b : Bool) → seen id (xs ++ ys) ≡ (if seen id xs then true else seen id ys) → (if b then true else seen id (xs ++ ys)) ≡ (if (if b then true else seen id xs) then true else seen id ys)
  go true e = refl
  go false e = e
