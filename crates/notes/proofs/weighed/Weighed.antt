-- The values of a new record, one after another: each is empty, stands behind the records, or was not met before. Then its step is sure. Assumes nothing.
use Rattle.numbers.proofs.Prelude.{ℕ, ◌+◌, eqb-true, eqb-false, eqb, length, Bool, true, false, ◌||◌, List, [], ◌∷◌, ◌++◌, append_assoc, ◌≡◌, refl, sym, ap, subst, ◌∙◌, arith}
use Rattle.numbers.{proofs.Tests.{neither}, specs.Answer.{if◌then◌else◌}}
use Rattle.builder.{proofs.grouping.{Keyed.{text_equal}, Meant.{text_itself}}, specs.{Metadata.{is_remote}, Sharing.{same_text, is_in, times_in}, Yards.{Text}}}
use Rattle.draft.proofs.held.Sure.{Sure, empty, far, alone, times_none, times_more, in_more}
use Rattle.layout.proofs.Everyone.{Every}
use Rattle.notes.specs.inner.Weighed.Weights.{Weight, Weighed, nothing, behind, unmet}

-- ---- in one list or another
pub not_in_both : (t : Text) (xs ys : List Text) → is_in same_text t (xs ++ ys) ≡ false → (is_in same_text t xs ≡ false) × (is_in same_text t ys ≡ false)
unfolding is_in
not_in_both t [] ys e = (refl, e)
not_in_both t (x ∷ xs) ys e = let two = neither (same_text t x) (is_in same_text t (xs ++ ys)) e in let rest = not_in_both t xs ys two.1 in
    (ap (λ (b : Bool). b || is_in same_text t xs) two.0 ∙ rest.0, rest.1)

pub in_neither : (t : Text) (xs ys : List Text) → is_in same_text t xs ≡ false → is_in same_text t ys ≡ false → is_in same_text t (xs ++ ys) ≡ false
unfolding is_in
in_neither t [] ys a b = b
in_neither t (x ∷ xs) ys a b = let two = neither (same_text t x) (is_in same_text t xs) a in
    ap (λ (c : Bool). c || is_in same_text t (xs ++ ys)) two.0 ∙ in_neither t xs ys two.1 b

in_last : (t : Text) (xs : List Text) → is_in same_text t (xs ++ (t ∷ [])) ≡ true
unfolding is_in
in_last t [] = ap (λ (b : Bool). b || false) (text_itself t)
in_last t (x ∷ xs) = go (same_text t x) (in_last t xs) where
  go : (b : Bool) → is_in same_text t (xs ++ (t ∷ [])) ≡ true → (b || is_in same_text t (xs ++ (t ∷ []))) ≡ true
  go true k = refl
  go false k = k

times_own : (t : Text) (ts : List Text) → times_in same_text t (t ∷ ts) ≡ 1 + times_in same_text t ts
unfolding times_in
times_own t ts = ap (λ (b : Bool). (if b then 1 else 0) + times_in same_text t ts) (text_itself t)

-- ---- one after another
module _ (fields values : List Text) where
  -- a text that is neither empty nor behind the records, and was met before, comes no more
  no_more : (t : Text) → (length t ≡ 0 → ⊥) → is_remote fields t ≡ false → (seen ts : List Text) → Weighed fields values seen ts → is_in same_text t seen ≡ true → times_in same_text t ts ≡ 0
  unfolding Weighed times_in
  no_more t some near seen [] w e = refl
  no_more t some near seen (x ∷ ts) w e = go (same_text t x) refl w.0 (no_more t some near (seen ++ (x ∷ [])) ts w.1 (in_more t seen (x ∷ []) e)) where
    never : true ≡ false → ⊥
    never z = let n : ◌≡◌ {A = ℕ} 0 1 = cc in omega arith

    go : (b : Bool) → same_text t x ≡ b → Weight fields values seen x → times_in same_text t ts ≡ 0 → (if b then 1 else 0) + times_in same_text t ts ≡ 0
    go true is (nothing z) k = absurd (some (ap length (text_equal t x is) ∙ z))
    go true is (behind z) k = absurd (never (sym z ∙ (ap (is_remote fields) (sym (text_equal t x is)) ∙ near)))
    go true is (unmet z) k = absurd (never (sym e ∙ (ap (λ (u : Text). is_in same_text u seen) (text_equal t x is) ∙ (not_in_both x values seen z).1)))
    go false is w k = omega (arith, k)

  module _ (among : (t : Text) → is_in same_text t values ≡ false → is_in same_text t fields ≡ false) where
    once : (seen : List Text) (t : Text) (ts : List Text) → Weight fields values seen t → Weighed fields values (seen ++ (t ∷ [])) ts → Sure fields (seen ++ (t ∷ ts)) t
    once seen t ts (nothing z) w = empty z
    once seen t ts (behind z) w = far z
    once seen t ts (unmet z) w = go (eqb (length t) 0) refl (is_remote fields t) refl where
      go : (a : Bool) → eqb (length t) 0 ≡ a → (b : Bool) → is_remote fields t ≡ b → Sure fields (seen ++ (t ∷ ts)) t
      go true ea b eb = empty (eqb-true (length t) 0 ea)
      go false ea true eb = far eb
      go false ea false eb = let two = not_in_both t values seen z in
          alone (times_none t fields (among t two.0))
          (omega (arith, times_more t seen (t ∷ ts), times_none t seen two.1, times_own t ts, no_more t (eqb-false (length t) 0 ea) eb (seen ++ (t ∷ [])) ts w (in_last t seen)))

    sure_from : (seen ts : List Text) → Weighed fields values seen ts → Every (Sure fields (seen ++ ts)) ts
    unfolding Weighed Every
    sure_from seen [] w = tt
    sure_from seen (t ∷ ts) w =
        (once seen t ts w.0 w.1, subst (λ (l : List Text). Every (Sure fields l) ts) (append_assoc seen (t ∷ []) ts) (sure_from (seen ++ (t ∷ [])) ts w.1))

    -- The step is sure.
    pub weighed_sure : (new : List Text) → Weighed fields values [] new → Every (Sure fields new) new
    weighed_sure new w = sure_from [] new w
