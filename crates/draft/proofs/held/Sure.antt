-- An add whose step is sure: every value of the new record is empty, stands behind the records already, or stands nowhere else. Assumes nothing.
use Rattle.numbers.proofs.Prelude.{ℕ, ◌+◌, ◌≤◌, eq-eqb, le-leb, leb-true, lt-leb, eqb, leb, length, Bool, true, false, ◌&&◌, ◌||◌, not, List, [], ◌∷◌, ◌++◌, map, append_assoc, append-nil, ◌≡◌, refl}
use Rattle.numbers.{proofs.Prelude.{sym, ap, subst, ◌∙◌, arith}, specs.Answer.{if◌then◌else◌}}
use Rattle.builder.{proofs.{Shortest.{word_of, inline_of, layout_is, layout_least}, grouping.{Keyed.{text_equal}, Meant.{text_itself}}}, specs.Metadata.{is_remote, remotes, offset_of, layout_of}}
use Rattle.builder.specs.{Sharing.{same_text, is_in, times_in, firsts_after, good_ones}, Yards.{Text}}
use Rattle.layout.{proofs.Everyone.{Every}, specs.inner.Layout.{words_size, Least}}
use Rattle.build.proofs.metadata.{Offsets.{used_plain, used_again}, Shared.{map_more}}
use Rattle.draft.proofs.held.Longer.{longer}

-- ---- how often, of two lists
pub times_more : (t : Text) (xs ys : List Text) → times_in same_text t (xs ++ ys) ≡ times_in same_text t xs + times_in same_text t ys
unfolding times_in
times_more t [] ys = omega arith
times_more t (x ∷ xs) ys = omega (arith, times_more t xs ys)

pub in_more : (t : Text) (xs ys : List Text) → is_in same_text t xs ≡ true → is_in same_text t (xs ++ ys) ≡ true
unfolding is_in
in_more t [] ys e = let z : ◌≡◌ {A = ℕ} 0 1 = cc in absurd (omega arith)
in_more t (x ∷ xs) ys e = go (same_text t x) (in_more t xs ys) e where
  go : (b : Bool) → (is_in same_text t xs ≡ true → is_in same_text t (xs ++ ys) ≡ true) → (b || is_in same_text t xs) ≡ true → (b || is_in same_text t (xs ++ ys)) ≡ true
  go true k e = refl
  go false k e = k e

pub times_none : (t : Text) (xs : List Text) → is_in same_text t xs ≡ false → times_in same_text t xs ≡ 0
unfolding is_in times_in
times_none t [] e = refl
times_none t (x ∷ xs) e = go (same_text t x) (times_none t xs) e where
  go : (b : Bool) → (is_in same_text t xs ≡ false → times_in same_text t xs ≡ 0) → (b || is_in same_text t xs) ≡ false → (if b then 1 else 0) + times_in same_text t xs ≡ 0
  go true k e = let z : ◌≡◌ {A = ℕ} 0 1 = cc in absurd (omega arith)
  go false k e = omega (arith, k e)

-- what is found is in the list
times_some : (t : Text) (xs : List Text) → 1 ≤ times_in same_text t xs → is_in same_text t xs ≡ true
times_some t xs h = go (is_in same_text t xs) refl where
  go : (b : Bool) → is_in same_text t xs ≡ b → b ≡ true
  go true e = refl
  go false e = absurd (omega (arith, h, times_none t xs e))

-- what holds of every text of a list holds of one that is in it
of_one : (P : Text → Type 0) (t : Text) (xs : List Text) → Every P xs → is_in same_text t xs ≡ true → P t
unfolding Every is_in
of_one P t [] h e = let z : ◌≡◌ {A = ℕ} 0 1 = cc in absurd (omega arith)
of_one P t (x ∷ xs) h e = go (same_text t x) refl e (of_one P t xs h.1) where
  go : (b : Bool) → same_text t x ≡ b → (b || is_in same_text t xs) ≡ true → (is_in same_text t xs ≡ true → P t) → P t
  go true is e k = subst P (sym (text_equal t x is)) h.0
  go false is e k = k e

-- what stands behind the records is found in them
pub in_fields : (fields : List Text) (t : Text) → is_remote fields t ≡ true → is_in same_text t fields ≡ true
unfolding is_remote
in_fields fields t e = times_some t fields (some (not (eqb (length t) 0)) e) where
  some : (b : Bool) → (b && leb 2 (times_in same_text t fields)) ≡ true → 1 ≤ times_in same_text t fields
  some true e = omega (arith, leb-true 2 (times_in same_text t fields) e)
  some false e = let z : ◌≡◌ {A = ℕ} 0 1 = cc in absurd (omega arith)

module _ (fields new : List Text) where
  pub data Sure (t : Text) : Type 0 where
    empty : length t ≡ 0 → Sure t
    far : is_remote fields t ≡ true → Sure t
    alone : times_in same_text t fields ≡ 0 → times_in same_text t new ≡ 1 → Sure t

  module _ (sure : Every Sure new) where
    -- nothing turns remote, and nothing inline
    pub same_remote : (t : Text) → is_remote (fields ++ new) t ≡ is_remote fields t
    unfolding is_remote
    same_remote t = go (is_in same_text t new) refl where
      found : ℕ
      found = times_in same_text t fields

      by : Sure t → (not (eqb (length t) 0) && leb 2 (times_in same_text t (fields ++ new))) ≡ (not (eqb (length t) 0) && leb 2 (times_in same_text t fields))
      by (empty e) = rw (eq-eqb (length t) 0 e) refl
      by (far e) = some (not (eqb (length t) 0)) e where
        some : (b : Bool) → (b && leb 2 (times_in same_text t fields)) ≡ true → (b && leb 2 (times_in same_text t (fields ++ new))) ≡ (b && leb 2 (times_in same_text t fields))
        some true e = le-leb 2 (times_in same_text t (fields ++ new)) (omega (arith, leb-true 2 (times_in same_text t fields) e, times_more t fields new)) ∙ sym e
        some false e = refl
      by (alone none one) =
          ap (λ (b : Bool). not (eqb (length t) 0) && b)
          (lt-leb 2 (times_in same_text t (fields ++ new)) (omega (arith, none, one, times_more t fields new)) ∙ sym (lt-leb 2 (times_in same_text t fields) (omega (arith, none))))

      go : (b : Bool) → is_in same_text t new ≡ b → (not (eqb (length t) 0) && leb 2 (times_in same_text t (fields ++ new))) ≡ (not (eqb (length t) 0) && leb 2 (times_in same_text t fields))
      go true e = by (of_one Sure t new sure e)
      go false e = let same : times_in same_text t (fields ++ new) ≡ times_in same_text t fields = omega (arith, times_more t fields new, times_none t new e) in
          ap (λ (n : ℕ). not (eqb (length t) 0) && leb 2 n) same

    -- no text comes to stand behind the records
    used_same : (xs ys : List Text) → ((t : Text) → is_remote fields t ≡ true → is_in same_text t xs ≡ true)
        → firsts_after same_text [] (good_ones (is_remote fields) (xs ++ ys)) ≡ firsts_after same_text [] (good_ones (is_remote fields) xs)
    used_same xs [] h = ap (λ (l : List Text). firsts_after same_text [] (good_ones (is_remote fields) l)) (append-nil xs)
    used_same xs (y ∷ ys) h =
        ap (λ (l : List Text). firsts_after same_text [] (good_ones (is_remote fields) l)) (sym (append_assoc xs (y ∷ []) ys))
        ∙ (used_same (xs ++ (y ∷ [])) ys (λ t e. in_more t xs (y ∷ []) (h t e)) ∙ go (is_remote fields y) refl) where
          go : (b : Bool) → is_remote fields y ≡ b → firsts_after same_text [] (good_ones (is_remote fields) (xs ++ (y ∷ []))) ≡ firsts_after same_text [] (good_ones (is_remote fields) xs)
          go true e = used_again same_text text_equal text_itself (is_remote fields) (λ t. length t) xs y e (h y e)
          go false e = used_plain same_text text_equal text_itself (is_remote fields) (λ t. length t) xs y e

    good_same : (xs : List Text) → good_ones (is_remote (fields ++ new)) xs ≡ good_ones (is_remote fields) xs
    unfolding good_ones
    good_same [] = refl
    good_same (x ∷ xs) = rw (same_remote x, good_same xs) refl

    pub same_remotes : remotes (fields ++ new) ≡ remotes fields
    unfolding remotes
    same_remotes = ap (firsts_after same_text []) (good_same (fields ++ new)) ∙ used_same fields new (in_fields fields)

    same_word : (t : Text) → word_of (fields ++ new) t ≡ word_of fields t
    unfolding offset_of
    same_word t = rw (same_remote t, same_remotes) refl

    pub words_same : (xs : List Text) → map (word_of (fields ++ new)) xs ≡ map (word_of fields) xs
    words_same [] = refl
    words_same (x ∷ xs) = rw (same_word x, words_same xs) refl

    pub inline_same : (xs : List Text) → inline_of (fields ++ new) xs ≡ inline_of fields xs
    unfolding inline_of
    inline_same [] = refl
    inline_same (x ∷ xs) = rw (same_remote x, inline_same xs) refl

    inline_more : (xs ys : List Text) → inline_of fields (xs ++ ys) ≡ inline_of fields xs + inline_of fields ys
    unfolding inline_of
    inline_more [] ys = omega arith
    inline_more (x ∷ xs) ys = omega (arith, inline_more xs ys)

    -- the layout is longer by the new record, if no word changes its length
    pub sure_layout : (by : ℕ) → by ≡ inline_of fields new + words_size (map (word_of fields) new) (layout_of fields)
        → words_size (map (word_of fields) fields ++ map (word_of fields) new) (layout_of fields + by) ≡ words_size (map (word_of fields) fields ++ map (word_of fields) new) (layout_of fields)
        → layout_of (fields ++ new) ≡ layout_of fields + by
    sure_layout by size steady =
        let least = longer (inline_of fields fields) (inline_of fields new) (map (word_of fields) fields) (map (word_of fields) new) (layout_of fields) by (layout_least fields) size steady in
        let inline : inline_of (fields ++ new) (fields ++ new) ≡ inline_of fields fields + inline_of fields new = inline_same (fields ++ new) ∙ inline_more fields new in
        let words : map (word_of (fields ++ new)) (fields ++ new) ≡ map (word_of fields) fields ++ map (word_of fields) new = words_same (fields ++ new) ∙ map_more (word_of fields) fields new in
        layout_is (fields ++ new) (layout_of fields + by) (subst (λ (n : ℕ). Least n (map (word_of (fields ++ new)) (fields ++ new)) (layout_of fields + by))
        (sym inline) (subst (λ (l : List ℕ). Least (inline_of fields fields + inline_of fields new) l (layout_of fields + by)) (sym words) least))
