-- The layout that the code works out is the definition's. Assumes nothing.
use Rattle.numbers.{proofs.Prelude.{ℕ, ◌+◌, length, List, [], ◌∷◌, map, ◌≡◌, refl, sym, ap, subst, ◌∙◌}, specs.Answer.{if◌then◌else◌}}
use Rattle.builder.{proofs.Shortest.{word_of, inline_of, layout_is, layout_least}, specs.{Metadata.{inlined, is_remote, layout_of}, Yards.{Text}}}
use Rattle.layout.specs.inner.Layout.{Least}
use Rattle.build.specs.inner.Metadata.Words.{word_in, inline_in}

inline_same : (fields ts : List Text) → inline_in fields ts ≡ inline_of fields ts
unfolding inline_in inline_of
inline_same fields [] = refl
inline_same fields (t ∷ ts) = ap (λ (n : ℕ). (if is_remote fields t then 0 else length (inlined t)) + n) (inline_same fields ts)

words_same : (fields ts : List Text) → map (word_in fields) ts ≡ map (word_of fields) ts
unfolding word_in
words_same fields [] = refl
words_same fields (t ∷ ts) = ap (λ (l : List ℕ). word_of fields t ∷ l) (words_same fields ts)

module _ (fields : List Text) (inline : ℕ) (words : List ℕ) (ei : inline ≡ inline_in fields fields) (ew : words ≡ map (word_in fields) fields) where
  -- the least length that fits is that of the definition
  pub layout_found : (records : ℕ) → Least inline words records → records ≡ layout_of fields
  layout_found records l = let a : Least (inline_of fields fields) words records = subst (λ (n : ℕ). Least n words records) (ei ∙ inline_same fields fields) l in
      let b : Least (inline_of fields fields) (map (word_of fields) fields) records = subst (λ (ws : List ℕ). Least (inline_of fields fields) ws records) (ew ∙ words_same fields fields) a in
      sym (layout_is fields records b)

  pub layout_there : Least inline words (layout_of fields)
  layout_there =
      let a : Least inline (map (word_of fields) fields) (layout_of fields) =
      subst (λ (n : ℕ). Least n (map (word_of fields) fields) (layout_of fields)) (sym (ei ∙ inline_same fields fields)) (layout_least fields) in
      subst (λ (ws : List ℕ). Least inline ws (layout_of fields)) (sym (ew ∙ words_same fields fields)) a
