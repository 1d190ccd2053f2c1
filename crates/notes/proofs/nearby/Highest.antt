-- The greatest lower latitude, with that of one yard more. Assumes nothing.
use Rattle.numbers.proofs.Prelude.{ℕ, ◌+◌, ◌*◌, ℤ, pos, length, get_or, length-map, lt_z, true, false, List, [], ◌∷◌, ◌++◌, map, ◌≡◌, refl, sym, ap, ◌∙◌, w32, SFits, of_z, to_z}
use mir.Facts.{to_z-of_z}
use Rattle.builder.{proofs.{Bests.{greater_second, greater_first}, grouping.Listed.{numbers_many}}, specs.{Entries.{best_by, farthest_of, greater, highest_of}, Grouping.Keys.{numbers_from}}}
use Rattle.build.proofs.metadata.Shared.{map_more}
use Rattle.notes.proofs.nearby.Seeks.{numbers_one}
use Rattle.draft.specs.inner.Summed.Sums.{souths_of}

best_more : (best : ℤ → ℤ → ℤ) (z : ℤ) (zs : List ℤ) (last : ℤ) → best_by best z (zs ++ (last ∷ [])) ≡ best (best_by best z zs) last
unfolding best_by
best_more best z [] last = refl
best_more best z (x ∷ zs) last = best_more best (best z x) zs last

highest_more : (zs : List ℤ) (last : ℤ) → (length zs ≡ 0 → ⊥) → highest_of (zs ++ (last ∷ [])) ≡ greater (highest_of zs) last
unfolding farthest_of
highest_more [] last some = absurd (some refl)
highest_more (z ∷ zs) last some = best_more greater z zs last

module _ (boxes : List ℤ) (count : ℕ) where
  abbrev south : ℤ
  south = get_or boxes (4 * count) (pos 0)

  souths_more : souths_of boxes (count + 1) ≡ souths_of boxes count ++ (get_or boxes (4 * count) (pos 0) ∷ [])
  unfolding souths_of
  souths_more = let at : ℕ → ℤ = λ yard. get_or boxes (4 * yard) (pos 0) in ap (map at) (numbers_one count) ∙ map_more at (numbers_from 0 count) (count ∷ [])

  module _ (greatest : ℤ) (k : SFits w32 (get_or boxes (4 * count) (pos 0))) where
    abbrev Right : ℤ → Type 0
    Right r = greatest ≡ highest_of (souths_of boxes count) → r ≡ highest_of (souths_of boxes (count + 1))

    pub only : count ≡ 0 → Right (to_z w32 (of_z w32 (get_or boxes (4 * count) (pos 0))))
    unfolding souths_of farthest_of best_by numbers_from
    only z e = to_z-of_z k ∙ sym (ap highest_of souths_more ∙ ap (λ (n : ℕ). highest_of (souths_of boxes n ++ (south ∷ []))) z)

    module _ (some : count ≡ 0 → ⊥) (h : SFits w32 greatest) where
      with_last : greatest ≡ highest_of (souths_of boxes count) → greater greatest south ≡ highest_of (souths_of boxes (count + 1))
      unfolding souths_of
      with_last e =
          let many : length (souths_of boxes count) ≡ count = length-map (numbers_from 0 count) (λ (yard : ℕ). get_or boxes (4 * yard) (pos 0)) ∙ numbers_many 0 count in
          ap (λ (z : ℤ). greater z south) e ∙ sym (ap highest_of souths_more ∙ highest_more (souths_of boxes count) south (λ none. some (sym many ∙ none)))

      pub above : lt_z (to_z w32 (of_z w32 greatest)) (to_z w32 (of_z w32 (get_or boxes (4 * count) (pos 0)))) ≡ true → Right (to_z w32 (of_z w32 (get_or boxes (4 * count) (pos 0))))
      above t e = greater_second h k t ∙ with_last e

      pub not_above : lt_z (to_z w32 (of_z w32 greatest)) (to_z w32 (of_z w32 (get_or boxes (4 * count) (pos 0)))) ≡ false → Right (to_z w32 (of_z w32 greatest))
      not_above t e = greater_first h k t ∙ with_last e
