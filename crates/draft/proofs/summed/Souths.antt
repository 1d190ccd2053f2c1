-- The lower latitudes of the yards, of their boxes. Assumes nothing.
use Rattle.numbers.proofs.Prelude.{ℕ, zero, suc, ◌+◌, ◌*◌, ◌≤◌, ◌<◌, ℤ, pos, length, get_or, length-map, lt_z, true, false, List, map, ◌≡◌, refl, sym, ap, subst, ◌∙◌, w32, SFits, of_z, to_z, arith}
use mir.Facts.{to_z-of_z}
use Rattle.builder.{proofs.{Bests.{Choosing, farthest_none, farthest_starts, read_back, choose_goes, choose_ends}, grouping.Listed.{numbers_many}}, specs.Entries.{greater, highest_of}}
use Rattle.builder.specs.Grouping.Keys.{numbers_from}
use Rattle.draft.specs.inner.Summed.Sums.{souths_of}

abbrev south_at : List ℤ → ℕ → ℤ
south_at boxes yard = get_or boxes (4 * yard) (pos 0)

pub souths_many : (boxes : List ℤ) (count : ℕ) → length (souths_of boxes count) ≡ count
unfolding souths_of
souths_many boxes count = length-map (numbers_from 0 count) (south_at boxes) ∙ numbers_many 0 count

at_number : (boxes : List ℤ) (i n j : ℕ) → j < n → get_or (map (south_at boxes) (numbers_from i n)) j (pos 0) ≡ south_at boxes (i + j)
unfolding numbers_from
at_number boxes i zero j h = absurd (omega arith)
at_number boxes i (suc n) zero h = let e : i ≡ i + 0 = omega arith in ap (south_at boxes) e
at_number boxes i (suc n) (suc j) h = let e : suc i + j ≡ i + suc j = omega arith in at_number boxes (suc i) n j (omega arith) ∙ ap (south_at boxes) e

pub south_stands : (boxes : List ℤ) (count yard : ℕ) → yard < count → get_or boxes (4 * yard) (pos 0) ≡ get_or (souths_of boxes count) yard (pos 0)
unfolding souths_of
south_stands boxes count yard h = let e : 0 + yard ≡ yard = omega arith in sym (at_number boxes 0 count yard h ∙ ap (south_at boxes) e)

-- ---- the loop over them
module _ (boxes : List ℤ) (count : ℕ) where
  -- the loop's invariant
  abbrev pub Seeking : ℤ → ℕ → Type 0
  Seeking so yard = Choosing greater (highest_of (souths_of boxes count)) (souths_of boxes count) so yard

  pub none_greatest : count ≡ 0 → pos 0 ≡ highest_of (souths_of boxes count)
  none_greatest e = farthest_none greater (souths_of boxes count) (souths_many boxes count ∙ e)

  pub seek_starts : (count ≡ 0 → ⊥) → SFits w32 (get_or boxes 0 (pos 0)) → Seeking (to_z w32 (of_z w32 (get_or boxes 0 (pos 0)))) 1
  seek_starts some h = let first : get_or boxes 0 (pos 0) ≡ get_or (souths_of boxes count) 0 (pos 0) = south_stands boxes count 0 (more some) in
      read_back greater (highest_of (souths_of boxes count)) (souths_of boxes count) (get_or boxes 0 (pos 0)) 1 h
      (subst (λ (z : ℤ). Seeking z 1) (sym first) (farthest_starts greater (souths_of boxes count) (λ e. some (sym (souths_many boxes count) ∙ e)))) where
        more : (count ≡ 0 → ⊥) → 0 < count
        more some = omega (arith, some)

  module _ (so : ℤ) (yard : ℕ) (s : Seeking so yard) where
    pub seek_goes : yard < count → (later : ℤ) → later ≡ greater so (get_or boxes (4 * yard) (pos 0)) → Seeking later (yard + 1)
    seek_goes h later e =
        choose_goes greater (highest_of (souths_of boxes count)) (souths_of boxes count) so yard s (omega (arith, h, souths_many boxes count)) later (e
        ∙ ap (greater so) (south_stands boxes count yard h))

    pub seek_up : yard < count → SFits w32 (get_or boxes (4 * yard) (pos 0)) → lt_z so (to_z w32 (of_z w32 (get_or boxes (4 * yard) (pos 0)))) ≡ true →
        Seeking (to_z w32 (of_z w32 (get_or boxes (4 * yard) (pos 0)))) (yard + 1)
    unfolding greater
    seek_up h k e = let south : ℤ = get_or boxes (4 * yard) (pos 0) in
        let f : lt_z so (get_or boxes (4 * yard) (pos 0)) ≡ true = ap (lt_z so) (sym (to_z-of_z k)) ∙ e in seek_goes h (to_z w32 (of_z w32 south)) (rw f (to_z-of_z k))

    pub seek_on : yard < count → SFits w32 (get_or boxes (4 * yard) (pos 0)) → lt_z so (to_z w32 (of_z w32 (get_or boxes (4 * yard) (pos 0)))) ≡ false → Seeking so (yard + 1)
    unfolding greater
    seek_on h k e = let f : lt_z so (get_or boxes (4 * yard) (pos 0)) ≡ false = ap (lt_z so) (sym (to_z-of_z k)) ∙ e in seek_goes h so (rw f refl)

    pub seek_ends : count ≤ yard → so ≡ highest_of (souths_of boxes count)
    seek_ends h = choose_ends greater (highest_of (souths_of boxes count)) (souths_of boxes count) so yard s (omega (arith, h, souths_many boxes count))
