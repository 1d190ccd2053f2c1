-- A yard behind what the lists hold, and the lists cleared behind it. Assumes nothing.
use Rattle.numbers.proofs.Prelude.{ℕ, ◌+◌, ◌-◌, ◌≤◌, ℤ, length, take, drop, replicate, length-drop, sets, drop-length, drop-drop, take_all, sets-eq, List, [], ◌∷◌, ◌++◌, append_assoc, append-nil}
use Rattle.numbers.proofs.Prelude.{◌≡◌, sym, ap, ◌∙◌, arith}
use Rattle.builder.specs.{Entries.{box_of}, declared.boxes.Bounds.{Bounds}}
use Rattle.add.specs.inner.Offered.Puts.{corners_for, ended_at}

pub corners_put : (bounds : Bounds) (lats lons : List ℤ) → bounds ≡ box_of lats lons → (boxes after : List ℤ) (at : ℕ) →
    after ≡ sets boxes at (bounds.south ∷ bounds.west ∷ bounds.north ∷ bounds.east ∷ []) → after ≡ sets boxes at (corners_for lats lons)
corners_put bounds lats lons is boxes after at e = e ∙ ap (λ (b : Bounds). sets boxes at (b.south ∷ b.west ∷ b.north ∷ b.east ∷ [])) is

module _ {A : Type 0} where
  -- what `&mut list[at..]` lends is all that is behind
  lent_all : (list : List A) (at : ℕ) → take (length list - at) (drop at list) ≡ drop at list
  lent_all list at = take_all (length list - at) (drop at list) (omega (arith, length-drop at list))

  none_left : (list : List A) (at : ℕ) → drop (length list - at) (drop at list) ≡ []
  none_left list at = ap (λ (n : ℕ). drop n (drop at list)) (sym (length-drop at list)) ∙ drop-length (drop at list)

  back_all : (list part : List A) (at : ℕ) → take at list ++ (part ++ drop (length list - at) (drop at list)) ≡ take at list ++ part
  back_all list part at = ap (λ (l : List A). take at list ++ (part ++ l)) (none_left list at) ∙ ap (λ (l : List A). take at list ++ l) (append-nil part)

  -- stored from the front of such a part
  pub put_back : (list part more : List A) (at : ℕ) → at + length more ≤ length list → part ≡ sets (take (length list - at) (drop at list)) 0 more
      → take at list ++ (part ++ drop (length list - at) (drop at list)) ≡ sets list at more
  put_back list part more at h e = let fits : 0 + length more ≤ length (drop at list) = omega (arith, length-drop at list) in
      let here : part ≡ more ++ drop (0 + length more) (drop at list) = e ∙ (ap (λ (l : List A). sets l 0 more) (lent_all list at) ∙ sets-eq more (drop at list) 0 fits) in
      let far : at + (0 + length more) ≡ at + length more = omega arith in
      back_all list part at ∙ (ap (λ (l : List A). take at list ++ l) (here ∙ ap (λ (l : List A). more ++ l) (drop-drop (0 + length more) at list ∙ ap (λ (n : ℕ). drop n list) far))
      ∙ sym (sets-eq more list at h ∙ append_assoc (take at list) more (drop (at + length more) list)))

  pub cleared_back : (none : A) (list part : List A) (at : ℕ) → part ≡ replicate (length (take (length list - at) (drop at list))) none
      → take at list ++ (part ++ drop (length list - at) (drop at list)) ≡ ended_at none at list
  cleared_back none list part at e =
      let size : length (take (length list - at) (drop at list)) ≡ length list - at = ap length (lent_all list at) ∙ length-drop at list in
      back_all list part at ∙ ap (λ (l : List A). take at list ++ l) (e ∙ ap (λ (n : ℕ). replicate n none) size)
