-- What holds of each hit, carried to the matches that the hits are merged to. Assumes nothing.
use Rattle.numbers.{proofs.Prelude.{eqb, Bool, true, false, List, [], ◌∷◌, ◌++◌, ◌≡◌, refl}, specs.Answer.{if◌then◌else◌}}
use Rattle.table.specs.{Hits.{hit_of}, Merge.{group_kind, summary, seen, merged_after}, declared.hits.Hit.{Hit}}

-- each hit of a list
pub data Each (P : Hit → Type 0) : List Hit → Type 0 where
  end : Each P []
  next : {hit : Hit} {hits : List Hit} → P hit → Each P hits → Each P (hit ∷ hits)

pub both : {P : Hit → Type 0} {xs ys : List Hit} → Each P xs → Each P ys → Each P (xs ++ ys)
both end k = k
both (next h hs) k = next h (both hs k)

pub each_so : {P Q : Hit → Type 0} → ((hit : Hit) → P hit → Q hit) → {hits : List Hit} → Each P hits → Each Q hits
each_so so end = end
each_so so (next {hit} h hs) = next (so hit h) (each_so so hs)

pub either : {A : Type 0} (Q : A → Type 0) (test : Bool) {a b : A} → (test ≡ true → Q a) → (test ≡ false → Q b) → Q (if test then a else b)
either Q true h k = h refl
either Q false h k = k refl

-- what a group's match has from its first hit and those behind it; a group of kind 0 has none
abbrev pub Grouped : (Hit → Type 0) → (Hit → Type 0) → Type 0
Grouped P Q =
    (hit : Hit) (hits : List Hit) → P hit → Each P hits → eqb (group_kind (summary hit.metadata (hit ∷ hits))) 0 ≡ false
    → Q (hit_of hit.polygon hit.metadata (group_kind (summary hit.metadata (hit ∷ hits))) hit.place)

pub merged_each : {P Q : Hit → Type 0} → Grouped P Q → (before : List Hit) {hits : List Hit} → Each P hits → Each Q (merged_after before hits)
unfolding merged_after
merged_each group before end = end
merged_each {Q = Q} group before (next {hit} {hits} h hs) =
    both (either (Each Q) (seen hit.metadata before) (λ e. end) (λ e. either (Each Q) (eqb (group_kind (summary hit.metadata (hit ∷ hits))) 0) (λ f. end)
    (λ f. next (group hit hits h hs f) end))) (merged_each group (before ++ hit ∷ []) hs)
