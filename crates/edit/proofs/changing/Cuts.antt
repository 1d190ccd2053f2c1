-- Lists that are cut, one after another. Assumes nothing.
use Rattle.numbers.proofs.Prelude.{ℕ, ◌-◌, ◌≤◌, ℤ, pos, length, take, drop, replicate, length-append, length-take, length-replicate, List, ◌++◌, ◌≡◌, refl, ap, subst, ◌∙◌, arith}
use Rattle.draft.{proofs.held.Fronts.{cleared, front_cut, front_of_more}, specs.Held.State.{Front, Lists, SameRooms, lists_as}}
use Rattle.edit.specs.{declared.changing.cut.Ends.{Ends}, inner.Changing.Cut.{cut_at, cut_to, Inside}}

-- what comes back for `&mut list[at..]`, zero
pub cut_back : {A : Type 0} (none : A) (list lent : List A) (at : ℕ) → lent ≡ replicate (length (take (length list - at) (drop at list))) none →
    take at list ++ (lent ++ drop (length list - at) (drop at list)) ≡ cut_at none at list
unfolding cut_at
cut_back none list lent at e = cleared none list lent at (length list) refl e

-- lists that are the same, one by one
pub lists_same : (boxes boxes' : List ℤ) (borders borders' lengths lengths' texts texts' bytes bytes' : List ℕ) → boxes ≡ boxes' → borders ≡ borders'
    → lengths ≡ lengths' → texts ≡ texts' → bytes ≡ bytes' → lists_as boxes borders lengths texts bytes ≡ lists_as boxes' borders' lengths' texts' bytes'
lists_same boxes boxes' borders borders' lengths lengths' texts texts' bytes bytes' a b c d e =
    ap (λ (l : List ℤ). lists_as l borders lengths texts bytes) a ∙ (ap (λ (l : List ℕ). lists_as boxes' l lengths texts bytes) b
    ∙ (ap (λ (l : List ℕ). lists_as boxes' borders' l texts bytes) c ∙ (ap (λ (l : List ℕ). lists_as boxes' borders' lengths' l bytes) d
    ∙ ap (λ (l : List ℕ). lists_as boxes' borders' lengths' texts' l) e)))

module _ (ends : Ends) (boxes : List ℤ) (borders lengths texts bytes : List ℕ) (boxes' : List ℤ) (borders' lengths' texts' bytes' : List ℕ) where
  pub all_cut : boxes' ≡ cut_at (pos 0) ends.boxes boxes → borders' ≡ cut_at 0 ends.borders borders → lengths' ≡ cut_at 0 ends.lengths lengths
      → texts' ≡ cut_at 0 ends.texts texts → bytes' ≡ cut_at 0 ends.bytes bytes → lists_as boxes' borders' lengths' texts' bytes' ≡ cut_to ends (lists_as boxes borders lengths texts bytes)
  unfolding cut_to
  all_cut a b c d e = lists_same boxes' (cut_at (pos 0) ends.boxes boxes) borders' (cut_at 0 ends.borders borders) lengths' (cut_at 0 ends.lengths lengths) texts'
      (cut_at 0 ends.texts texts) bytes' (cut_at 0 ends.bytes bytes) a b c d e

-- ---- what a cut leaves
pub cut_length : {A : Type 0} (none : A) (n : ℕ) (list : List A) → n ≤ length list → length (cut_at none n list) ≡ length list
unfolding cut_at
cut_length none n list h =
    length-append (take n list) (replicate (length list - n) none) ∙ omega (arith, length-take n list, length-replicate (length list - n) none, h)

-- a list that begins with more
pub cut_front : {A : Type 0} (none : A) (front more all list : List A) → all ≡ front ++ more → Front none all list → (n : ℕ) → n ≡ length front → Front none front (cut_at none n list)
unfolding cut_at
cut_front {A} none front more all list e f n same =
    front_cut none front list n same (front_of_more none front more (subst (λ (l : List A). Front none l list) e f)) (take n list ++ replicate (length list - n) none) refl

pub cut_all : {A : Type 0} (none : A) (list : List A) → cut_at none 0 list ≡ replicate (length list) none
unfolding cut_at
cut_all none list = let e : length list - 0 ≡ length list = omega arith in ap (λ (n : ℕ). replicate n none) e

pub cut_rooms : (ends : Ends) (before : Lists) → Inside ends before → SameRooms before (cut_to ends before)
unfolding cut_to
cut_rooms ends before i =
    record {
      boxes = cut_length (pos 0) ends.boxes before.boxes i.boxes_in;
      borders = cut_length 0 ends.borders before.borders i.borders_in;
      lengths = cut_length 0 ends.lengths before.lengths i.lengths_in;
      texts = cut_length 0 ends.texts before.texts i.texts_in;
      bytes = cut_length 0 ends.bytes before.bytes i.bytes_in;
    }
