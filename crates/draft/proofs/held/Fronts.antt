-- A list that begins so, and has one item everywhere behind: what is read of it, put behind it, and cut off. Assumes nothing.
use Rattle.numbers.proofs.Prelude.{ℕ, zero, suc, ◌+◌, ◌-◌, ◌≤◌, ◌<◌, length, take, drop, set, replicate, length-append, length-drop, length-take, length-replicate, sets, take_at, drop-drop, take_all}
use Rattle.numbers.proofs.Prelude.{drop_at, length-sets, sets-eq, List, [], ◌∷◌, ◌++◌, append_assoc, append-nil, ◌≡◌, refl, sym, ap, ◌∙◌, arith}
use lib.Seq.{set-append_left, take-set-le}
use Rattle.draft.specs.Held.State.{Front}

module _ {A : Type 0} where
  -- what is stored from a place on leaves what is before it
  pub take_sets : (n : ℕ) (list : List A) (at : ℕ) (more : List A) → n ≤ at → take n (sets list at more) ≡ take n list
  take_sets n list at [] h = refl
  take_sets n list at (x ∷ more) h = take_sets n (set list at x) (suc at) more (omega arith) ∙ take-set-le n list at x h

module _ {A : Type 0} (none : A) where
  pub replicate_drop : (k n : ℕ) → drop k (replicate n none) ≡ replicate (n - k) none
  replicate_drop zero n = let e : n ≡ n - 0 = omega arith in ap (λ (m : ℕ). replicate m none) e
  replicate_drop (suc k) zero = let e : 0 ≡ 0 - suc k = omega arith in ap (λ (m : ℕ). replicate m none) e
  replicate_drop (suc k) (suc n) = let e : n - k ≡ suc n - suc k = omega arith in replicate_drop k n ∙ ap (λ (m : ℕ). replicate m none) e

  -- ---- how a list comes to be so
  pub front_made : (front list : List A) (n : ℕ) → list ≡ front ++ replicate n none → Front none front list
  front_made front list n e =
      let size : length list ≡ length front + n = ap length e ∙ (length-append front (replicate n none) ∙ ap (λ (k : ℕ). length front + k) (length-replicate n none)) in
      let left : n ≡ length list - length front = omega (arith, size) in
      record { room = omega (arith, size); is = e ∙ ap (λ (k : ℕ). front ++ replicate k none) left }

  pub front_zero : (n : ℕ) → Front none [] (replicate n none)
  front_zero n = front_made [] (replicate n none) n refl

  module _ {front list : List A} (f : Front none front list) where
    -- ---- what is read of it
    pub front_take : take (length front) list ≡ front
    front_take = ap (take (length front)) f.is ∙ take_at front (replicate (length list - length front) none) (length front) refl

    pub front_rest : drop (length front) list ≡ replicate (length list - length front) none
    front_rest = ap (drop (length front)) f.is ∙ drop_at front (replicate (length list - length front) none) (length front) refl

    -- behind a place at or behind the front there is nothing
    pub front_behind : (n : ℕ) → drop (length front + n) list ≡ replicate (length list - (length front + n)) none
    front_behind n = let e : length list - length front - n ≡ length list - (length front + n) = omega arith in
        sym (drop-drop n (length front) list) ∙ (ap (drop n) front_rest ∙ (replicate_drop n (length list - length front) ∙ ap (λ (k : ℕ). replicate k none) e))

    -- its length alone makes it: two that begin so are one
    pub front_one : {other : List A} → Front none front other → length other ≡ length list → other ≡ list
    front_one {other} g e = g.is ∙ (ap (λ (n : ℕ). front ++ replicate (n - length front) none) e ∙ sym f.is)

    -- ---- what is changed in it
    pub front_put : (more after : List A) → length front + length more ≤ length list → after ≡ sets list (length front) more → Front none (front ++ more) after
    front_put more after h e =
        front_made (front ++ more) after (length list - (length front + length more)) (e ∙ (sets-eq more list (length front) h
        ∙ (ap (λ (l : List A). l ++ more ++ drop (length front + length more) list) front_take ∙ ap (λ (l : List A). front ++ more ++ l) (front_behind (length more)))))

    pub front_set : (i : ℕ) (x : A) → i < length front → Front none (set front i x) (set list i x)
    front_set i x h =
        front_made (set front i x) (set list i x) (length list - length front) (ap (λ (l : List A). set l i x) f.is ∙ set-append_left front (replicate (length list - length front) none) i x h)

    -- ---- a part of it, `&list[from..to]`
    pub front_part : (a b c : List A) → front ≡ a ++ (b ++ c) → (from to : ℕ) → from ≡ length a → to ≡ length a + length b → take (to - from) (drop from list) ≡ b
    front_part a b c e from to at end = let rest : List A = replicate (length list - length front) none in
        let size : length b ≡ to - from = omega (arith, at, end) in
        let all : list ≡ a ++ (b ++ (c ++ rest)) = f.is ∙ (ap (λ (l : List A). l ++ rest) e ∙ (append_assoc a (b ++ c) rest ∙ ap (λ (l : List A). a ++ l) (append_assoc b c rest))) in
        ap (λ (l : List A). take (to - from) (drop from l)) all ∙ (ap (take (to - from)) (drop_at a (b ++ (c ++ rest)) from (sym at)) ∙ take_at b (c ++ rest) (to - from) size)

  pub front_slice : (a b : List A) {list : List A} → Front none (a ++ b) list → (from to : ℕ) → from ≡ length a → to ≡ length (a ++ b) → take (to - from) (drop from list) ≡ b
  front_slice a b f from to at end = front_part f a b [] (ap (λ (l : List A). a ++ l) (sym (append-nil b))) from to at (end ∙ length-append a b)

  -- ---- what was cut off: `&mut list[at..]` with nothing written over it
  pub cleared : (list lent : List A) (at to : ℕ) → to ≡ length list → lent ≡ replicate (length (take (to - at) (drop at list))) none
      → take at list ++ (lent ++ drop (to - at) (drop at list)) ≡ take at list ++ replicate (length list - at) none
  cleared list lent at to end e = let size : length (drop at list) ≤ to - at = omega (arith, length-drop at list, end) in
      let gone : drop (to - at) (drop at list) ≡ [] = ended (drop at list) (to - at) size in
      let all : take (to - at) (drop at list) ≡ drop at list = take_all (to - at) (drop at list) size in
      let lies : lent ≡ replicate (length list - at) none = e ∙ (ap (λ (l : List A). replicate (length l) none) all ∙ ap (λ (n : ℕ). replicate n none) (length-drop at list)) in
      ap (λ (l : List A). take at list ++ (lent ++ l)) gone ∙ (ap (λ (l : List A). take at list ++ l) (append-nil lent) ∙ ap (λ (l : List A). take at list ++ l) lies) where
        ended : (l : List A) (n : ℕ) → length l ≤ n → drop n l ≡ []
        ended [] zero h = refl
        ended [] (suc n) h = refl
        ended (x ∷ l) zero h = absurd (omega arith)
        ended (x ∷ l) (suc n) h = ended l n (omega arith)

  -- from the end of the front on
  pub front_cut : (front list : List A) (at : ℕ) → at ≡ length front → take (length front) list ≡ front → (after : List A) → after ≡ take at list ++ replicate (length list - at) none →
      Front none front after
  front_cut front list at same t after e =
      front_made front after (length list - at) (e ∙ ap (λ (l : List A). l ++ replicate (length list - at) none) (ap (λ (n : ℕ). take n list) same ∙ t))

  -- of a list with more behind the front
  pub front_of_more : (front more : List A) {list : List A} → Front none (front ++ more) list → take (length front) list ≡ front
  front_of_more front more {list} f = let rest : List A = replicate (length list - length (front ++ more)) none in
      ap (take (length front)) (f.is ∙ append_assoc front more rest) ∙ take_at front (more ++ rest) (length front) refl

  -- ---- what was put behind the front, fitting or not, and cleared again
  pub front_back : {front list : List A} → Front none front list → (more after again : List A) (at : ℕ) → at ≡ length front → after ≡ sets list at more →
      again ≡ take at after ++ replicate (length after - at) none → again ≡ list
  front_back {front} {list} f more after again at same put e =
      let size : length after ≡ length list = ap length put ∙ length-sets list at more in
      let kept : take (length front) after ≡ front =
      ap (take (length front)) put ∙ (take_sets (length front) list at more (omega (arith, same)) ∙ front_take f) in
      let long : length again ≡ length list =
      ap length e ∙ (length-append (take at after) (replicate (length after - at) none) ∙ omega (arith, length-take at after, length-replicate (length after - at) none, size, same, f.room)) in
      front_one f (front_cut front after at same kept again e) long
