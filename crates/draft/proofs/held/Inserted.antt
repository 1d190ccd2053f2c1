-- A table with one entry more, which came last: it stands behind all that are not above it, and only the step of the entry behind it changes. Assumes nothing.
use Rattle.numbers.proofs.Prelude.{ℕ, ◌+◌, ◌≤◌, ◌<◌, lt-ltb, le-leb, le-ltb, leb-true, ltb-true, lt-leb, ltb-false, leb-false, ltb, leb, length, length-append, Bool, true, false, List, [], ◌∷◌, ◌++◌}
use Rattle.numbers.{proofs.Prelude.{◌≡◌, refl, sym, ap, ◌∙◌, arith}, specs.Answer.{if◌then◌else◌}}
use mathlib.Core.Option.{Option, none, some}
use Rattle.builder.specs.Entries.{Entry, entry_bytes, table_from}
use Rattle.layout.{proofs.{Orders.{sorted_rises}, Sorts.{insert_behind, insert_here}}, specs.Order.{insert_by, sorted_by, Rising, Under}}

module _ {A : Type 0} (key : A → ℕ) where
  -- one that came after all of these: behind those that are not above it
  unfoldable pub insert_last : A → List A → List A
  insert_last x [] = x ∷ []
  insert_last x (y ∷ ys) = if leb (key y) (key x) then (y ∷ insert_last x ys) else (x ∷ y ∷ ys)

  last_above : (x y : A) (ys : List A) → key x < key y → insert_last x (y ∷ ys) ≡ x ∷ y ∷ ys
  unfolding insert_last
  last_above x y ys h = ap (λ (b : Bool). if b then (y ∷ insert_last x ys) else (x ∷ y ∷ ys)) (lt-leb (key y) (key x) h)

  last_not : (x y : A) (ys : List A) → key y ≤ key x → insert_last x (y ∷ ys) ≡ y ∷ insert_last x ys
  unfolding insert_last
  last_not x y ys h = ap (λ (b : Bool). if b then (y ∷ insert_last x ys) else (x ∷ y ∷ ys)) (le-leb (key y) (key x) h)

  -- it does not matter which of two is inserted first
  swap : (x y : A) (s : List A) → insert_by key y (insert_last x s) ≡ insert_last x (insert_by key y s)
  unfolding insert_last insert_by
  swap x y [] = go (leb (key y) (key x)) refl where
    go : (t : Bool) → leb (key y) (key x) ≡ t → insert_by key y (x ∷ []) ≡ insert_last x (y ∷ [])
    go true e = insert_here key y x [] (leb-true (key y) (key x) e) ∙ sym (last_not x y [] (leb-true (key y) (key x) e))
    go false e = insert_behind key y x [] (leb-false (key y) (key x) e) ∙ sym (last_above x y [] (leb-false (key y) (key x) e))
  swap x y (z ∷ s) = go (leb (key z) (key x)) refl (ltb (key z) (key y)) refl (leb (key y) (key x)) refl (swap x y s) where
    go : (a : Bool) → leb (key z) (key x) ≡ a → (b : Bool) → ltb (key z) (key y) ≡ b → (c : Bool) → leb (key y) (key x) ≡ c → insert_by key y (insert_last x s) ≡ insert_last x (insert_by key y s)
        → insert_by key y (insert_last x (z ∷ s)) ≡ insert_last x (insert_by key y (z ∷ s))
    go true ea true eb c ec more = let zx = leb-true (key z) (key x) ea in let zy = ltb-true (key z) (key y) eb in
        ap (insert_by key y) (last_not x z s zx) ∙ (insert_behind key y z (insert_last x s) zy ∙ (ap (λ (l : List A). z ∷ l) more
        ∙ sym (ap (insert_last x) (insert_behind key y z s zy) ∙ last_not x z (insert_by key y s) zx)))
    go true ea false eb c ec more = let zx = leb-true (key z) (key x) ea in let yz = ltb-false (key z) (key y) eb in
        ap (insert_by key y) (last_not x z s zx) ∙ (insert_here key y z (insert_last x s) yz ∙ sym (ap (insert_last x) (insert_here key y z s yz)
        ∙ (last_not x y (z ∷ s) (omega (arith, zx, yz)) ∙ ap (λ (l : List A). y ∷ l) (last_not x z s zx))))
    go false ea true eb c ec more = let xz = leb-false (key z) (key x) ea in let zy = ltb-true (key z) (key y) eb in
        ap (insert_by key y) (last_above x z s xz) ∙ (insert_behind key y x (z ∷ s) (omega (arith, xz, zy)) ∙ (ap (λ (l : List A). x ∷ l) (insert_behind key y z s zy)
        ∙ sym (ap (insert_last x) (insert_behind key y z s zy) ∙ last_above x z (insert_by key y s) xz)))
    go false ea false eb true ec more = let xz = leb-false (key z) (key x) ea in let yz = ltb-false (key z) (key y) eb in
        let yx = leb-true (key y) (key x) ec in
        ap (insert_by key y) (last_above x z s xz)
        ∙ (insert_here key y x (z ∷ s) yx ∙ sym (ap (insert_last x) (insert_here key y z s yz) ∙ (last_not x y (z ∷ s) yx ∙ ap (λ (l : List A). y ∷ l) (last_above x z s xz))))
    go false ea false eb false ec more = let xz = leb-false (key z) (key x) ea in let yz = ltb-false (key z) (key y) eb in
        let xy = leb-false (key y) (key x) ec in
        ap (insert_by key y) (last_above x z s xz)
        ∙ (insert_behind key y x (z ∷ s) xy ∙ (ap (λ (l : List A). x ∷ l) (insert_here key y z s yz) ∙ sym (ap (insert_last x) (insert_here key y z s yz) ∙ last_above x y (z ∷ s) xy)))

  pub sorted_last : (xs : List A) (x : A) → sorted_by key (xs ++ (x ∷ [])) ≡ insert_last x (sorted_by key xs)
  unfolding sorted_by insert_by insert_last
  sorted_last [] x = refl
  sorted_last (y ∷ xs) x = ap (insert_by key y) (sorted_last xs x) ∙ swap x y (sorted_by key xs)

  -- ---- its neighbours: the last of those not above a key, and the first of those above
  unfoldable pub low_in : ℕ → Option A → List A → Option A
  low_in k sofar [] = sofar
  low_in k sofar (y ∷ ys) = if leb (key y) k then low_in k (some y) ys else sofar

  unfoldable pub high_in : ℕ → List A → Option A
  high_in k [] = none
  high_in k (y ∷ ys) = if leb (key y) k then high_in k ys else some y

  -- ---- found in order of arrival
  unfoldable pub not_below : Option A → ℕ → Bool
  not_below none k = true
  not_below (some p) k = leb (key p) k

  unfoldable pub below : Option A → ℕ → Bool
  below none k = true
  below (some s) k = ltb k (key s)

  -- of two not above, the one with the greater key, and of equal ones the later
  unfoldable pub low_step : ℕ → Option A → A → Option A
  low_step k low y = if leb (key y) k then (if not_below low (key y) then some y else low) else low

  -- of two above, the one with the lesser key, and of equal ones the earlier
  unfoldable pub high_step : ℕ → Option A → A → Option A
  high_step k high y = if leb (key y) k then high else (if below high (key y) then some y else high)

  low_stays : (k : ℕ) (z y : A) → key y < key z → low_step k (some z) y ≡ some z
  unfolding low_step not_below
  low_stays k z y h = go (leb (key y) k) where
    go : (t : Bool) → (if t then (if leb (key z) (key y) then some y else some z) else some z) ≡ some z
    go true = ap (λ (b : Bool). if b then some y else some z) (lt-leb (key z) (key y) h)
    go false = refl

  low_kept : (k : ℕ) (z : A) (s : List A) (least : ℕ) → least ≤ key z → Under key least s → (y : A) → key y < least → low_step k (low_in k (some z) s) y ≡ low_in k (some z) s
  unfolding low_in Under
  low_kept k z [] least h u y under = low_stays k z y (omega (arith, h, under))
  low_kept k z (w ∷ s) least h u y under = go (leb (key w) k) (low_kept k w s least u.0 u.1 y under) where
    go : (t : Bool) → low_step k (low_in k (some w) s) y ≡ low_in k (some w) s → low_step k (if t then low_in k (some w) s else some z) y ≡ (if t then low_in k (some w) s else some z)
    go true a = a
    go false a = low_stays k z y (omega (arith, h, under))

  module _ (k : ℕ) (y : A) where
    low_inserted : (sofar : Option A) (s : List A) → not_below sofar (key y) ≡ true → Rising key s → low_in k sofar (insert_last y s) ≡ low_step k (low_in k sofar s) y
    unfolding low_in insert_last low_step Rising not_below
    low_inserted sofar [] e r = ap (λ (b : Bool). if leb (key y) k then (if b then some y else sofar) else sofar) (sym e)
    low_inserted sofar (z ∷ s) e r = go (leb (key z) (key y)) refl (leb (key z) k) refl (leb (key y) k) refl (low_inserted (some z) s) where
      go : (a : Bool) → leb (key z) (key y) ≡ a → (b : Bool) → leb (key z) k ≡ b → (c : Bool) → leb (key y) k ≡ c
          → (not_below (some z) (key y) ≡ true → Rising key s → low_in k (some z) (insert_last y s) ≡ low_step k (low_in k (some z) s) y)
          → low_in k sofar (if a then (z ∷ insert_last y s) else (y ∷ z ∷ s)) ≡ low_step k (if b then low_in k (some z) s else sofar) y
      go true ea true eb c ec more = ap (λ (t : Bool). if t then low_in k (some z) (insert_last y s) else sofar) eb ∙ more ea r.1
      go true ea false eb c ec more =
          ap (λ (t : Bool). if t then low_in k (some z) (insert_last y s) else sofar) eb
          ∙ sym (ap (λ (t : Bool). if t then (if not_below sofar (key y) then some y else sofar) else sofar) (lt-leb (key y) k (omega (arith, leb-true (key z) (key y) ea, leb-false (key z) k eb))))
      go false ea true eb c ec more =
          ap (λ (t : Bool). if t then low_in k (some y) (z ∷ s) else sofar) (le-leb (key y) k (omega (arith, leb-false (key z) (key y) ea, leb-true (key z) k eb)))
          ∙ (ap (λ (t : Bool). if t then low_in k (some z) s else some y) eb ∙ sym (low_kept k z s (key z) (omega arith) r.0 y (leb-false (key z) (key y) ea)))
      go false ea false eb true ec more =
          ap (λ (t : Bool). if t then low_in k (some y) (z ∷ s) else sofar) ec ∙ (ap (λ (t : Bool). if t then low_in k (some z) s else some y) eb
          ∙ sym (ap (λ (t : Bool). if t then (if not_below sofar (key y) then some y else sofar) else sofar) ec ∙ ap (λ (t : Bool). if t then some y else sofar) e))
      go false ea false eb false ec more =
          ap (λ (t : Bool). if t then low_in k (some y) (z ∷ s) else sofar) ec ∙ sym (ap (λ (t : Bool). if t then (if not_below sofar (key y) then some y else sofar) else sofar) ec)

    high_inserted : (s : List A) → high_in k (insert_last y s) ≡ high_step k (high_in k s) y
    unfolding high_in insert_last high_step below
    high_inserted [] = refl
    high_inserted (z ∷ s) = go (leb (key z) (key y)) refl (leb (key z) k) refl (leb (key y) k) refl (high_inserted s) where
      go : (a : Bool) → leb (key z) (key y) ≡ a → (b : Bool) → leb (key z) k ≡ b → (c : Bool) → leb (key y) k ≡ c → high_in k (insert_last y s) ≡ high_step k (high_in k s) y
          → high_in k (if a then (z ∷ insert_last y s) else (y ∷ z ∷ s)) ≡ high_step k (if b then high_in k s else some z) y
      go true ea true eb c ec more = ap (λ (t : Bool). if t then high_in k (insert_last y s) else some z) eb ∙ more
      go true ea false eb c ec more =
          ap (λ (t : Bool). if t then high_in k (insert_last y s) else some z) eb
          ∙ sym (ap (λ (t : Bool). if t then some z else (if ltb (key y) (key z) then some y else some z)) (lt-leb (key y) k (omega (arith, leb-true (key z) (key y) ea, leb-false (key z) k eb)))
          ∙ ap (λ (t : Bool). if t then some y else some z) (le-ltb (key y) (key z) (leb-true (key z) (key y) ea)))
      go false ea true eb c ec more = let yk = le-leb (key y) k (omega (arith, leb-false (key z) (key y) ea, leb-true (key z) k eb)) in
          ap (λ (t : Bool). if t then high_in k (z ∷ s) else some y) yk
          ∙ (ap (λ (t : Bool). if t then high_in k s else some z) eb ∙ sym (ap (λ (t : Bool). if t then high_in k s else (if below (high_in k s) (key y) then some y else high_in k s)) yk))
      go false ea false eb true ec more =
          ap (λ (t : Bool). if t then high_in k (z ∷ s) else some y) ec
          ∙ (ap (λ (t : Bool). if t then high_in k s else some z) eb ∙ sym (ap (λ (t : Bool). if t then some z else (if ltb (key y) (key z) then some y else some z)) ec))
      go false ea false eb false ec more =
          ap (λ (t : Bool). if t then high_in k (z ∷ s) else some y) ec ∙ sym (ap (λ (t : Bool). if t then some z else (if ltb (key y) (key z) then some y else some z)) ec
          ∙ ap (λ (t : Bool). if t then some y else some z) (lt-ltb (key y) (key z) (leb-false (key z) (key y) ea)))

  -- the neighbours of a key, one that came last taken in
  pub low_more : (k : ℕ) (xs : List A) (y : A) → low_in k none (sorted_by key (xs ++ (y ∷ []))) ≡ low_step k (low_in k none (sorted_by key xs)) y
  unfolding not_below
  low_more k xs y = ap (low_in k none) (sorted_last xs y) ∙ low_inserted k y none (sorted_by key xs) refl (sorted_rises key xs)

  pub high_more : (k : ℕ) (xs : List A) (y : A) → high_in k (sorted_by key (xs ++ (y ∷ []))) ≡ high_step k (high_in k (sorted_by key xs)) y
  high_more k xs y = ap (high_in k) (sorted_last xs y) ∙ high_inserted k y (sorted_by key xs)

-- ---- the table
-- the bytes of the entry behind another, if there is one
unfoldable pub gap : ℕ → ℕ → Option Entry → ℕ
gap record' border none = 0
gap record' border (some e) = length (entry_bytes record' border e)

unfoldable pub record_of : Option Entry → ℕ
record_of none = 0
record_of (some e) = e.record'

unfoldable pub border_of : Option Entry → ℕ
border_of none = 0
border_of (some e) = e.border

module _ (key : Entry → ℕ) (x : Entry) where
  grown : (sofar : Option Entry) (es : List Entry) → length (table_from (record_of sofar) (border_of sofar) (insert_last key x es)) + gap (record_of (low_in key (key x) sofar es))
      (border_of (low_in key (key x) sofar es)) (high_in key (key x) es) ≡ length (table_from (record_of sofar) (border_of sofar) es) +
      (length (entry_bytes (record_of (low_in key (key x) sofar es)) (border_of (low_in key (key x) sofar es)) x) + gap x.record' x.border (high_in key (key x) es))
  unfolding insert_last low_in high_in table_from gap record_of border_of
  grown sofar [] = omega (arith, length-append (entry_bytes (record_of sofar) (border_of sofar) x) [])
  grown sofar (e ∷ es) = go (leb (key e) (key x)) (grown (some e) es) where
    go : (t : Bool) → length (table_from e.record' e.border (insert_last key x es)) + gap (record_of (low_in key (key x) (some e) es))
        (border_of (low_in key (key x) (some e) es)) (high_in key (key x) es) ≡ length (table_from e.record' e.border es) +
        (length (entry_bytes (record_of (low_in key (key x) (some e) es)) (border_of (low_in key (key x) (some e) es)) x) + gap x.record' x.border (high_in key (key x) es))
        → length (table_from (record_of sofar) (border_of sofar) (if t then (e ∷ insert_last key x es) else (x ∷ e ∷ es))) + gap (record_of (if t then low_in key (key x) (some e) es else sofar))
        (border_of (if t then low_in key (key x) (some e) es else sofar)) (if t then high_in key (key x) es else some e) ≡ length (entry_bytes (record_of sofar)
        (border_of sofar) e ++ table_from e.record' e.border es) + (length (entry_bytes (record_of (if t then low_in key (key x) (some e) es else sofar))
        (border_of (if t then low_in key (key x) (some e) es else sofar)) x) + gap x.record' x.border (if t then high_in key (key x) es else some e))
    go true more =
        omega (
          arith,
          more,
          length-append (entry_bytes (record_of sofar) (border_of sofar) e) (table_from e.record' e.border es),
          length-append
              (entry_bytes (record_of sofar) (border_of sofar) e) (table_from e.record' e.border (insert_last key x es)),
        )
    go false more =
        omega (
          arith,
          length-append (entry_bytes (record_of sofar) (border_of sofar) e) (table_from e.record' e.border es),
          length-append
              (entry_bytes (record_of sofar) (border_of sofar) x) (entry_bytes x.record' x.border e ++ table_from e.record' e.border es),
          length-append
              (entry_bytes x.record' x.border e) (table_from e.record' e.border es),
        )

  -- The table grows by the new entry, and by what the step of the entry behind it changes.
  pub table_grown : (es : List Entry) → length (table_from 0 0 (sorted_by key (es ++ (x ∷ [])))) + gap (record_of (low_in key (key x) none (sorted_by key es)))
      (border_of (low_in key (key x) none (sorted_by key es))) (high_in key (key x) (sorted_by key es)) ≡ length (table_from 0 0 (sorted_by key es)) +
      (length (entry_bytes (record_of (low_in key (key x) none (sorted_by key es))) (border_of (low_in key (key x) none (sorted_by key es))) x) + gap x.record'
      x.border (high_in key (key x) (sorted_by key es)))
  unfolding record_of border_of
  table_grown es =
      ap (λ (l : List Entry). length (table_from 0 0 l) + gap (record_of (low_in key (key x) none (sorted_by key es))) (border_of (low_in key (key x) none (sorted_by key es)))
      (high_in key (key x) (sorted_by key es))) (sorted_last key es x) ∙ grown none (sorted_by key es)
