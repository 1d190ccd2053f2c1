-- Bytes that go into the output one after another. Assumes nothing.
use Rattle.numbers.proofs.Prelude.{ℕ, ◌+◌, ◌≤◌, ◌<◌, length, drop, get_or, drop-cons, drop-length, set_out, List, [], ◌∷◌, map, ◌≡◌, refl, sym, ap, subst, ◌∙◌, add-one, arith}
use Rattle.writer.{proofs.Stores.{Left, left_all, left_step, left_none}, specs.inner.Stored.{Stored}}

-- a byte past the end is only counted
pub stored_out : (before : List ℕ) (at byte : ℕ) → length before ≤ at → Stored before at (byte ∷ []) before (at + 1)
stored_out before at byte h = record { place_after = refl; stored = sym (set_out before at byte h) }

-- ---- items of a list, each changed by a function: what is stored is what the first i give
module _ (f : ℕ → ℕ) where
  pub record Putting (before : List ℕ) (place : ℕ) (items after : List ℕ) (next i : ℕ) : Type 0 where
    pub index : i ≤ length items
    pub left : Left before place (map f items) after next (map f (drop i items))
    pub next_is : next ≡ place + i

  pub put_starts : (before : List ℕ) (place : ℕ) (items : List ℕ) → Putting before place items before place 0
  put_starts before place items = record { index = omega arith; left = left_all; next_is = omega arith }

  pub put_goes : (before : List ℕ) (place : ℕ) (items now after : List ℕ) (next i later : ℕ) → Putting before place items now next i → i < length items →
      Stored now next (f (get_or items i 0) ∷ []) after later → Putting before place items after later (i + 1)
  put_goes before place items now after next i later p h s = record {
    index = omega arith;
    left = rw (add-one i) (left_step (f (get_or items i 0) ∷ []) (subst (λ (rest : List ℕ). Left before place (map f items) now next rest) (ap (map f) (drop-cons items i 0 h)) p.left) s);
    next_is = omega (arith, s.place_after, p.next_is);
  }

  pub put_ends : (before : List ℕ) (place : ℕ) (items now : List ℕ) (next i : ℕ) → Putting before place items now next i → length items ≤ i → Stored before place (map f items) now next
  put_ends before place items now next i p h = let e : i ≡ length items = omega (arith, p.index) in
      left_none (subst (λ (rest : List ℕ). Left before place (map f items) now next rest) (ap (λ (n : ℕ). map f (drop n items)) e ∙ ap (map f) (drop-length items)) p.left)

abbrev pub itself : ℕ → ℕ
itself x = x

pub map_itself : (xs : List ℕ) → map itself xs ≡ xs
map_itself [] = refl
map_itself (x ∷ xs) = ap (λ (l : List ℕ). x ∷ l) (map_itself xs)

pub put_ends_plain : (before : List ℕ) (place : ℕ) (items now : List ℕ) (next i : ℕ) → Putting itself before place items now next i → length items ≤ i → Stored before place items now next
put_ends_plain before place items now next i p h = subst (λ (bs : List ℕ). Stored before place bs now next) (map_itself items) (put_ends itself before place items now next i p h)
