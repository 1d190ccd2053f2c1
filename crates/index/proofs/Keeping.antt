-- The bytes kept in the index. Assumes nothing.
use Rattle.numbers.proofs.Prelude.{ℕ, zero, suc, ◌+◌, ◌-◌, ◌/◌, ◌≤◌, ◌<◌, length, take, List, [], ◌∷◌, ◌++◌, ◌≡◌, refl, ap, arith}
use Rattle.writer.{proofs.Stores.{Left, left_step}, specs.inner.Stored.{Stored}}
use Rattle.index.specs.Index.{four_at, packed_from, kept_of}

pub packed_length : (bytes : List ℕ) (more i : ℕ) → length (packed_from bytes more i) ≡ more
unfolding packed_from
packed_length bytes zero i = refl
packed_length bytes (suc more) i = ap suc (packed_length bytes more (i + 4))

module _ (bytes : List ℕ) (size place : ℕ) where
  packed_step : place < size → packed_from bytes ((size + 3 - place) / 4) place ≡ (four_at bytes place ∷ []) ++ packed_from bytes ((size + 3 - (place + 4)) / 4) (place + 4)
  unfolding packed_from
  packed_step h = let s : (size + 3 - place) / 4 ≡ suc ((size + 3 - (place + 4)) / 4) = omega arith in ap (λ (m : ℕ). packed_from bytes m place) s

  packed_done : size ≤ place → packed_from bytes ((size + 3 - place) / 4) place ≡ []
  unfolding packed_from
  packed_done h = let z : (size + 3 - place) / 4 ≡ 0 = omega arith in ap (λ (m : ℕ). packed_from bytes m place) z

-- the loop over the bytes
pub record Keeping (file : List ℕ) (size : ℕ) (before : List ℕ) (from : ℕ) (now : List ℕ) (at place : ℕ) : Type 0 where
  pub within : place ≤ size + 3
  pub few : at ≤ from + place
  pub left : Left before from (kept_of file size) now at (packed_from (take size file) ((size + 3 - place) / 4) place)

module _ {file : List ℕ} {size : ℕ} {before : List ℕ} {from : ℕ} where
  pub keeping_step : {now after : List ℕ} {at next place : ℕ} → Keeping file size before from now at place → place < size → Stored now at (four_at (take size file) place ∷ []) after next
      → Keeping file size before from after next (place + 4)
  keeping_step {place = place} g h s = let whole = packed_step (take size file) size place h in record {
    within = omega arith;
    few = omega (arith, s.place_after, g.few);
    left = left_step (four_at (take size file) place ∷ []) (rw whole at g.left) s;
  }

  pub keeping_ends : {now : List ℕ} {at place : ℕ} → Keeping file size before from now at place → size ≤ place → Stored before from (kept_of file size) now at
  keeping_ends {place = place} g h = let l = rw (packed_done (take size file) size place h) at g.left in
      record { place_after = omega (arith, l.places); stored = l.same }
