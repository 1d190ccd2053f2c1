-- The correction at an instant, by how many records there are. Assumes nothing.
use Rattle.numbers.proofs.Prelude.{ℕ, zero, suc, ◌^◌, ◌≤◌, ◌<◌, eq-eqb, eqb, Bool, true, false, ◌&&◌, not, List, ◌≡◌, refl, arith}
use Rattle.tzif.proofs.Lasts.{last_within}
use Rattle.tzif.specs.{Check.{correction_before, correction_at, is_expiry}, Times.{occurrences_of, last_not_after}, declared.block.Block.{Block}}

-- an expiry has a record before it
not_first : (i : ℕ) (rest : Bool) → (not (eqb i 0) && rest) ≡ true → 0 < i
not_first zero rest e = let z : ◌≡◌ {A = ℕ} 0 1 = cc in absurd (omega arith)
not_first (suc i) rest e = omega arith

pub expires_behind : (file : List ℕ) (fourth : Bool) (block : Block) (i : ℕ) → (fourth && is_expiry file block i) ≡ true → 0 < i
unfolding is_expiry
expires_behind file true block i e = not_first i _ e
expires_behind file false block i e = let z : ◌≡◌ {A = ℕ} 0 1 = cc in absurd (omega arith)

module _ (file : List ℕ) (block : Block) (instant : ℕ) where
  pub records_within : last_not_after file (occurrences_of block) instant ≤ block.leapcnt
  unfolding last_not_after
  records_within = last_within _ block.leapcnt

  pub no_records : block.leapcnt ≡ 0 → 2 ^ 31 ≡ correction_at file block instant
  unfolding correction_at correction_before
  no_records e = let none : last_not_after file (occurrences_of block) instant ≡ 0 = omega (arith, records_within) in
      rw (eq-eqb (last_not_after file (occurrences_of block) instant) 0 none) refl
