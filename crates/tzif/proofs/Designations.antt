-- What 53 means: a designation ends at a NUL. Assumes nothing.
use Rattle.numbers.proofs.Prelude.{ℕ, suc, ◌+◌, ◌-◌, ◌≤◌, ◌<◌, eq-eqb, ltb-true, eqb-true, ltb-false, eqb-false, eqb, ltb, Bool, true, false, ◌||◌, List, ◌≡◌, refl, ap, ◌∙◌, arith}
use Rattle.tzif.proofs.{Firsts.{first_before, first_holds}, Goods.{ReadBlock, type_ended}, Lasts.{last_within, last_holds, last_fails}}
use Rattle.tzif.specs.{Block.{designations_of}, Check.{type_place, is_nul, nul_end}, Local.{type_in}, Number.{octet}, Text.{first_with, is_stop, run_to}, Times.{last_with}, declared.block.Block.{Block}}

-- a NUL of the designations at or after an index
pub record NulFrom (file : List ℕ) (block : Block) (index : ℕ) : Type 0 where
  pub k : ℕ
  pub from : index ≤ k
  pub inside : k < block.charcnt
  pub nul : octet file (designations_of block + k) ≡ 0

-- there is one exactly if the index is before the place behind the last NUL
module _ (file : List ℕ) (block : Block) (index : ℕ) where
  pub nul_from : index < nul_end file block → NulFrom file block index
  unfolding nul_end
  nul_from l = let end = nul_end file block in let some : suc (end - 1) ≡ last_with block.charcnt (is_nul file block) = omega arith in record {
    k = end - 1;
    from = omega arith;
    inside = omega (arith, last_within (is_nul file block) block.charcnt);
    nul = eqb-true _ _ (last_holds (is_nul file block) block.charcnt (end - 1) some);
  }

  pub from_nul : NulFrom file block index → index < nul_end file block
  unfolding nul_end
  from_nul found = go (ltb index (last_with block.charcnt (is_nul file block))) refl where
    go : (t : Bool) → ltb index (last_with block.charcnt (is_nul file block)) ≡ t → index < last_with block.charcnt (is_nul file block)
    go true e = ltb-true _ _ e
    go false e =
        let fails = last_fails (is_nul file block) block.charcnt found.k (omega (arith, ltb-false index (last_with block.charcnt (is_nul file block)) e, found.from)) found.inside in
        absurd (eqb-false (octet file (designations_of block + found.k)) 0 fails found.nul)

-- ---- an abbreviation ends at a NUL
stop_is_nul : (byte : ℕ) → is_stop 0 byte ≡ true → byte ≡ 0
unfolding is_stop
stop_is_nul byte e = go (eqb byte 0) refl e where
  go : (t : Bool) → eqb byte 0 ≡ t → (t || t) ≡ true → byte ≡ 0
  go true z e = eqb-true byte 0 z
  go false z e = let no : ◌≡◌ {A = ℕ} 0 1 = cc in absurd (omega arith)

nul_is_stop : (byte : ℕ) → byte ≡ 0 → is_stop 0 byte ≡ true
unfolding is_stop
nul_is_stop byte z = rw (eq-eqb byte 0 z) refl

pub ends_at_nul : (file : List ℕ) (block : Block) → ReadBlock file block → (i : ℕ) → i < block.typecnt → octet file ((type_in file block i).place + (type_in file block i).length) ≡ 0
unfolding type_in run_to
ends_at_nul file block read i l = stop_is_nul _ (first_holds holds n there) where
  index : ℕ
  index = octet file (type_place block i + 5)

  n : ℕ
  n = block.charcnt - index

  holds : ℕ → Bool
  holds k = is_stop 0 (octet file (designations_of block + index + k))

  found : NulFrom file block index
  found = nul_from file block index (type_ended read i l)

  there : first_with n holds < n
  there = let step : designations_of block + index + (found.k - index) ≡ designations_of block + found.k = omega (arith, found.from) in
      first_before holds n (found.k - index) (omega (arith, found.from, found.inside)) (nul_is_stop _ (ap (octet file) step ∙ found.nul))
