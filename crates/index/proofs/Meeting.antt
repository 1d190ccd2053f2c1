-- A coordinate stands in its tile, and order is kept. Assumes nothing.
use Rattle.numbers.proofs.Prelude.{ℕ, zero, suc, ◌+◌, ◌-◌, ◌*◌, ◌/◌, ◌%◌, ◌^◌, ◌≤◌, ◌<◌, min, leb-true, eqb-false, leb-false, eqb, leb, ℤ, pos, negsuc, pow_pos, le_z, Bool, true, false, ◌≡◌, refl}
use Rattle.numbers.{proofs.Prelude.{w32, SFits, one-mul, add-mul, mul-le-mul_right, mod-lt, arith}, specs.Answer.{if◌then◌else◌}}
use lib.Pow.{split}
use Rattle.index.specs.Tiles.{word_of, lift, begins_at, span_of, tile_along}

-- ---- order is kept
lift_pos : (n : ℕ) → n < 2 ^ 31 → lift (word_of (pos n)) ≡ 2 ^ 31 + n
lift_pos n h = omega arith

lift_neg : (n : ℕ) → n < 2 ^ 31 → lift (word_of (negsuc n)) ≡ 2 ^ 31 - suc n
lift_neg n h = omega arith

-- coordinates in order are in order counted from the lowest up
pub lifted_order : (a b : ℤ) → SFits w32 a → SFits w32 b → le_z a b ≡ true → lift (word_of a) ≤ lift (word_of b)
lifted_order (pos a) (pos b) f g h = omega (arith, lift_pos a f.sfits, lift_pos b g.sfits, leb-true a b h)
lifted_order (pos a) (negsuc b) f g h = let z : ◌≡◌ {A = ℕ} 0 1 = cc in absurd (omega arith)
lifted_order (negsuc a) (pos b) f g h = omega (arith, lift_neg a f.sfits, lift_pos b g.sfits)
lifted_order (negsuc a) (negsuc b) f g h = omega (arith, lift_neg a f.sfits, lift_neg b g.sfits, leb-true b a h, f.sfits, g.sfits)

-- ---- a coordinate stands in its tile
min_second : (m q : ℕ) → 0 < m → (min (m - 1) q + 1 ≡ m → ⊥) → min (m - 1) q ≡ q
min_second m q h n = by_order (leb (m - 1) q) refl where
  by_order : (t : Bool) → leb (m - 1) q ≡ t → min (m - 1) q ≡ q
  by_order true e = let z = leb-true (m - 1) q e in absurd (n (omega (arith, z)))
  by_order false e = let z = leb-false (m - 1) q e in omega (arith, z)

-- the tile of a distance from the grid's begin, by its quotient
module _ (g s i q r x : ℕ) (some : 0 < s) (whole : q * s + r ≡ x - g) (rest : r < s) where
  -- it begins at or before the coordinate
  begun : i ≤ q → 0 < i → g + i * s ≤ x
  begun h k = let up : i * s ≤ q * s = mul-le-mul_right s h in let first : 1 * s ≤ i * s = mul-le-mul_right s k in let one : 1 * s ≡ s = one-mul s in
      omega (arith, whole, up, first, one, some)

  -- and ends behind it
  unended : i ≡ q → x < g + (i + 1) * s
  unended e = let next : (q + 1) * s ≡ q * s + 1 * s = add-mul q 1 s in let one : 1 * s ≡ s = one-mul s in rw e (omega (arith, whole, next, one, rest))

module _ (power precision x : ℕ) where
  abbrev grid : ℕ
  grid = 2 ^ 31 - 2 ^ (precision - 1)

  abbrev side : ℕ
  side = 2 ^ (precision - power)

  abbrev quotient : ℕ
  quotient = (x - grid) / side

  abbrev tile : ℕ
  tile = min (2 ^ power - 1) quotient

  some : 0 < side
  some = pow_pos (precision - power)

  whole : quotient * side + (x - grid) % side ≡ x - grid
  whole = split (x - grid) (precision - power)

  rest : (x - grid) % side < side
  rest = mod-lt (x - grid) some

  from_so : (t : Bool) → eqb tile 0 ≡ t → (if t then 0 else begins_at power precision tile) ≤ x
  from_so true e = omega arith
  from_so false e = let n = eqb-false tile 0 e in let pos : 0 < tile = go tile n in
      begun grid side tile quotient ((x - grid) % side) x some whole rest (omega arith) pos where
        go : (n : ℕ) → (n ≡ 0 → ⊥) → 0 < n
        go zero h = absurd (h refl)
        go (suc n) h = omega arith

  end_so : (t : Bool) → eqb (tile + 1) (2 ^ power) ≡ t → x < 2 ^ 32 → x < (if t then 2 ^ 32 else begins_at power precision (tile + 1))
  end_so true e h = h
  end_so false e h = unended grid side tile quotient ((x - grid) % side) x some whole rest (last (eqb-false (tile + 1) (2 ^ power) e) (pow_pos power)) where
    last : (tile + 1 ≡ 2 ^ power → ⊥) → 0 < 2 ^ power → tile ≡ quotient
    last n many = min_second (2 ^ power) quotient many n

  -- the span of its tile holds the coordinate
  pub in_its_tile : x < 2 ^ 32 → ((span_of power precision (tile_along power precision x)).from ≤ x) × (x < (span_of power precision (tile_along power precision x)).end)
  unfolding span_of tile_along
  in_its_tile h = (from_so (eqb tile 0) refl, end_so (eqb (tile + 1) (2 ^ power)) refl h)
