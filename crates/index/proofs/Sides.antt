-- Sizes of tiles. Assumes nothing.
use Rattle.numbers.proofs.Prelude.{ℕ, ◌+◌, ◌-◌, ◌*◌, ◌/◌, ◌^◌, ◌≤◌, ◌<◌, min, pow_mono, Bool, true, false, ◌&&◌, ◌≡◌, sym, ap, ◌∙◌, lt_of_lt_of_le, arith}
use Rattle.std.proofs.Common.{shl_lt}
use native.Mathlib.Nat.{zero-div}
use Rattle.index.specs.Tiles.{tile_along}

-- a tile's distance from the grid's begin
pub away_small : (power precision i : ℕ) → precision ≤ 32 → i ≤ 64 → i * 2 ^ (precision - power) < 2 ^ 39
away_small power precision i h k = lt_of_lt_of_le (shl_lt 7 (precision - power) (omega arith)) (pow_mono {i = 7 + (precision - power)} {j = 39} (omega arith))

-- ---- the tile along an axis

first_least : (a b : ℕ) → a < b → a ≡ min a b
first_least a b h = omega arith

second_least : (a b : ℕ) → b ≤ a → b ≡ min a b
second_least a b h = omega arith

pub before_grid : (power precision x : ℕ) → x < 2 ^ 31 - 2 ^ (precision - 1) → 0 ≡ tile_along power precision x
unfolding tile_along
before_grid power precision x h = let z : x - (2 ^ 31 - 2 ^ (precision - 1)) ≡ 0 = omega (arith, h) in
    second_least (2 ^ power - 1) 0 (omega arith) ∙ ap (min (2 ^ power - 1)) (sym (ap (λ (d : ℕ). d / 2 ^ (precision - power)) z ∙ zero-div (2 ^ (precision - power))))

module _ (power precision x : ℕ) {half many more : ℕ} (h : half ≡ 2 ^ (precision - 1)) (m : many ≡ 2 ^ power) (k : more ≡ precision - power) where
  pub beyond_grid : many - 1 < (x - (2 ^ 31 - half)) / 2 ^ more → many - 1 ≡ tile_along power precision x
  unfolding tile_along
  beyond_grid l = first_least (many - 1) ((x - (2 ^ 31 - half)) / 2 ^ more) l ∙ (λ i. min (m i - 1) ((x - (2 ^ 31 - h i)) / 2 ^ k i))

  pub in_grid : (x - (2 ^ 31 - half)) / 2 ^ more ≤ many - 1 → (x - (2 ^ 31 - half)) / 2 ^ more ≡ tile_along power precision x
  unfolding tile_along
  in_grid l = second_least (many - 1) ((x - (2 ^ 31 - half)) / 2 ^ more) l ∙ (λ i. min (m i - 1) ((x - (2 ^ 31 - h i)) / 2 ^ k i))

pub row_few : (precision x : ℕ) → tile_along 5 precision x < 32
unfolding tile_along
row_few precision x = omega arith

pub column_few : (precision x : ℕ) → tile_along 6 precision x < 64
unfolding tile_along
column_few precision x = omega arith

-- tests one after the other
pub and_true : (a b c : Bool) → a ≡ true → b ≡ true → c ≡ (a && (b && c))
and_true a b c e f = rw (e, f)

pub and_first : (a b : Bool) → a ≡ false → false ≡ (a && b)
and_first a b e = rw e

pub and_rest : (a b : Bool) → a ≡ true → b ≡ (a && b)
and_rest a b e = rw e
