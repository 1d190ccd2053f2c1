-- Entries of a part of a data block, and the products that lay it out. Assumes nothing.
use Rattle.numbers.proofs.Prelude.{ℕ, ◌+◌, ◌*◌, ◌^◌, ◌≤◌, ◌<◌, Bool, true, false, suc-mul, mul-le-mul, mul-le-mul_right, arith}
use Rattle.tzif.specs.{Block.{Within}, Number.{octets}, Times.{transitions_of, occurrences_of, Inside}, declared.block.Block.{Block}}

-- an entry of a part lies before the part's end
pub row : (i n w : ℕ) → i < n → i * w + w ≤ n * w
row i n w l = rw (← suc-mul i w) (mul-le-mul_right w l)

pub four_at_least : (wide : Bool) → 4 ≤ octets wide
unfolding octets
four_at_least true = omega arith
four_at_least false = omega arith

eight_at_most : (wide : Bool) → octets wide ≤ 8
unfolding octets
eight_at_most true = omega arith
eight_at_most false = omega arith

-- a count of 32 bits, in entries of a time's width and a few octets more
pub part_fits : (n more : ℕ) (wide : Bool) → n < 2 ^ 32 → n * (octets wide + more) ≤ 2 ^ 32 * (8 + more)
part_fits n more wide l = mul-le-mul {n₂ = 2 ^ 32} (omega arith) (omega (arith, eight_at_most wide))

-- ---- the times of a block that lies within the file
module _ {size : ℕ} {block : Block} (w : Within size block) where
  pub transitions_inside : Inside size (transitions_of block)
  transitions_inside = record { wide = w.wide; apart = omega arith; end = omega (arith, w.end) }

  pub occurrences_inside : Inside size (occurrences_of block)
  occurrences_inside = record { wide = w.wide; apart = omega arith; end = omega (arith, w.end) }

  pub record_fits : 0 < block.leapcnt → block.width + 4 ≤ size
  record_fits l = omega (arith, row 0 block.leapcnt (block.width + 4) l, w.end)
