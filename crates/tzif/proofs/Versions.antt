-- What version 4 leaves as it was: files of versions 1 to 3 are read as by RFC 8536. Assumes nothing.
use Rattle.numbers.{proofs.Prelude.{ℕ, ◌^◌, ne_eqb, eqb, leb, ℤ, length, true, false, List, ◌≡◌, refl, ap}, specs.Answer.{if◌then◌else◌}}
use Rattle.tzif.specs.{Block.{end_of}, Header.{rfc8536, rfc9636, is_fourth, is_version, version_fits, check_header, read_block}, Local.{by_table, lent, local_time_by, local_time}, Number.{octet, lift}}
use Rattle.tzif.specs.{Reply.{given, refusal, demand, ◌>>=◌, ◌>>◌}, Zone.{read_short, read_long, read_zone_by, read_zone}, declared.block.Block.{Block}}

module _ (file : List ℕ) (older : octet file 4 ≡ 0x34 → ⊥) where
  first_block : read_block rfc9636 file false 0 ≡ read_block rfc8536 file false 0
  unfolding read_block check_header version_fits is_version is_fourth
  first_block = rw (ne_eqb (octet file 4) 0x34 older) refl

  second_block : (at : ℕ) → read_block rfc9636 file true at ≡ read_block rfc8536 file true at
  unfolding read_block check_header version_fits is_fourth
  second_block at = rw (ne_eqb (octet file 4) 0x34 older) refl

  long : (first : Block) → read_long rfc9636 file first ≡ read_long rfc8536 file first
  unfolding read_long
  long first = rw (second_block (end_of first)) refl

  -- what is read of a file of versions 1 to 3
  pub zone_v3_unchanged : read_zone file ≡ read_zone_by rfc8536 file
  unfolding read_zone_by
  zone_v3_unchanged = λ i. demand (leb (length file) (2 ^ 30)) (refusal 1 0) >> (first_block i >>= λ first. if eqb (octet file 4) 0 then read_short file first else long first i)

  -- and what is answered, at every instant, with whatever room
  pub v3_unchanged : (instant : ℤ) (room : ℕ) → local_time file instant room ≡ local_time_by rfc8536 file instant room
  unfolding local_time_by
  v3_unchanged instant room = ap (λ z. lent file room (z >>= λ zone. given (by_table file zone.block (lift instant)))) zone_v3_unchanged
