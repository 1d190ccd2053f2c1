-- A footer and a whole file, by how far they were read. Assumes nothing.
use Rattle.numbers.proofs.Prelude.{ℕ, ◌+◌, ◌≤◌, ◌<◌, leb-true, ltb-true, eqb, length, Bool, true, false, List, ◌≡◌, refl, arith}
use Rattle.numbers.{proofs.Tests.{both}, specs.Answer.{if◌then◌else◌}}
use Rattle.tzif.proofs.Rises.{both_given, held}
use Rattle.tzif.specs.{Block.{end_of}, Header.{rfc9636, check_header, read_block}, Number.{octet}, Reply.{Reply, given, refused, ◌>>=◌}}
use Rattle.tzif.specs.{Zone.{string_size, newline_at, read_footer, read_short, read_long, read_zone_by}, declared.{block.Block.{Block}, zone.Zone.{Zone}}}

-- ---- the footer
pub newline_within : (file : List ℕ) (at : ℕ) → newline_at file at ≡ true → at < length file
unfolding newline_at
newline_within file at e = ltb-true _ _ (both _ _ e).0

pub header_held : (file : List ℕ) (wide : Bool) (at : ℕ) {block : Block} → read_block rfc9636 file wide at ≡ given block → at + 44 ≤ length file
unfolding read_block check_header
header_held file wide at e = leb-true _ _ (held _ _ (both_given _ _ (both_given _ _ (both_given _ _ e).0).1).1)

-- ---- a file that was read
-- what a reply was given from
record From {A B : Type 0} (answer : Reply A) (next : A → Reply B) (b : B) : Type 0 where
  it : A
  is : answer ≡ given it
  onto : next it ≡ given b

given_from : {A B : Type 0} {b : B} (answer : Reply A) (next : A → Reply B) → (answer >>= next) ≡ given b → From answer next b
unfolding ◌>>=◌
given_from (given a) next e = record { it = a; is = refl; onto = e }
given_from (refused why) next e = let z : ◌≡◌ {A = ℕ} 0 1 = cc in absurd (omega arith)

-- its block is one that was read behind a header, its string lies within it
pub record ReadFrom (file : List ℕ) (zone : Zone) : Type 0 where
  pub wide : Bool
  pub at : ℕ
  pub read : read_block rfc9636 file wide at ≡ given zone.block
  pub string : zone.string + zone.size ≤ length file

short_from : (file : List ℕ) (first : Block) {zone : Zone} → end_of first ≤ length file → read_block rfc9636 file false 0 ≡ given first → read_short file first ≡ given zone → ReadFrom file zone
unfolding read_short
short_from file first {zone} l is e = let same : record { version = 0; block = first; string = end_of first; size = 0 } ≡ zone = cc (both_given _ _ e).1 in
    rw (← same) (record { wide = false; at = 0; read = is; string = omega arith })

pub footer_within : (file : List ℕ) (at : ℕ) {size : ℕ} → read_footer file at ≡ given size → at + 1 + size ≤ length file
unfolding read_footer
footer_within file at {size} e = let two = both_given _ _ (both_given _ _ e).1 in
    let same : string_size file (at + 1) ≡ size = cc (both_given _ _ two.1).1 in
    omega (arith, newline_within file (at + 1 + size) (rw same at (held _ _ two.0)))

long_from : (file : List ℕ) (first : Block) {zone : Zone} → read_long rfc9636 file first ≡ given zone → ReadFrom file zone
unfolding read_long
long_from file first {zone} e = let second = given_from (read_block rfc9636 file true (end_of first)) _ e in
    let footer = given_from (read_footer file (end_of second.it)) _ second.onto in
    let same : record { version = octet file 4; block = second.it; string = end_of second.it + 1; size = footer.it } ≡ zone = cc footer.onto in
    rw (← same) (record { wide = true; at = end_of first; read = second.is; string = footer_within file (end_of second.it) footer.is })

pub zone_from : (file : List ℕ) {zone : Zone} → ((block : Block) → read_block rfc9636 file false 0 ≡ given block → end_of block ≤ length file)
    → read_zone_by rfc9636 file ≡ given zone → ReadFrom file zone
unfolding read_zone_by
zone_from file {zone} within e = let first = given_from (read_block rfc9636 file false 0) _ (both_given _ _ e).1 in
    go first.it first.is (eqb (octet file 4) 0) first.onto where
      go : (first : Block) → read_block rfc9636 file false 0 ≡ given first → (t : Bool) → (if t then read_short file first else read_long rfc9636 file first) ≡ given zone → ReadFrom file zone
      go first is true e = short_from file first (within first is) is e
      go first is false e = long_from file first e
