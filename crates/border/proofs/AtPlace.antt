-- Bytes at a place of a file: behind others, and numbers there, read plainly and strictly. Assumes nothing.
use Rattle.numbers.proofs.Prelude.{ℕ, ◌+◌, ◌^◌, ◌≤◌, ◌<◌, length, take, drop, length-append, length-drop, take-append_seam, drop-append_seam, Bool, List, ◌++◌, ◌≡◌, sym, ap, subst, ◌∙◌, arith}
use Rattle.numbers.{proofs.{Readings.{plain_reading, read_both}, Spelling.{varint_whole}}, specs.{Spelling.{varint_of}, Varint.{numeral, reading_of}}}
use Rattle.border.proofs.OnWay.{At, at_first, at_next, reads, some_bytes}

pub at_inside : {file bytes : List ℕ} {place : ℕ} → At file place bytes → 0 < length bytes → place + length bytes ≤ length file
at_inside {file} {bytes} {place} here some = omega (arith, sym (length-drop place file) ∙ ap length here.here ∙ length-append bytes here.rest)

pub at_take : {file bytes : List ℕ} {place : ℕ} → At file place bytes → take (length bytes) (drop place file) ≡ bytes
at_take {file} {bytes} {place} here = ap (take (length bytes)) here.here ∙ take-append_seam bytes here.rest

pub at_behind : (before bytes rest : List ℕ) {file : List ℕ} → file ≡ before ++ (bytes ++ rest) → At file (length before) bytes
at_behind before bytes rest e = record { rest = rest; here = ap (drop (length before)) e ∙ drop-append_seam before (bytes ++ rest) }

pub at_as : {file bytes bytes' : List ℕ} {place : ℕ} → bytes ≡ bytes' → At file place bytes → At file place bytes'
at_as {file} {place = place} e here = subst (λ (b : List ℕ). At file place b) e here

pub at_place : {file bytes : List ℕ} {place place' : ℕ} → place ≡ place' → At file place bytes → At file place' bytes
at_place {file} {bytes} e here = subst (λ (p : ℕ). At file p bytes) e here

-- a part that stands behind others
pub at_part : {file whole : List ℕ} {place : ℕ} (before bytes behind : List ℕ) → whole ≡ before ++ (bytes ++ behind) → At file place whole → At file (place + length before) bytes
at_part {file} {place = place} before bytes behind e here = at_first file (place + length before) bytes behind (at_next file place before (bytes ++ behind) (at_as e here))

-- a number that was written is read back
pub number_at : (strict : Bool) (file : List ℕ) (place n : ℕ) → n < 2 ^ 64 → At file place (varint_of n) → reading_of strict file place ≡ numeral n (place + length (varint_of n))
number_at strict file place n small here = sym (read_both file place strict (reads (varint_whole n small) here ∙ plain_reading file place) (at_inside here (some_bytes (varint_whole n small))))
