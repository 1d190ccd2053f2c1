-- A whole number at a place of a file is read there, strictly or not. Assumes nothing.
use Rattle.numbers.proofs.Prelude.{ℕ, ◌+◌, ◌≤◌, length, length-append, length-drop, Bool, List, ◌≡◌, sym, ap, ◌∙◌, arith}
use Rattle.numbers.{proofs.{Readings.{read_both}, Wholes.{whole_forward, whole_some}}, specs.{Spelling.{Whole}, Varint.{numeral, reading_of}}}
use Rattle.border.proofs.OnWay.{At}

pub reads_both : {f w : List ℕ} {place value : ℕ} (strict : Bool) → Whole w value → At f place w → numeral value (place + length w) ≡ reading_of strict f place
reads_both {f} {w} {place} {value} strict h here =
    read_both f place strict (rw (← h.reads) (whole_forward f w here.rest place h.complete here.here h.short)) inside where
      inside : place + length w ≤ length f
      inside = omega (arith, sym (length-drop place f) ∙ ap length here.here ∙ length-append w here.rest, whole_some w h.complete)
