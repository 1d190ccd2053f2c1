-- What holds while a number is gathered on the way down: the invariant of `read_backward`'s loop, and what it gives where the loop is left.
-- Assumes nothing.
use Rattle.numbers.proofs.{Prelude.{ℕ, ◌+◌, ◌-◌, ◌*◌, ◌%◌, ◌^◌, ◌≤◌, ◌<◌, length, drop, get_or, length-drop, List, ◌≡◌, refl, sym, ap, ◌∙◌, arith}, varint.Backward.{bottom, upward}}
use Rattle.numbers.proofs.varint.{Bytes.{value_last, value_more, size_last, size_more, start_here, start_lower, start_none}, Gather.{gather_below}, Reading.{too_long_lem, read_whole}}
use lib.Bits.{bit_or}
use Rattle.numbers.specs.{Answer.{failed, refused}, Varint.{numeral, value_of, size_of, start_of, backward_at}}

-- the bytes from start to place belong to the number, and value holds what they give
pub record Descent (file : List ℕ) (place value start : ℕ) : Type 0 where
  pub here : place < length file
  pub last : get_or file place 0 < 128
  pub lower : start ≤ place
  pub value_is : value ≡ value_of (drop start file) % 2 ^ 64
  pub size_is : start + size_of (drop start file) ≡ place + 1
  pub start_is : start_of file start ≡ start_of file place

pub begun : (file : List ℕ) (place : ℕ) → place < length file → get_or file place 0 < 128 → Descent file place (get_or file place 0) place
begun file place h l = record {
  here = h;
  last = l;
  lower = omega arith;
  value_is = omega (arith, value_last file place h l);
  size_is = omega (arith, size_last file place h l);
  start_is = refl;
}

module _ {file : List ℕ} {place value start : ℕ} (d : Descent file place value start) where
  pub further : 0 < start → 128 ≤ get_or file (start - 1) 0 → Descent file place (bit_or (value * 2 ^ 7 % 2 ^ 64) (get_or file (start - 1) 0 % 128)) (start - 1)
  further pos h = let inside : start - 1 < length file = omega arith in let again : start - 1 + 1 ≡ start = omega arith in
      let v : value_of (drop (start - 1) file) ≡ get_or file (start - 1) 0 % 128 + 128 * value_of (drop start file) = rw again at (value_more file (start - 1) inside h) in
      let s : size_of (drop (start - 1) file) ≡ 1 + size_of (drop start file) = rw again at (size_more file (start - 1) inside h) in record {
        here = d.here;
        last = d.last;
        lower = omega arith;
        value_is = gather_below value (get_or file (start - 1) 0 % 128) (omega arith) ∙ omega (arith, v, d.value_is);
        size_is = omega (arith, s, d.size_is);
        start_is = start_lower file start pos h ∙ d.start_is;
      }

  -- the byte below belongs to another number: this one is whole
  module _ (pos : 0 < start) (h : get_or file (start - 1) 0 < 128) where
    begins : start ≡ start_of file place
    begins = sym (start_here file start pos h) ∙ d.start_is

    pub whole : place - start ≤ 9 → numeral value (start - 1) ≡ backward_at file place
    whole short =
        upward file place d.here d.last begins (omega arith)
        (ap (λ (n : ℕ). numeral n (start + size_of (drop start file))) d.value_is ∙ sym (read_whole file start (omega arith) (omega (arith, d.size_is))))

    pub overlong : 9 < place - start → refused 12 ≡ backward_at file place
    overlong long =
        upward file place d.here d.last begins (omega arith) (sym (too_long_lem file start (omega arith) (omega (arith, d.size_is, length-drop start file))))

  pub none : start ≤ 0 → failed ≡ backward_at file place
  none h = bottom file place d.here d.last (sym (start_none file start h) ∙ d.start_is) (omega arith)
