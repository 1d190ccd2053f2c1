-- Numbers that are read quickly: what the two tests of bytes say, which case of `short_at` holds by the bytes, and that both readings have
-- the number that it finds. Assumes nothing.
use Rattle.numbers.proofs.Prelude.{ℕ, ◌+◌, ◌-◌, ◌*◌, ◌%◌, ◌≤◌, ◌<◌, lt-ltb, le-leb, le-ltb, leb-true, ltb-true, lt-leb, ltb-false, leb-false, ltb, leb, length, drop, get_or, length-drop}
use Rattle.numbers.proofs.Prelude.{List·getD-eq-default, get_or-drop, Bool, true, false, ◌&&◌, List, ◌≡◌, refl, sym, ap, ◌∙◌, arith}
use Rattle.numbers.proofs.{Answers.{found_one, not_failed, not_refused}, Tests.{differ, both}, varint.{Bytes.{size_more, size_pos}, Reading.{one_byte, two_bytes, three_bytes, four_bytes}}}
use Rattle.numbers.proofs.varint.Strict.{read_both}
use Rattle.numbers.specs.{Answer.{found, failed}, Varint.{Numeral, numeral, size_of, too_long, forward_at, reading_of}, inner.Short.{BeginsAt, is_short, short_at}}

-- of two tests that do not both hold, one fails where the other holds
second_fails : (a b : Bool) → (a && b) ≡ false → a ≡ true → b ≡ false
second_fails true b e h = e
second_fails false b e h = differ h

first_fails : (a b : Bool) → (a && b) ≡ false → b ≡ true → a ≡ false
first_fails true b e h = differ (sym e ∙ h)
first_fails false b e h = refl

-- what `go_on` says of two bytes
module _ {low middle : ℕ} {on : Bool} (is : on ≡ (leb 128 low && leb 128 middle)) where
  pub on_so : on ≡ true → (128 ≤ low) × (128 ≤ middle)
  on_so e = let h = both _ _ (sym is ∙ e) in (leb-true 128 low h.0, leb-true 128 middle h.1)

  pub on_not : on ≡ false → 128 ≤ low → middle < 128
  on_not e h = leb-false 128 middle (second_fails _ _ (sym is ∙ e) (le-leb 128 low h))

-- what `closes` says of a byte
module _ {byte : ℕ} {last : Bool} (is : last ≡ (ltb 0 byte && ltb byte 128)) where
  pub closed_so : last ≡ true → (0 < byte) × (byte < 128)
  closed_so e = let h = both _ _ (sym is ∙ e) in (ltb-true 0 byte h.0, ltb-true byte 128 h.1)

  pub closed_not : last ≡ false → byte < 128 → byte ≤ 0
  closed_not e h = ltb-false 0 byte (first_fails _ _ (sym is ∙ e) (lt-ltb byte 128 h))

module _ (file : List ℕ) (place : ℕ) where
  abbrev bytes : List ℕ
  bytes = drop place file

  -- a number that was found, and its last byte
  module _ {value next : ℕ} (e : numeral value next ≡ forward_at file place) where
    ends_after : next ≡ place + size_of bytes
    unfolding forward_at
    ends_after = ap (λ (number : Numeral). number.place) (found_one (not_refused 12 (too_long bytes) (not_failed (ltb place (length file)) e).1).1)

    module _ (at : ℕ) {last : ℕ} (is : last ≡ get_or file at 0) (n : at + 1 ≡ next) (few : next ≤ place + 4) where
      last_is : get_or bytes (size_of bytes - 1) 0 ≡ last
      last_is = get_or-drop place file (size_of bytes - 1) 0 ∙ ap (λ (k : ℕ). get_or file k 0) (omega (arith, ends_after, size_pos bytes)) ∙ sym is

      short : 0 < last → numeral value next ≡ short_at file place
      unfolding short_at is_short
      short h = simp (last_is, le-leb (size_of bytes) 4 (omega (arith, ends_after)), lt-ltb 0 last h) e

      none : last ≤ 0 → failed ≡ short_at file place
      unfolding short_at is_short
      none h = simp (last_is, le-leb (size_of bytes) 4 (omega (arith, ends_after)), le-ltb 0 last h)

  -- a number of more bytes is none
  longer : 4 < size_of bytes → failed ≡ short_at file place
  unfolding short_at is_short
  longer h = simp (lt-leb (size_of bytes) 4 h)

  -- numbers of one and of two bytes
  module _ {low : ℕ} (room : place + 3 < length file) (a : low ≡ get_or file place 0) where
    one : low < 128 → numeral low (place + 1) ≡ forward_at file place
    one = one_byte file place a (omega arith)

    pub one_short : low < 128 → 0 < low → numeral low (place + 1) ≡ short_at file place
    one_short last = short (one last) place a refl (omega arith)

    pub one_none : low < 128 → low ≤ 0 → failed ≡ short_at file place
    one_none last = none (one last) place a refl (omega arith)

    module _ {middle : ℕ} (on : 128 ≤ low) (b : middle ≡ get_or file (place + 1) 0) where
      two : middle < 128 → numeral (low % 128 + 128 * middle) (place + 2) ≡ forward_at file place
      two = two_bytes file place a on b (omega arith)

      pub two_short : middle < 128 → 0 < middle → numeral (low % 128 + 128 * middle) (place + 2) ≡ short_at file place
      two_short last = short (two last) (place + 1) b (omega arith) (omega arith)

      pub two_none : middle < 128 → middle ≤ 0 → failed ≡ short_at file place
      two_none last = none (two last) (place + 1) b (omega arith) (omega arith)

  -- of three and of four
  module _ {low middle high : ℕ} (begins : BeginsAt file place low middle) (a : high ≡ get_or file (place + 2) 0) where
    three : high < 128 → numeral (low % 128 + 128 * (middle % 128 + 128 * high)) (place + 3) ≡ forward_at file place
    three = three_bytes file place begins.low_is begins.low_on begins.middle_is begins.middle_on a (omega (arith, begins.room))

    pub three_short : high < 128 → 0 < high → numeral (low % 128 + 128 * (middle % 128 + 128 * high)) (place + 3) ≡ short_at file place
    three_short last = short (three last) (place + 2) a (omega arith) (omega arith)

    pub three_none : high < 128 → high ≤ 0 → failed ≡ short_at file place
    three_none last = none (three last) (place + 2) a (omega arith) (omega arith)

    module _ {top : ℕ} (on : 128 ≤ high) (b : top ≡ get_or file (place + 3) 0) where
      four : top < 128 → numeral (low % 128 + 128 * (middle % 128 + 128 * (high % 128 + 128 * top))) (place + 4) ≡ forward_at file place
      four = four_bytes file place begins.low_is begins.low_on begins.middle_is begins.middle_on a on b begins.room

      pub four_short : top < 128 → 0 < top → numeral (low % 128 + 128 * (middle % 128 + 128 * (high % 128 + 128 * top))) (place + 4) ≡ short_at file place
      four_short last = short (four last) (place + 3) b (omega arith) (omega arith)

      -- a fourth byte that does not close the number is 0, or a fifth follows it
      pub four_none : (top < 128 → top ≤ 0) → failed ≡ short_at file place
      four_none nil = go (ltb top 128) refl where
        more : (at next : ℕ) → at + 1 ≡ next → at < length file → 128 ≤ get_or file at 0 → size_of (drop at file) ≡ 1 + size_of (drop next file)
        more at next e h set = rw e at (size_more file at h set)

        go : (t : Bool) → ltb top 128 ≡ t → failed ≡ short_at file place
        go true e = let last = ltb-true top 128 e in none (four last) (place + 3) b (omega arith) (omega arith) (nil last)
        go false e = let room = begins.room in let set = ltb-false top 128 e in
            longer (omega (
              arith,
              more place (place + 1) refl (omega arith) (omega (arith, begins.low_is, begins.low_on)),
              more (place + 1) (place + 2) (omega arith) (omega arith)
                  (omega (arith, begins.middle_is, begins.middle_on)),
              more (place + 2) (place + 3) (omega arith) (omega arith) (omega arith),
              more (place + 3) (place + 4) (omega arith) room
                  (omega arith),
              size_pos (drop (place + 4) file),
            ))

  -- a short number is the number at its place in both readings
  pub short_is_number : (strict : Bool) {number : Numeral} → found number ≡ short_at file place → found number ≡ reading_of strict file place
  unfolding short_at is_short
  short_is_number strict {number} e = let is = not_failed (is_short bytes) e in
      read_both file place strict is.1 (within (leb (length bytes) (size_of bytes - 1)) refl (ltb-true 0 _ (both (leb (size_of bytes) 4) _ is.0).1) is.1) where
        within : (cut : Bool) → leb (length bytes) (size_of bytes - 1) ≡ cut → 0 < get_or bytes (size_of bytes - 1) 0 → found number ≡ forward_at file place → number.place ≤ length file
        within true c last e = absurd (omega (arith, last, List·getD-eq-default bytes 0 (leb-true (length bytes) (size_of bytes - 1) c)))
        within false c last e = omega (arith, ends_after e, leb-false (length bytes) (size_of bytes - 1) c, length-drop place file)
