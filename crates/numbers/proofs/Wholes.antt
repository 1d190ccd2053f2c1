-- A whole number at a place of a file: how it reads forward and backward, and that a number that was read to its end is one. Assumes nothing.
use Rattle.numbers.proofs.Prelude.{ℕ, zero, suc, ◌+◌, ◌-◌, ◌*◌, ◌%◌, ◌^◌, ◌≤◌, ◌<◌, min, lt-ltb, le-ltb, ltb-true, ltb-false, ltb, length, drop, get_or, length-append, length-drop}
use Rattle.numbers.proofs.Prelude.{List·getD-append, drop-drop, get_or-drop, drop-append_seam, Bool, true, false, List, [], ◌∷◌, ◌++◌, ◌≡◌, refl, sym, ap, ◌∙◌, add-zero, arith}
use Rattle.numbers.proofs.{Answers.{found_one, not_failed, not_refused}, Lists.{none_left}}
use Rattle.std.proofs.Common.{add-suc}
use Rattle.numbers.specs.{Answer.{if◌then◌else◌}, Varint.{Numeral, numeral, is_last, value_of, size_of, too_long, forward_at, start_of, backward_at}}

-- the high bit is clear in its last byte and set in the others
data Digits : List ℕ → Type 0 where
  last : (b : ℕ) → b < 128 → Digits (b ∷ [])
  more : (b : ℕ) {bs : List ℕ} → 128 ≤ b → Digits bs → Digits (b ∷ bs)

digits : (w : List ℕ) → size_of w ≡ length w → Digits w
unfolding size_of
digits [] e = absurd (omega arith)
digits (b ∷ bs) e = go (is_last b) refl (digits bs) e where
  go : (t : Bool) → is_last b ≡ t → (size_of bs ≡ length bs → Digits bs) → 1 + (if t then 0 else size_of bs) ≡ suc (length bs) → Digits (b ∷ bs)
  go true i r e = rw (none_left bs (omega arith)) (last b (ltb-true b 128 i))
  go false i r e = more b (ltb-false b 128 i) (r (omega arith))

some_digits : {w : List ℕ} → Digits w → 0 < length w
some_digits (last b h) = omega arith
some_digits (more b h r) = omega arith

pub whole_some : (w : List ℕ) → size_of w ≡ length w → 0 < length w
whole_some w e = some_digits (digits w e)

-- what stands behind it is no part of it
size_alone : {w : List ℕ} → Digits w → (rest : List ℕ) → size_of (w ++ rest) ≡ length w
unfolding size_of
size_alone (last b h) rest = rw (lt-ltb b 128 h)
size_alone (more b h r) rest = rw (le-ltb b 128 h) (omega (arith, size_alone r rest))

value_alone : {w : List ℕ} → Digits w → (rest : List ℕ) → value_of (w ++ rest) ≡ value_of w
unfolding value_of
value_alone (last b h) rest = rw (lt-ltb b 128 h)
value_alone (more b h r) rest = rw (le-ltb b 128 h) (ap (λ (n : ℕ). b % 128 + 128 * n) (value_alone r rest))

low_byte : {w : List ℕ} → Digits w → (n : ℕ) → length w ≡ suc n → get_or w n 0 < 128
low_byte (last b h) zero e = h
low_byte (last b h) (suc n) e = absurd (omega arith)
low_byte (more b h r) zero e = absurd (omega (arith, some_digits r))
low_byte (more b h r) (suc n) e = low_byte r n (omega arith)

high_bytes : {w : List ℕ} → Digits w → (i : ℕ) → suc i < length w → 128 ≤ get_or w i 0
high_bytes (last b h) i l = absurd (omega arith)
high_bytes (more b h r) zero l = h
high_bytes (more b h r) (suc i) l = high_bytes r i (omega arith)

-- the walk down from a number's last byte ends behind the clear byte before it
descends : (file : List ℕ) (place n : ℕ) → get_or file place 0 < 128 → ((i : ℕ) → i < n → 128 ≤ get_or file (suc place + i) 0) → start_of file (suc place + n) ≡ suc place
unfolding start_of
descends file place zero b h = ap (start_of file) (add-zero (suc place)) ∙ rw (lt-ltb (get_or file place 0) 128 b)
descends file place (suc n) b h =
    ap (start_of file) (add-suc (suc place) n) ∙ rw (le-ltb (get_or file (suc place + n) 0) 128 (h n (omega arith))) (descends file place n b (λ i g. h i (omega arith)))

module _ (file w rest : List ℕ) (place : ℕ) (complete : size_of w ≡ length w) (here : drop place file ≡ w ++ rest) where
  byte_of : (i : ℕ) → i < length w → get_or file (place + i) 0 ≡ get_or w i 0
  byte_of i h = sym (get_or-drop place file i 0) ∙ ap (λ (bytes : List ℕ). get_or bytes i 0) here ∙ List·getD-append w rest 0 i h

  some_there : place + length w ≤ length file
  some_there = omega (arith, sym (length-drop place file) ∙ ap length here ∙ length-append w rest, whole_some w complete)

  module _ (short : length w ≤ 10) where
    -- a whole number at a place reads forward as its value, and the next place is behind it
    pub whole_forward : numeral (value_of w % 2 ^ 64) (place + length w) ≡ forward_at file place
    unfolding forward_at too_long
    whole_forward =
        rw (
          here,
          size_alone (digits w complete) rest,
          value_alone (digits w complete) rest,
          lt-ltb place (length file) (omega (arith, some_there, whole_some w complete)),
          le-ltb 10 (min (length w) (length (w ++ rest))) (omega arith),
        )

-- behind a clear byte: read backward from its last byte, which is clear too, it is its value, and the next place is the byte before it
module _ (file w rest : List ℕ) (place : ℕ) (complete : size_of w ≡ length w) (here : drop (suc place) file ≡ w ++ rest) where
  pub whole_clear : get_or file (place + length w) 0 < 128
  whole_clear = let n = length w - 1 in let size : length w ≡ suc n = omega (arith, whole_some w complete) in
      let same : suc place + n ≡ place + length w = omega arith in
      rw (← same, byte_of file w rest (suc place) complete here n (omega arith)) (low_byte (digits w complete) n size)

  pub whole_backward : length w ≤ 10 → get_or file place 0 < 128 → numeral (value_of w % 2 ^ 64) place ≡ backward_at file (place + length w)
  unfolding backward_at
  whole_backward short clear = let n = length w - 1 in let same : place + length w ≡ suc place + n = omega (arith, whole_some w complete) in
      let start : start_of file (place + length w) ≡ suc place = ap (start_of file) same ∙ descends file place n clear (λ i h. rw (byte_of file w rest
      (suc place) complete here i (omega arith)) (high_bytes (digits w complete) i (omega arith))) in
      rw (
        start,
        lt-ltb (place + length w) (length file) (omega (arith, some_there file w rest (suc place) complete here)),
        lt-ltb _ _ whole_clear,
        lt-ltb 0
            (suc place) (omega arith),
        ← whole_forward file w rest (suc place) complete here short,
      )
      (ap (numeral (value_of w % 2 ^ 64)) (omega arith))

-- ---- the other way: a number that was read

-- the number at the head of the bytes, where they do not end inside it
record Headed (bytes : List ℕ) : Type 0 where
  head : List ℕ
  tail : List ℕ
  split : bytes ≡ head ++ tail
  complete : size_of head ≡ length head
  same_size : size_of bytes ≡ length head
  same_value : value_of bytes ≡ value_of head

headed : (bytes : List ℕ) → size_of bytes ≤ length bytes → Headed bytes
unfolding size_of value_of
headed [] h = absurd (omega arith)
headed (b ∷ bs) h = go (is_last b) refl (headed bs) h where
  go : (t : Bool) → is_last b ≡ t → (size_of bs ≤ length bs → Headed bs) → 1 + (if t then 0 else size_of bs) ≤ length (b ∷ bs) → Headed (b ∷ bs)
  go true e r h = record { head = b ∷ []; tail = bs; split = refl; complete = rw e; same_size = rw e; same_value = rw e }
  go false e r h = let later = r (omega arith) in record {
    head = b ∷ later.head;
    tail = later.tail;
    split = ap (λ (xs : List ℕ). b ∷ xs) later.split;
    complete = rw e (omega (arith, later.complete));
    same_size = rw e (omega (arith, later.same_size));
    same_value = rw e (ap (λ (n : ℕ). b % 128 + 128 * n) later.same_value);
  }

-- a number that was read to its end is a whole number, and what is read next stands behind it
pub record ReadWhole (file : List ℕ) (place value next : ℕ) : Type 0 where
  pub bytes : List ℕ
  pub complete : size_of bytes ≡ length bytes
  pub short : length bytes ≤ 10
  pub reads : value_of bytes % 2 ^ 64 ≡ value
  pub stands : drop place file ≡ bytes ++ drop next file

pub read_whole : (file : List ℕ) (place : ℕ) {value next : ℕ} → numeral value next ≡ forward_at file place → next ≤ length file → ReadWhole file place value next
unfolding forward_at too_long
read_whole file place {value} {next} e h = let bytes = drop place file in let here = not_failed (ltb place (length file)) e in
    let fits = not_refused 12 (ltb 10 (min (size_of bytes) (length bytes))) here.1 in let number = found_one fits.1 in
    let n : next ≡ place + size_of bytes = ap (λ (m : Numeral). m.place) number in
    let v : value ≡ value_of bytes % 2 ^ 64 = ap (λ (m : Numeral). m.value) number in
    let short : min (size_of bytes) (length bytes) ≤ 10 = ltb-false 10 (min (size_of bytes) (length bytes)) fits.0 in
    let size : length bytes ≡ length file - place = length-drop place file in
    let front = headed bytes (omega (arith, ltb-true place (length file) here.0)) in record {
      bytes = front.head;
      complete = front.complete;
      short = omega (arith, front.same_size);
      reads = ap (λ (m : ℕ). m % 2 ^ 64) (sym front.same_value) ∙ sym v;
      stands = front.split ∙ ap (λ (xs : List ℕ). front.head ++ xs) (sym (behind front.head front.tail front.split (n ∙ ap (λ (m : ℕ). place + m) front.same_size)));
    } where
      behind : (head tail : List ℕ) → drop place file ≡ head ++ tail → next ≡ place + length head → drop next file ≡ tail
      behind head tail split n =
          ap (λ (m : ℕ). drop m file) n ∙ sym (drop-drop (length head) place file) ∙ ap (drop (length head)) split ∙ drop-append_seam head tail
