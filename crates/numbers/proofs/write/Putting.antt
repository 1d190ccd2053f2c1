-- Bytes that go into a lent buffer one after another, as long as there is room. Assumes nothing.
use Rattle.numbers.proofs.{Lists.{sets_past}, Prelude.{ℕ, suc, ◌+◌, ◌-◌, ◌*◌, ◌/◌, ◌%◌, ◌^◌, ◌≤◌, ◌<◌, ltb-false, ltb, length, set, length-set, sets, Bool, true, false, List, ◌∷◌, ◌≡◌, refl}}
use Rattle.numbers.proofs.{Prelude.{sym, ap, ◌∙◌, add-one, arith}, write.Digits.{tenth, weight_later, digits_last, digits_next}}
use Rattle.numbers.specs.{Answer.{if◌then◌else◌}, Spelling.{digits_of, varint_of, Put}}

-- a byte was put at a place: the rest goes on from the next place, where there is one
pub put_next : (xs : List ℕ) (at b : ℕ) (rest : List ℕ) {ys : List ℕ} {next : ℕ} → ys ≡ set xs at b → next ≡ (if ltb at (length xs) then at + 1 else at) → sets ys next rest ≡ sets xs at (b ∷ rest)
put_next xs at b rest {ys} {next} e n = ap (λ (zs : List ℕ). sets zs next rest) e ∙ ap (λ (k : ℕ). sets (set xs at b) k rest) n ∙ go (ltb at (length xs)) refl where
  go : (t : Bool) → ltb at (length xs) ≡ t → sets (set xs at b) (if t then at + 1 else at) rest ≡ sets (set xs at b) (suc at) rest
  go true is = ap (λ (k : ℕ). sets (set xs at b) k rest) (add-one at)
  go false is = let past = ltb-false at (length xs) is in let size : length (set xs at b) ≡ length xs = length-set xs at b in
      sets_past rest (set xs at b) at (omega arith) ∙ sym (sets_past rest (set xs at b) (suc at) (omega arith))

pub put_length : (xs : List ℕ) (at b : ℕ) {ys : List ℕ} → ys ≡ set xs at b → length ys ≡ length xs
put_length xs at b e = ap length e ∙ length-set xs at b

-- ---- the bytes of a varint
-- what is left of the number, and of its bytes
pub record Writing (before : List ℕ) (place value : ℕ) (now : List ℕ) (next rest left : ℕ) : Type 0 where
  pub few : left ≤ 9
  pub low : rest * 128 ^ (9 - left) < 2 ^ 64
  pub same : sets now next (digits_of left rest) ≡ sets before place (varint_of value)
  pub many : length (digits_of left rest) + (9 - left) ≡ length (varint_of value)
  pub size : length now ≡ length before

pub begun : (before : List ℕ) (place value : ℕ) → value < 2 ^ 64 → Writing before place value before place value 9
unfolding varint_of
begun before place value h = record { few = omega arith; low = omega arith; same = refl; many = omega arith; size = refl }

module _ {before now : List ℕ} {place value next rest left : ℕ} (w : Writing before place value now next rest left) where
  -- the last byte
  pub ended : {after : List ℕ} → rest < 128 → after ≡ set now next rest → Put before place (varint_of value) after (10 - left)
  ended h e = let last = digits_last left rest h in let one : length (digits_of left rest) ≡ 1 = ap length last in
      record { counted = omega (arith, w.few, w.many); stored = e ∙ ap (sets now next) (sym last) ∙ w.same }

  -- a byte that others follow
  pub onward : {after : List ℕ} {later : ℕ} → 0 < left → 128 ≤ rest → after ≡ set now next (128 + rest % 128) → later ≡ (if ltb next (length now) then next + 1 else next)
      → Writing before place value after later (rest / 128) (left - 1)
  onward {after} {later} some h e n = let step = digits_next left rest some h in
      let more : length (digits_of left rest) ≡ suc (length (digits_of (left - 1) (rest / 128))) = ap length step in
      let k : 9 - (left - 1) ≡ 9 - left + 1 = omega (arith, w.few) in record {
        few = omega (arith, w.few);
        low = rw k (omega (arith, weight_later (9 - left) rest, w.low));
        same = put_next now next (128 + rest % 128) (digits_of (left - 1) (rest / 128)) e n ∙ ap (sets now next) (sym step) ∙ w.same;
        many = omega (arith, w.few, w.many);
        size = put_length now next (128 + rest % 128) e ∙ w.size;
      }

  -- the tenth byte is the last
  pub tenth_small : left ≡ 0 → rest < 128
  tenth_small z = tenth (9 - left) 0 rest (omega arith) (omega (arith, w.low))

  pub ended_tenth : {after : List ℕ} → left ≡ 0 → after ≡ set now next rest → Put before place (varint_of value) after 10
  ended_tenth z e = let p = ended (tenth_small z) e in record { counted = omega (arith, p.counted); stored = p.stored }
