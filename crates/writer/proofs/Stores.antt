-- Bytes that go into a lent buffer one after another. Assumes nothing.
use Rattle.numbers.proofs.{Lists.{sets_append}, Prelude.{ℕ, suc, ◌+◌, ◌-◌, ◌≤◌, ◌<◌, length, drop, set, length-append, length-replicate, sets, drop-length, length-sets, sets-eq, List, [], ◌∷◌, ◌++◌}}
use Rattle.numbers.{proofs.{Prelude.{append-nil, ◌≡◌, refl, sym, ap, subst, ◌∙◌, arith}, Spelling.{varint_byte}}, specs.{Lists.{zeros}, Spelling.{varint_of, Put}}}
use Rattle.writer.specs.inner.Stored.{Stored}

pub stored_length : {before bytes after : List ℕ} {at next : ℕ} → Stored before at bytes after next → length after ≡ length before
stored_length {before} {bytes} {after} {at} s = ap length s.stored ∙ length-sets before at bytes

-- of a byte
pub stored_one : (before : List ℕ) (at byte : ℕ) → Stored before at (byte ∷ []) (set before at byte) (at + 1)
stored_one before at byte = record { place_after = refl; stored = refl }

-- of a number that was written
pub stored_put : {before bytes after : List ℕ} {at size : ℕ} → Put before at bytes after size → Stored before at bytes after (at + size)
stored_put {at = at} p = record { place_after = ap (λ (n : ℕ). at + n) p.counted; stored = p.stored }

-- `rest` is what is left to store of `all`
pub record Left (before : List ℕ) (from : ℕ) (all now : List ℕ) (at : ℕ) (rest : List ℕ) : Type 0 where
  pub places : at + length rest ≡ from + length all
  pub same : sets now at rest ≡ sets before from all
  pub size : length now ≡ length before

module _ {before all : List ℕ} {from : ℕ} where
  pub left_all : Left before from all before from all
  left_all = record { places = refl; same = refl; size = refl }

  pub left_step : {now after rest : List ℕ} {at next : ℕ} (bytes : List ℕ) → Left before from all now at (bytes ++ rest) → Stored now at bytes after next → Left before from all after next rest
  left_step {now} {after} {rest} {at} {next} bytes l s =
      record {
        places = omega (arith, s.place_after, l.places, length-append bytes rest);
        same = ap (λ (xs : List ℕ). sets xs next rest) s.stored ∙ ap (λ (n : ℕ). sets (sets now at bytes) n rest) s.place_after ∙ sym (sets_append bytes rest now at) ∙ l.same;
        size = stored_length s ∙ l.size;
      }

  pub left_none : {now : List ℕ} {at : ℕ} → Left before from all now at [] → Stored before from all now at
  left_none {now} {at} l = record { place_after = omega (arith, l.places); stored = l.same }

  pub left_last : {now after : List ℕ} {at next : ℕ} (bytes : List ℕ) → Left before from all now at bytes → Stored now at bytes after next → Stored before from all after next
  left_last {now} {after} {at} {next} bytes l s = record { place_after = omega (arith, s.place_after, l.places); stored = s.stored ∙ l.same }

-- one after another
pub stored_then : {before middle after : List ℕ} {at next end : ℕ} (xs ys : List ℕ) → Stored before at xs middle next → Stored middle next ys after end → Stored before at (xs ++ ys) after end
stored_then {before} {middle} {after} {at} {next} {end} xs ys s t = left_last ys (left_step xs (left_all {before = before} {all = xs ++ ys} {from = at}) s) t

-- ---- zeros over the whole buffer

pub zeros_next : (n i : ℕ) → i < n → zeros (n - i) ≡ (0 ∷ []) ++ zeros (n - (i + 1))
zeros_next n i h = let e : n - i ≡ suc (n - (i + 1)) = omega arith in ap zeros e

pub zeros_all : (n : ℕ) → zeros n ≡ zeros (n - 0)
zeros_all n = let e : n ≡ n - 0 = omega arith in ap zeros e

pub zeros_done : (n i : ℕ) → i ≡ n → zeros (n - i) ≡ []
zeros_done n i h = let e : n - i ≡ 0 = omega arith in ap zeros e

-- bytes stored over zeros
pub stored_front : (before bytes after : List ℕ) (next : ℕ) → Stored before 0 bytes after next → length bytes ≤ length before → after ≡ bytes ++ drop (length bytes) before
stored_front before bytes after next s h = let e : 0 + length bytes ≡ length bytes = omega arith in
    s.stored ∙ sets-eq bytes before 0 (omega arith) ∙ ap (λ (k : ℕ). bytes ++ drop k before) e

pub stored_zeros : (before after : List ℕ) (next : ℕ) → Stored before 0 (zeros (length before)) after next → after ≡ zeros (length before)
stored_zeros before after next s = let n : length (zeros (length before)) ≡ length before = length-replicate {A = ℕ} (length before) 0 in
    stored_front before (zeros (length before)) after next s (omega (arith, n)) ∙ ap (λ (k : ℕ). zeros (length before) ++ drop k before) n
    ∙ ap (λ (xs : List ℕ). zeros (length before) ++ xs) (drop-length before) ∙ append-nil (zeros (length before))

-- ---- the marks of a piece
marks : varint_of 0 ++ varint_of 1 ≡ 0 ∷ 1 ∷ []
marks = rw (varint_byte 0 (omega arith), varint_byte 1 (omega arith))

pub marked : {before after : List ℕ} {at next : ℕ} → Stored before at (varint_of 0 ++ varint_of 1) after next → Stored before at (0 ∷ 1 ∷ []) after next
marked {before} {after} {at} {next} s = subst (λ (bs : List ℕ). Stored before at bs after next) marks s
