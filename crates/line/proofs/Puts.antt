-- Bytes that go into a lent buffer one after another. Assumes nothing.
use Rattle.numbers.proofs.{Lists.{sets_append, sets_past}, Prelude.{ℕ, ◌+◌, ◌≤◌, ◌<◌, min, leb-true, leb-false, leb, length, take, drop, get_or, length-append, sets, take_at, take-suc, length-sets}}
use Rattle.numbers.proofs.Prelude.{sets-eq, set_out, Bool, true, false, List, [], ◌∷◌, ◌++◌, ◌≡◌, refl, sym, ap, subst, ◌∙◌, add-one, arith}
use Prim.Native.Nat.{max}
use Rattle.line.specs.Put.{far, Put}

-- from the place that was answered as from the place behind all bytes
from_there : (ys now : List ℕ) (next far : ℕ) → next ≤ far → (next < length now → next ≡ far) → sets now next ys ≡ sets now far ys
from_there ys now next far le e = go (leb (length now) next) refl where
  go : (t : Bool) → leb (length now) next ≡ t → sets now next ys ≡ sets now far ys
  go true l = let h = leb-true (length now) next l in sets_past ys now next h ∙ sym (sets_past ys now far (omega (arith, h, le)))
  go false l = ap (λ (n : ℕ). sets now n ys) (e (leb-false (length now) next l))

module _ {before bytes after : List ℕ} {at next : ℕ} (p : Put before at bytes after next) where
  pub put_length : length after ≡ length before
  put_length = ap length p.stored ∙ length-sets before at bytes

pub put_none : (before : List ℕ) (at : ℕ) → Put before at [] before at
put_none before at = record { place_after = omega arith; stored = refl }

-- past the end a byte is only counted, and at the last place not even that
pub put_past : (before : List ℕ) (at byte : ℕ) → length before ≤ at → at < far → Put before at (byte ∷ []) before (at + 1)
put_past before at byte h k = record { place_after = omega arith; stored = sym (set_out before at byte h) }

pub put_far : (before : List ℕ) (at byte : ℕ) → length before ≤ at → far ≤ at → Put before at (byte ∷ []) before at
put_far before at byte h k = record { place_after = omega arith; stored = sym (set_out before at byte h) }

-- the same bytes, said otherwise
pub put_as : {before xs ys after : List ℕ} {at next : ℕ} → xs ≡ ys → Put before at xs after next → Put before at ys after next
put_as {before} {xs} {ys} {after} {at} {next} e p = subst (λ (bs : List ℕ). Put before at bs after next) e p

pub put_byte : {before after : List ℕ} {at byte b next : ℕ} → byte ≡ b → Put before at (byte ∷ []) after next → Put before at (b ∷ []) after next
put_byte e p = put_as (ap (λ (b : ℕ). b ∷ []) e) p

-- places, counted on
on : (at a b cap next end : ℕ) → next ≡ max at (min (at + a) cap) → end ≡ max next (min (next + b) cap) → end ≡ max at (min (at + (a + b)) cap)
on at a b cap next end e f = omega arith

-- one after another
pub put_then : {before middle after : List ℕ} {at next end : ℕ} (xs ys : List ℕ) → Put before at xs middle next → Put middle next ys after end → Put before at (xs ++ ys) after end
put_then {before} {middle} {after} {at} {next} {end} xs ys p q =
    record {
      place_after =
          on at (length xs) (length ys) (max far (length before)) next end p.place_after (q.place_after ∙ ap (λ (n : ℕ). max next (min (next + length ys) (max far n))) (put_length p))
          ∙ ap (λ (n : ℕ). max at (min (at + n) (max far (length before)))) (sym (length-append xs ys));
      stored =
          q.stored
          ∙ ap (λ (zs : List ℕ). sets zs next ys) p.stored
          ∙ from_there ys (sets before at xs) next (at + length xs) (omega (arith, p.place_after)) (λ h. omega (arith, h, p.place_after, length-sets before at xs))
          ∙ sym (sets_append xs ys before at);
    }

-- one more of a list
pub put_next : {before now after : List ℕ} {at next end : ℕ} (bytes : List ℕ) (i : ℕ) → i < length bytes → Put before at (take i bytes) now next →
    Put now next (get_or bytes i 0 ∷ []) after end → Put before at (take (i + 1) bytes) after end
put_next {before} {now} {after} {at} {next} {end} bytes i h p q =
    subst (λ (bs : List ℕ). Put before at bs after end) (sym (ap (λ (k : ℕ). take k bytes) (add-one i) ∙ take-suc bytes i 0 h)) (put_then (take i bytes) (get_or bytes i 0 ∷ []) p q)

-- the whole length, as far as places go; what ends inside the buffer stands there whole
pub put_size : {before bytes after : List ℕ} {next : ℕ} → Put before 0 bytes after next → length before ≤ far → next ≡ min (length bytes) far
put_size p h = omega (arith, p.place_after)

pub put_whole : {before bytes after : List ℕ} {next : ℕ} → Put before 0 bytes after next → length before < far → next ≤ length before →
    (next ≡ length bytes) × (after ≡ bytes ++ drop (length bytes) before)
put_whole {before} {bytes} {after} {next} p short fits = let n : next ≡ length bytes = omega (arith, p.place_after) in
    (n, p.stored ∙ sets-eq bytes before 0 (omega arith) ∙ ap (λ (k : ℕ). bytes ++ drop k before) (let e : 0 + length bytes ≡ length bytes = omega arith in e))

-- what stands at the front, whole
pub put_front : {before bytes after : List ℕ} {next : ℕ} → Put before 0 bytes after next → length bytes ≤ length before → (next ≡ length bytes) × (take next after ≡ bytes)
put_front {before} {bytes} {after} {next} p h = let n : next ≡ length bytes = omega (arith, p.place_after) in
    (n, ap (λ (xs : List ℕ). take next xs) (p.stored ∙ sets-eq bytes before 0 (omega arith)) ∙ take_at bytes (drop (0 + length bytes) before) next (sym n))

-- two outcomes that the promise of a function that puts bytes permits are equal: the place after them and all of the buffer
pub same_put : {before : List ℕ} {at : ℕ} {bytes after after' : List ℕ} {next next' : ℕ} → Put before at bytes after next → Put before at bytes after' next' → (next ≡ next') × (after ≡ after')
same_put p q = (p.place_after ∙ sym q.place_after, p.stored ∙ sym q.stored)
