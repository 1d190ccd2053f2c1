-- A text as it is printed. Assumes nothing.
use Rattle.numbers.proofs.Prelude.{ℕ, ◌+◌, ◌*◌, ◌≤◌, ◌<◌, eq-eqb, ne_eqb, lt-ltb, le-ltb, length, take, get_or, drop_of_length-le, take-suc, List, [], ◌∷◌, ◌++◌, map, ◌≡◌, refl, sym, ap, ◌∙◌, add-one}
use Rattle.numbers.proofs.Prelude.{arith}
use lib.Bits.{bit_xor, xor_zero_r}
use mathlib.Core.List.{map-append}
use Rattle.line.specs.{Clock.{weekdays, weekday_text, hours_text, seconds_text, shown}, Put.{decimal, two_digits}}

-- ---- one byte
pub letter : (byte : ℕ) → 32 < byte → byte < 127 → byte ≡ shown byte
unfolding shown
letter byte low high = rw (lt-ltb 32 byte low, lt-ltb byte 127 high) refl

pub too_low : (byte : ℕ) → byte ≤ 32 → 63 ≡ shown byte
unfolding shown
too_low byte h = rw (le-ltb 32 byte h) refl

pub too_high : (byte : ℕ) → 32 < byte → 127 ≤ byte → 63 ≡ shown byte
unfolding shown
too_high byte low high = rw (lt-ltb 32 byte low, le-ltb byte 127 high) refl

-- one byte more, by any function of a byte
pub one_more : (f : ℕ → ℕ) (text : List ℕ) (i : ℕ) → i < length text → map f (take i text) ++ (f (get_or text i 0) ∷ []) ≡ map f (take (i + 1) text)
one_more f text i h = sym (ap (λ (k : ℕ). map f (take k text)) (add-one i) ∙ ap (map f) (take-suc text i 0 h) ∙ map-append f (take i text) (get_or text i 0 ∷ []))

-- under a mask of 0 each byte is itself
pub unmasked_so : (text : List ℕ) → map (λ byte. shown (bit_xor byte 0)) text ≡ map shown text
unmasked_so [] = refl
unmasked_so (byte ∷ text) = λ j. shown (xor_zero_r byte j) ∷ unmasked_so text j

-- ---- the parts of a span, by the tests that the code makes
pub few_hours : (hours : ℕ) → hours < 100 → two_digits hours ≡ hours_text hours
unfolding hours_text
few_hours hours h = rw (lt-ltb hours 100 h) refl

pub many_hours : (hours : ℕ) → 100 ≤ hours → decimal hours ≡ hours_text hours
unfolding hours_text
many_hours hours h = rw (le-ltb hours 100 h) refl

pub no_seconds : (seconds : ℕ) → seconds ≡ 0 → [] ≡ seconds_text seconds
unfolding seconds_text
no_seconds seconds h = rw (eq-eqb seconds 0 h) refl

pub some_seconds : (seconds : ℕ) → (seconds ≡ 0 → ⊥) → 58 ∷ two_digits seconds ≡ seconds_text seconds
unfolding seconds_text
some_seconds seconds h = rw (ne_eqb seconds 0 h) refl

-- a weekday is one of seven
pub no_day : (weekday : ℕ) → 7 ≤ weekday → weekday_text weekday ≡ []
unfolding weekday_text
no_day weekday h = ap (take 3) (drop_of_length-le weekdays {i = 3 * weekday} (omega (arith, h)))

pub none_of_four : (n : ℕ) → (n ≡ 0 → ⊥) → (n ≡ 1 → ⊥) → (n ≡ 2 → ⊥) → (n ≡ 3 → ⊥) → 4 ≤ n
none_of_four n a b c d = omega arith

pub none_of_three : (n : ℕ) → 4 ≤ n → (n ≡ 4 → ⊥) → (n ≡ 5 → ⊥) → (n ≡ 6 → ⊥) → 7 ≤ n
none_of_three n h a b c = omega arith
