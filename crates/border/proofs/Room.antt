-- How much can still be read. Each turn that gives a point or goes round again leaves less. Assumes nothing.
use Rattle.numbers.proofs.Prelude.{ℕ, suc, ◌+◌, ◌-◌, ◌*◌, ◌≤◌, ◌<◌, min, eqb, leb, length, Bool, true, false, List, ◌≡◌, refl, le_refl, suc-mul, mul-le-mul_right, arith}
use Rattle.numbers.{proofs.{Answers.{All, then_all, any}, Laws.{Read, Before, backward_read}, Readings.{reading_read}}, specs.Answer.{Answer, found, failed, if◌then◌else◌, ◌>>=◌}}
use Rattle.numbers.specs.{Point.{point_of, signed_of}, Varint.{Numeral, reading_of, backward_at}, declared.point.RawPoint.{RawPoint}}
use native.Mathlib.Nat.{min-le_right}
use Rattle.border.specs.{Place.{move_by, is_still, moved_by, negated}, Reader.{Turn, Reading, gives, again, ends, onward, arrived, closing, advanced, shown_by, plain_move, plain_pair, plain_turn}}
use Rattle.border.specs.{Reader.{as_i64, opened, reference, marker, lent, forward_from, backward_from, packed_turn, turn_of}, declared.reader.{Reader.{Reader}, Run.{Run, TheVariants.{Idle}}}}
use Rattle.border.specs.declared.reader.{Run.TheVariants.{Forward, Backward}, Version.{Version, TheVariants.{Plain, Packed}}}

-- ---- the measure

abbrev run_left : ℕ → Run → ℕ
run_left n Idle = 0
run_left n (Forward next end) = n - next
run_left n (Backward next end) = min next n

-- a byte of the border outweighs a whole run
pub room : ℕ → ℕ → Run → ℕ
room n place run = (n - place) * suc n + run_left n run

abbrev pub left : List ℕ → Reader → ℕ
left f s = room (length f) s.place s.run

run_small : (n : ℕ) (r : Run) → run_left n r ≤ n
run_small n Idle = omega arith
run_small n (Forward next end) = omega arith
run_small n (Backward next end) = min-le_right next n

pub room_most : (n place : ℕ) (r : Run) → room n place r ≤ suc n * suc n
unfolding room
room_most n place r = let less : (n - place) * suc n ≤ n * suc n = mul-le-mul_right (suc n) (omega arith) in omega (arith, run_small n r, suc-mul n (suc n))

border_lower : (n place place' : ℕ) (r r' : Run) → place < n → place < place' → room n place' r' < room n place r
unfolding room
border_lower n place place' r r' h k = let more : suc (n - place') * suc n ≤ (n - place) * suc n = mul-le-mul_right (suc n) (omega arith) in
    omega (arith, run_small n r', suc-mul (n - place') (suc n))

either : {A : Type 0} (P : A → Type 0) (t : Bool) (a b : A) → P a → P b → P (if t then a else b)
either P true a b on off = on
either P false a b on off = off

forward_lower : (n place next next' end : ℕ) → next < n → next < next' → room n place (forward_from next' end) < room n place (Forward next end)
unfolding room forward_from
forward_lower n place next next' end h k =
    either (λ (r : Run). (n - place) * suc n + run_left n r < (n - place) * suc n + (n - next)) (leb end next') Idle (Forward next' end) (omega arith) (omega arith)

backward_lower : (n place next next' end : ℕ) → next < n → next' < next → room n place (backward_from next' end) < room n place (Backward next end)
unfolding room backward_from
backward_lower n place next next' end h k =
    either (λ (r : Run). (n - place) * suc n + run_left n r < (n - place) * suc n + min next n) (leb next' end) Idle (Backward next' end) (omega arith) (omega arith)

-- ---- turns

-- where the turn goes on, there is less room than b
abbrev pub Less : List ℕ → ℕ → Turn → Type 0
Less f b (gives s) = left f s < b
Less f b (again s) = left f s < b
Less f b ends = Unit

module _ (f : List ℕ) (b : ℕ) where
  after : (strict : Bool) (place : ℕ) (next : Numeral → Answer Turn) → ((n : Numeral) → place < length f → place < n.place → All (Less f b) (next n))
      → All (Less f b) (reading_of strict f place >>= next)
  after strict place next k =
      then_all (λ (number : Numeral). Read f place number.value number.place) (Less f b) (reading_of strict f place) next (reading_read strict f place) (λ n h. k n h.inside h.grows)

  before : (place : ℕ) (next : Numeral → Answer Turn) → ((n : Numeral) → place < length f → n.place < place → All (Less f b) (next n)) → All (Less f b) (backward_at f place >>= next)
  before place next k = then_all (Before f place) (Less f b) (backward_at f place) next (backward_read f place) (λ n h. k n h.inside h.falls)

  whatever : {A : Type 0} (answer : Answer A) (next : A → Answer Turn) → ((a : A) → All (Less f b) (next a)) → All (Less f b) (answer >>= next)
  whatever {A} answer next k = then_all (λ (a : A). Unit {0}) (Less f b) answer next (any answer) (λ a h. k a)

  advanced_less : (s : Reader) (by : RawPoint) → left f s < b → All (Less f b) (advanced s by)
  unfolding advanced
  advanced_less s by h = whatever (moved_by s.point by) _ (λ p. h)

  shown_less : (by : RawPoint) (s : Reader) → left f s < b → Less f b (shown_by by s)
  shown_less by s h = either (Less f b) (is_still by) (again s) (gives s) h h

  pair_less : (s : Reader) (by : RawPoint) → ((r : Run) → room (length f) s.place r < b) → All (Less f b) (plain_move s by)
  unfolding plain_move
  pair_less s by h =
      either (All (Less f b)) (eqb s.moves 0) (found (shown_by by (closing s))) _ (shown_less by (closing s) (h s.run))
      (whatever (moved_by s.point by) _ (λ p. shown_less by (arrived (onward s s.place (s.moves - 1) Idle) p) (h Idle)))

-- at a later place of the border there is less room than in s, whatever the run
later : (f : List ℕ) (s : Reader) (place place' : ℕ) → s.place ≤ place → place < length f → place < place' → (r : Run) → room (length f) place' r < left f s
later f s place place' h k l r = border_lower (length f) s.place place' s.run r (omega arith) (omega arith)

module _ (strict : Bool) (f : List ℕ) (base : ℕ) (s : Reader) where
  abbrev read : Reading
  read = reading_of strict f

  abbrev b : ℕ
  b = left f s

  numbers_less : (t : Reader) → s.place ≤ t.place → All (Less f b) (plain_pair read t)
  unfolding plain_pair
  numbers_less t h =
      after f b strict t.place _ (λ lat k l. after f b strict lat.place _ (λ lon k' l'. pair_less f b (onward t lon.place t.moves Idle)
      (move_by (signed_of lat.value) (signed_of lon.value)) (later f s lat.place lon.place (omega arith) k' l')))

  plain_less : All (Less f b) (plain_turn read s)
  unfolding plain_turn
  plain_less =
      either (All (Less f b)) s.begun (plain_pair read s) _ (numbers_less s (le_refl s.place)) (after f b strict s.place _ (λ count k l. either
      (All (Less f b)) (eqb count.value 0) failed _ tt (numbers_less (onward s count.place count.value Idle) (omega arith))))

  reference_less : (t : Reader) → s.place ≤ t.place → All (Less f b) (reference read base t)
  unfolding reference
  reference_less t h =
      after f b strict t.place _ (λ start k l. after f b strict start.place _ (λ length k' l'. whatever f b (opened base (as_i64 start.value)
      (signed_of length.value)) _ (λ run. later f s start.place length.place (omega arith) k' l' run)))

  marker_less : (t : Reader) → s.place ≤ t.place → All (Less f b) (marker read base t)
  unfolding marker
  marker_less t h =
      after f b strict t.place _ (λ mark k l. let less = later f s t.place mark.place h k l in either (All (Less f b)) (eqb mark.value 0)
      (found (gives (closing (onward t mark.place t.moves Idle)))) _ (less Idle) (either (All (Less f b)) (eqb mark.value 1) (reference read base
      (onward t mark.place t.moves Idle)) _ (reference_less (onward t mark.place t.moves Idle) (omega arith)) (less Idle)))

  packed_less : (run : Run) → s.run ≡ run → All (Less f b) (packed_turn run read f base s)
  unfolding packed_turn
  packed_less Idle e =
      after f b strict s.place _ (λ number k l. let here = onward s number.place s.moves Idle in either (All (Less f b)) (eqb number.value 0)
      (marker read base here) _ (marker_less here (omega arith)) (advanced_less f b here (point_of number.value) (later f s s.place number.place (le_refl s.place) k l Idle)))
  packed_less (Forward next end) e =
      after f b strict next _ (λ number k l. whatever f b (lent number.value) _ (λ by. advanced_less f b (onward s s.place s.moves (forward_from number.place end)) by
      (rw e (forward_lower (length f) s.place next number.place end k l))))
  packed_less (Backward next end) e =
      before f b next _ (λ number k l. whatever f b (lent number.value) _ (λ by. whatever f b (negated by) _ (λ back. advanced_less f b (onward s s.place
      s.moves (backward_from number.place end)) back (rw e (backward_lower (length f) s.place next number.place end k l)))))

pub turn_lowers : (strict : Bool) (f : List ℕ) (version : Version) (base : ℕ) (s : Reader) → All (Less f (left f s)) (turn_of strict f version base s)
unfolding turn_of
turn_lowers strict f Plain base s = either (All (Less f (left f s))) s.closed (found ends) _ tt (plain_less strict f base s)
turn_lowers strict f Packed base s = either (All (Less f (left f s))) s.closed (found ends) _ tt (packed_less strict f base s s.run refl)
