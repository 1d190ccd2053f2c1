-- Each kind of turn, once its numbers are read: what the code goes by, and whoever writes a border. Assumes nothing.
use Rattle.numbers.proofs.Prelude.{ℕ, ◌-◌, eq-eqb, ne_eqb, Bool, true, false, List, ◌≡◌}
use Rattle.numbers.specs.{Answer.{found, failed, ◌>>=◌}, Point.{signed_of, point_of}, Varint.{numeral, reading_of, backward_at}, declared.point.RawPoint.{RawPoint}}
use Rattle.border.specs.{Place.{move_by, moved_by, negated}, Reader.{Reading, gives, again, ends, onward, arrived, closing, advanced, shown_by, plain_move, plain_pair, plain_turn, as_i64, opened}}
use Rattle.border.specs.{Reader.{reference, marker, lent, forward_from, backward_from, packed_turn, turn_of}, declared.{place.Point.{Point}, reader.{Reader.{Reader}, Run.{Run}}}}
use Rattle.border.specs.declared.reader.{Run.TheVariants.{Idle, Forward, Backward}, Version.{Version, TheVariants.{Plain, Packed}}}

-- ---- version 1, outside a reference

module _ (reading : Reading) (f : List ℕ) (base : ℕ) (s : Reader) {value next : ℕ} (read : numeral value next ≡ reading s.place) where
  -- a number that is not 0 is a move
  pub turn_move : (value ≡ 0 → ⊥) → packed_turn Idle reading f base s ≡ advanced (onward s next s.moves Idle) (point_of value)
  unfolding packed_turn
  turn_move h = rw (← read, ne_eqb value 0 h)

  -- 0 and a marker
  pub turn_marker : value ≡ 0 → packed_turn Idle reading f base s ≡ marker reading base (onward s next s.moves Idle)
  unfolding packed_turn
  turn_marker h = rw (← read, eq-eqb value 0 h)

  pub mark_closes : value ≡ 0 → marker reading base s ≡ found (gives (closing (onward s next s.moves Idle)))
  unfolding marker
  mark_closes h = rw (← read, eq-eqb value 0 h)

  pub mark_opens : (value ≡ 0 → ⊥) → value ≡ 1 → marker reading base s ≡ reference reading base (onward s next s.moves Idle)
  unfolding marker
  mark_opens n h = rw (← read, ne_eqb value 0 n, eq-eqb value 1 h)

  pub mark_repeats : (value ≡ 0 → ⊥) → (value ≡ 1 → ⊥) → marker reading base s ≡ found (gives (arrived (onward s next s.moves Idle) s.point))
  unfolding marker
  mark_repeats n h = rw (← read, ne_eqb value 0 n, ne_eqb value 1 h)

  module _ {size after : ℕ} (then : numeral size after ≡ reading next) where
    -- a reference of a start and a length
    pub reference_opens : {run : Run} → found run ≡ opened base (as_i64 value) (signed_of size) → reference reading base s ≡ found (again (onward s after s.moves run))
    unfolding reference
    reference_opens o = rw (← read, ← then, ← o)

    -- version 0: a pair of numbers
    pub pair_read : plain_pair reading s ≡ plain_move (onward s after s.moves Idle) (move_by (signed_of value) (signed_of size))
    unfolding plain_pair
    pair_read = rw (← read, ← then)

-- ---- version 1, inside a reference

module _ (reading : Reading) (f : List ℕ) (base : ℕ) (s : Reader) (next end : ℕ) {value later : ℕ} where
  module _ (read : numeral value later ≡ reading next) where
    pub forward_fails : value ≡ 0 → packed_turn (Forward next end) reading f base s ≡ failed
    unfolding packed_turn lent
    forward_fails h = rw (← read, eq-eqb value 0 h)

    pub forward_move : (value ≡ 0 → ⊥) → packed_turn (Forward next end) reading f base s ≡ advanced (onward s s.place s.moves (forward_from later end)) (point_of value)
    unfolding packed_turn lent
    forward_move h = rw (← read, ne_eqb value 0 h)

  module _ (read : numeral value later ≡ backward_at f next) where
    pub backward_fails : value ≡ 0 → packed_turn (Backward next end) reading f base s ≡ failed
    unfolding packed_turn lent
    backward_fails h = rw (← read, eq-eqb value 0 h)

    pub backward_back : (value ≡ 0 → ⊥) → packed_turn (Backward next end) reading f base s ≡ (negated (point_of value) >>= λ back. advanced (onward s s.place s.moves (backward_from later end)) back)
    unfolding packed_turn lent
    backward_back h = rw (← read, ne_eqb value 0 h)

    pub backward_move : {back : RawPoint} → (value ≡ 0 → ⊥) → found back ≡ negated (point_of value) → packed_turn (Backward next end) reading f base s ≡ advanced
        (onward s s.place s.moves (backward_from later end)) back
    unfolding packed_turn lent
    backward_move h o = rw (← read, ne_eqb value 0 h, ← o)

-- ---- a move

module _ (s : Reader) (by : RawPoint) where
  pub advances : {p : Point} → found p ≡ moved_by s.point by → advanced s by ≡ found (gives (arrived s p))
  unfolding advanced
  advances m = rw (← m)

  -- version 0: past the last move, and before
  pub pair_closes : s.moves ≡ 0 → plain_move s by ≡ found (shown_by by (closing s))
  unfolding plain_move
  pair_closes h = rw (eq-eqb s.moves 0 h)

  pub pair_moves : {p : Point} → (s.moves ≡ 0 → ⊥) → found p ≡ moved_by s.point by → plain_move s by ≡ found (shown_by by (arrived (onward s s.place (s.moves - 1) Idle) p))
  unfolding plain_move
  pair_moves h m = rw (ne_eqb s.moves 0 h, ← m)

-- ---- version 0: the count

module _ (reading : Reading) (s : Reader) where
  pub counted_before : s.begun ≡ true → plain_turn reading s ≡ plain_pair reading (onward s s.place s.moves Idle)
  unfolding plain_turn plain_pair
  counted_before h = rw h

  module _ {value next : ℕ} (new : s.begun ≡ false) (read : numeral value next ≡ reading s.place) where
    pub count_fails : value ≡ 0 → plain_turn reading s ≡ failed
    unfolding plain_turn
    count_fails h = rw (new, ← read, eq-eqb value 0 h)

    pub count_read : (value ≡ 0 → ⊥) → plain_turn reading s ≡ plain_pair reading (onward s next value Idle)
    unfolding plain_turn
    count_read h = rw (new, ← read, ne_eqb value 0 h)

-- ---- a closed border

pub closed_ends : (strict : Bool) (f : List ℕ) (version : Version) (base : ℕ) (s : Reader) → s.closed ≡ true → turn_of strict f version base s ≡ found ends
unfolding turn_of
closed_ends strict f Plain base s h = rw h
closed_ends strict f Packed base s h = rw h

-- ---- a border that is not closed

pub open_packed : (strict : Bool) (f : List ℕ) (base : ℕ) (s : Reader) → s.closed ≡ false → turn_of strict f Packed base s ≡ packed_turn s.run (reading_of strict f) f base s
unfolding turn_of
open_packed strict f base s h = rw h

pub open_plain : (strict : Bool) (f : List ℕ) (base : ℕ) (s : Reader) → s.closed ≡ false → turn_of strict f Plain base s ≡ plain_turn (reading_of strict f) s
unfolding turn_of
open_plain strict f base s h = rw h
