-- A version 0 border is delivered: the count, the moves, the guard pair. Assumes nothing.
use Rattle.numbers.proofs.Prelude.{ℕ, suc, ◌+◌, ◌<◌, length, Bool, true, false, List, [], ◌∷◌, ◌++◌, append_assoc, ◌≡◌, refl, ◌∙◌, arith}
use Rattle.numbers.specs.{Answer.{found, if◌then◌else◌}, Point.{signed_of}, Spelling.{Whole}, Varint.{reading_of}, declared.point.RawPoint.{RawPoint}}
use native.Mathlib.Numerals.{sub-one}
use Rattle.border.specs.{Place.{move_by, is_still, moved_by}, Reader.{gives, closing, plain_move, plain_pair, plain_turn, turn_of}, Written.{Pairs, Version0}, declared.place.Point.{Point}}
use Rattle.border.specs.declared.reader.{Run.TheVariants.{Idle}, Version.TheVariants.{Plain}}
use Rattle.border.proofs.{OnWay.{At, at_first, at_next, reads, on_way, Reads, steps, closes_with}, reader.Turns.{pair_read, pair_closes, pair_moves, counted_before, count_read}}
use Rattle.border.specs.Written as W

-- a pair that is no zero move
module _ (f : List ℕ) (base : ℕ) {lat lon : List ℕ} {a b : ℕ} (whole : Whole lat a) (whole' : Whole lon b) (goes : is_still (move_by (signed_of a) (signed_of b)) ≡ false)
    (place : ℕ) (here : At f place lat) (there : At f (place + length lat) lon) where
  abbrev by : RawPoint
  by = move_by (signed_of a) (signed_of b)

  abbrev behind : ℕ
  behind = place + length lat + length lon

  pair_here : (begun : Bool) (left : ℕ) (first p : Point) → plain_pair (reading_of false f) (on_way begun place left Idle first p) ≡ plain_move (on_way begun behind left Idle first p) by
  pair_here begun left first p = pair_read (reading_of false f) f base (on_way begun place left Idle first p) (reads whole here) (reads whole' there)

  -- with moves left it is one of them; after the last it closes
  pair_steps : (begun : Bool) (left : ℕ) (first p q : Point) → found q ≡ moved_by p by → plain_pair (reading_of false f)
      (on_way begun place (suc left) Idle first p) ≡ found (gives (on_way true behind left Idle (if begun then first else q) q))
  pair_steps begun left first p q m =
      pair_here begun (suc left) first p ∙ pair_moves (on_way begun behind (suc left) Idle first p) by (λ z. omega arith) m ∙ rw (goes, sub-one)

  pair_ends : (begun : Bool) (first p : Point) → plain_pair (reading_of false f) (on_way begun place 0 Idle first p) ≡ found (gives (closing (on_way begun behind 0 Idle first p)))
  pair_ends begun first p = pair_here begun 0 first p ∙ pair_closes (on_way begun behind 0 Idle first p) by refl ∙ rw goes

module _ (f : List ℕ) (base : ℕ) where
  -- pairs at a place, from a state whose turn reads the first of them
  paired : {bytes : List ℕ} {moves : List RawPoint} {last : RawPoint} (guard : List ℕ) → Pairs bytes moves → Pairs guard (last ∷ []) → (place : ℕ)
      → At f place (bytes ++ guard) → (begun : Bool) (before left : ℕ) → ((first p : Point) → plain_turn (reading_of false f)
      (on_way begun before left Idle first p) ≡ plain_pair (reading_of false f) (on_way begun place (length moves) Idle first p)) → Reads f Plain base begun before left Idle moves
  unfolding turn_of
  paired guard W.none (W.some {lat} {lon} {bytes} whole whole' goes r) place here begun before left turn =
      let lat-here = at_first f place lat (lon ++ bytes) here in
      let lon-here = at_first f (place + length lat) lon bytes (at_next f place lat (lon ++ bytes) here) in
      closes_with f Plain base begun before left Idle (place + length lat + length lon) 0 (λ first p. turn first p ∙ pair_ends f base whole whole' goes place lat-here lon-here begun first p)
  paired guard (W.some {lat} {lon} {bytes} {more = more} whole whole' goes r) last place here begun before left turn =
      let all = rw (append_assoc lat (lon ++ bytes) guard, append_assoc lon bytes guard) at here in
      let lat-here = at_first f place lat (lon ++ (bytes ++ guard)) all in let after = at_next f place lat (lon ++ (bytes ++ guard)) all in
      let lon-here = at_first f (place + length lat) lon (bytes ++ guard) after in let behind = place + length lat + length lon in let n = length more in
      steps f Plain base begun before left Idle behind n Idle _ more (λ first p q m. turn first p ∙ pair_steps f base whole whole' goes place lat-here lon-here
      begun n first p q m) (λ first p qs l. paired guard r last behind (at_next f (place + length lat) lon (bytes ++ guard) after) true behind n
      (λ first p. counted_before (reading_of false f) (on_way true behind n Idle first p) refl) first p qs l)

  pub counted : {bytes : List ℕ} {moves : List RawPoint} → Version0 bytes moves → (place : ℕ) → At f place bytes → 0 < length moves → Reads f Plain base false place 0 Idle moves
  counted (W.counted {count} {bytes} {guard} {moves} whole pairs last) place here some =
      paired guard pairs last (place + length count) (at_next f place count (bytes ++ guard) here) false place 0
      (λ first p. count_read (reading_of false f) (on_way false place 0 Idle first p) refl (reads whole (at_first f place count (bytes ++ guard) here)) (λ z. omega arith))
