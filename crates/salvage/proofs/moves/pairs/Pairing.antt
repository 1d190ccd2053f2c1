-- Pairs that are read and written one after the other. Assumes nothing.
use Rattle.std.specs.Prelude.{Err}
use Rattle.numbers.proofs.Prelude.{ℕ, suc, ◌-◌, List, [], ◌∷◌, ◌++◌, append_assoc, append-nil, flat_map, ◌≡◌, refl, sym, ap, ◌∙◌, arith}
use Rattle.numbers.{proofs.Answers.{found_again}, specs.{Answer.{Answer, found, failed, refused, ◌>>=◌}, Point.{signed_of}, Varint.{numeral, told}, declared.{point.RawPoint.{RawPoint}, varint.Stop.{Stop}}}}
use Rattle.writer.specs.Moves.{plain_move_bytes}
use Rattle.border.specs.{Place.{move_by}, Reader.{Reading}}
use Rattle.salvage.proofs.moves.{Capping.{capped_none, capped_then, capped_as}, Ends.{by_stop, unfound, unrefused}}
use Rattle.salvage.specs.{Moves.Moves.{pair_at, pairs_from}, declared.moves.pairs.Pair.{Pair}, inner.Moves.Laid.{Capped, Copied}}

-- the two numbers of a pair
pub pair_is : (read : Reading) (place : ℕ) {a b next after : ℕ} → numeral a next ≡ read place → numeral b after ≡ read next
    → found (record { by = move_by (signed_of a) (signed_of b); place = after }) ≡ pair_at read place
unfolding pair_at
pair_is read place e g = rw (← e, ← g)

-- an answer that is no pair
pub no_pair : (stop : Stop) (pair : Pair) → told {A = Pair} (Err stop) ≡ found pair → ⊥
no_pair stop pair = by_stop (λ (a : Answer Pair). a ≡ found pair → ⊥) unfound (λ n. unrefused) stop

-- the bytes of one more, of moves or of anything
pub bytes_next : {A : Type 0} (each : A → List ℕ) (done : List A) (by : A) → flat_map each done ++ each by ≡ flat_map each (done ++ (by ∷ []))
unfolding flat_map
bytes_next each [] by = sym (append-nil (each by))
bytes_next each (m ∷ ms) by = append_assoc (each m) (flat_map each ms) (each by) ∙ ap (λ (bs : List ℕ). each m ++ bs) (bytes_next each ms by)

-- a move in front of those that follow, behind those that are done
regroup : (done : List RawPoint) (by : RawPoint) (more : Answer (List RawPoint)) →
    ((more >>= λ rest. found (by ∷ rest)) >>= λ rest. found (done ++ rest)) ≡ (more >>= λ rest. found ((done ++ (by ∷ [])) ++ rest))
regroup done by (found rest) = ap found (sym (append_assoc done (by ∷ []) rest))
regroup done by failed = refl
regroup done by (refused n) = refl

module _ (read : Reading) (count place : ℕ) (before : List ℕ) (at : ℕ) where
  abbrev whole : Answer (List RawPoint)
  whole = pairs_from read (suc count) place

  -- those that are done were written, and those that are left make up the rest
  pub record Pairing (now : List ℕ) (next here left : ℕ) : Type 0 where
    pub done : List RawPoint
    pub rest : whole ≡ (pairs_from read (suc left) here >>= λ rest. found (done ++ rest))
    pub laid : Capped before at (flat_map plain_move_bytes done) now next

  pub pair_starts : Pairing before at place count
  unfolding flat_map
  pair_starts = record { done = []; rest = found_again whole; laid = capped_none before at }

  module _ {now : List ℕ} {next here : ℕ} where
    -- a pair that was read
    more : (left : ℕ) (p : Pairing now next here left) {pair : Pair} → found pair ≡ pair_at read here
        → whole ≡ (pairs_from read left pair.place >>= λ rest. found ((p.done ++ (pair.by ∷ [])) ++ rest))
    unfolding pairs_from
    more left p {pair} e =
        p.rest ∙ ap (λ (answer : Answer Pair). (answer >>= λ pair. pairs_from read left pair.place >>= λ rest. found (pair.by ∷ rest)) >>= λ rest. found
        (p.done ++ rest)) (sym e) ∙ regroup p.done pair.by (pairs_from read left pair.place)

    pub pair_goes : {after : List ℕ} {next' : ℕ} (left : ℕ) → (left ≡ 0 → ⊥) → (p : Pairing now next here left) {pair : Pair} → found pair ≡ pair_at read here
        → Capped now next (plain_move_bytes pair.by) after next' → Pairing after next' pair.place (left - 1)
    pair_goes left some p {pair} e c = let fewer : suc (left - 1) ≡ left = omega arith in record {
      done = p.done ++ (pair.by ∷ []);
      rest = rw fewer (more left p e);
      laid = capped_as (bytes_next plain_move_bytes p.done pair.by) (capped_then (flat_map plain_move_bytes p.done) (plain_move_bytes pair.by) p.laid c);
    }

    -- the last one
    pub pair_ends : {after : List ℕ} {next' : ℕ} (p : Pairing now next here 0) {pair : Pair} → found pair ≡ pair_at read here
        → Capped now next (plain_move_bytes pair.by) after next' → Copied (flat_map plain_move_bytes) whole before at after next'
    unfolding pairs_from
    pair_ends {after} {next'} p {pair} e c = let all : whole ≡ found ((p.done ++ (pair.by ∷ [])) ++ []) = more 0 p e in
        rw (all, append-nil (p.done ++ (pair.by ∷ [])))
        (capped_as (bytes_next plain_move_bytes p.done pair.by) (capped_then (flat_map plain_move_bytes p.done) (plain_move_bytes pair.by) p.laid c))

    -- one that can't be read
    pub pair_stops : (after : List ℕ) (next' left : ℕ) (p : Pairing now next here left) (answer : Answer Pair) → answer ≡ pair_at read here → ((pair : Pair) → answer ≡ found pair → ⊥) →
        Copied (flat_map plain_move_bytes) whole before at after next'
    unfolding pairs_from
    pair_stops after next' left p (found pair) e other = absurd (other pair refl)
    pair_stops after next' left p failed e other =
        let all : whole ≡ failed = p.rest ∙ ap (λ (answer : Answer Pair). (answer >>= λ pair. pairs_from read left pair.place >>= λ rest. found (pair.by ∷ rest))
        >>= λ rest. found (p.done ++ rest)) (sym e) in rw all tt
    pair_stops after next' left p (refused n) e other =
        let all : whole ≡ refused n = p.rest ∙ ap (λ (answer : Answer Pair). (answer >>= λ pair. pairs_from read left pair.place >>= λ rest. found
        (pair.by ∷ rest)) >>= λ rest. found (p.done ++ rest)) (sym e) in rw all tt
