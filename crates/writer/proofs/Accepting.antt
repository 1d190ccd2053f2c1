-- The tests of a piece in turn, each with those before it. Assumes nothing.
use Rattle.numbers.proofs.Prelude.{ℕ, ◌+◌, ◌-◌, ◌≤◌, ◌<◌, eq-eqb, ne_eqb, lt-ltb, le-leb, le-ltb, lt-leb, eqb, ℤ, length, take, drop, Bool, true, false, ◌&&◌, ◌||◌, List, ◌≡◌, ap, ◌∙◌, arith}
use Rattle.writer.specs.{Moves.{moves_of}, Pieces.{lent_by, lent_moves, spells, clear_before, accepted}, declared.write.Piece.{Piece}}
use Rattle.writer.proofs.Indexed.{border_length}

-- the tests that a piece has passed before its run is read
pub record Inside (earlier : List ℕ) (lats lons : List ℤ) (free : ℕ) (p : Piece) : Type 0 where
  pub rises : free ≤ p.first
  pub full : p.first + p.count ≡ p.first → ⊥
  pub among_lats : p.first + p.count ≤ length lats
  pub among_lons : p.first + p.count ≤ length lons
  pub lies : p.start + p.bytes ≤ length earlier

module _ (earlier : List ℕ) (lats lons : List ℤ) (free : ℕ) (p : Piece) where
  abbrev answer : Bool
  answer = accepted earlier (moves_of lats lons) free p

  pub low : p.first < free → false ≡ answer
  unfolding accepted
  low h = rw (lt-leb free p.first h)

  module _ (rises : free ≤ p.first) where
    pub empty : p.first + p.count ≡ p.first → false ≡ answer
    unfolding accepted
    empty h = rw (le-leb free p.first rises, le-ltb 0 p.count (omega arith))

    module _ (full : p.first + p.count ≡ p.first → ⊥) where
      some : 0 < p.count
      some = go p.count full where
        go : (n : ℕ) → (p.first + n ≡ p.first → ⊥) → 0 < n
        go n h = omega (arith, h)

      long : length (moves_of lats lons) < p.first + p.count → false ≡ answer
      unfolding accepted
      long h = rw (le-leb free p.first rises, lt-ltb 0 p.count some, lt-leb (p.first + p.count) (length (moves_of lats lons)) h)

      pub past_lats : length lats < p.first + p.count → false ≡ answer
      past_lats h = long (omega (arith, border_length lats lons))

      pub past_lons : length lons < p.first + p.count → false ≡ answer
      past_lons h = long (omega (arith, border_length lats lons))

      module _ (among_lats : p.first + p.count ≤ length lats) (among_lons : p.first + p.count ≤ length lons) where
        stays : p.first + p.count ≤ length (moves_of lats lons)
        stays = omega (arith, border_length lats lons)

        pub outside : length earlier < p.start + p.bytes → false ≡ answer
        unfolding accepted
        outside h = rw (le-leb free p.first rises, lt-ltb 0 p.count some, le-leb (p.first + p.count) (length (moves_of lats lons)) stays, lt-leb (p.start + p.bytes) (length earlier) h)

        lying : p.start + p.bytes ≤ length earlier → ((eqb p.direction 0 || clear_before earlier p.start) && spells (lent_by earlier p) 0 (lent_moves (moves_of lats lons) p)) ≡ answer
        unfolding accepted
        lying h = rw (le-leb free p.first rises, lt-ltb 0 p.count some, le-leb (p.first + p.count) (length (moves_of lats lons)) stays, le-leb (p.start + p.bytes) (length earlier) h)

-- the part that is lent
run_is : (earlier : List ℕ) (p : Piece) → take (p.start + p.bytes - p.start) (drop p.start earlier) ≡ lent_by earlier p
run_is earlier p = let n : p.start + p.bytes - p.start ≡ p.bytes = omega arith in ap (λ (k : ℕ). take k (drop p.start earlier)) n

module _ {earlier : List ℕ} {lats lons : List ℤ} {free : ℕ} {p : Piece} (t : Inside earlier lats lons free p) where
  whole : ((eqb p.direction 0 || clear_before earlier p.start) && spells (lent_by earlier p) 0 (lent_moves (moves_of lats lons) p)) ≡ accepted earlier (moves_of lats lons) free p
  whole = lying earlier lats lons free p t.rises t.full t.among_lats t.among_lons t.lies

  abbrev spelled : Bool
  spelled = spells (take (p.start + p.bytes - p.start) (drop p.start earlier)) 0 (lent_moves (moves_of lats lons) p)

  lent : spelled ≡ spells (lent_by earlier p) 0 (lent_moves (moves_of lats lons) p)
  lent = ap (λ (run : List ℕ). spells run 0 (lent_moves (moves_of lats lons) p)) (run_is earlier p)

  pub forward : {r : Bool} → p.direction ≡ 0 → r ≡ spelled → r ≡ accepted earlier (moves_of lats lons) free p
  forward d e = e ∙ lent ∙ (rw (eq-eqb p.direction 0 d) at whole)

  module _ (d : p.direction ≡ 0 → ⊥) where
    pub behind : clear_before earlier p.start ≡ false → false ≡ accepted earlier (moves_of lats lons) free p
    behind e = rw (ne_eqb p.direction 0 d, e) at whole

    pub backward : {r : Bool} → clear_before earlier p.start ≡ true → r ≡ spelled → r ≡ accepted earlier (moves_of lats lons) free p
    backward e f = f ∙ lent ∙ (rw (ne_eqb p.direction 0 d, e) at whole)
