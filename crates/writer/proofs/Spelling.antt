-- The moves that a piece stands for, and the numbers of its run, one at a time. Assumes nothing.
use Rattle.numbers.proofs.{Prelude.{ℕ, suc, ◌+◌, ◌-◌, ◌≤◌, ◌<◌, eq-eqb, ne_eqb, le-leb, ltb-true, lt-leb, ltb-false, eqb, ltb, leb, ℤ, length, take, drop, get_or, length-drop}}
use Rattle.numbers.proofs.Prelude.{length-map, List·getD-append, length-take-le, drop-cons, drop-length, get_or-take, get_or-drop, get_or_at, Bool, true, false, ◌&&◌, not, List, [], ◌∷◌, ◌++◌, map}
use Rattle.numbers.{proofs.Prelude.{◌≡◌, refl, sym, ap, ◌∙◌, arith}, specs.{Answer.{Answer, if◌then◌else◌}, Point.{point_of}, Varint.{Numeral, told, forward_at}}}
use Rattle.numbers.specs.declared.{point.RawPoint.{RawPoint}, varint.Stop.{Stop, TheVariants.{Failed, TooLong, Incomplete, OutOfRange, PastEnd}}}
use Rattle.std.specs.Prelude.{Result, Ok, Err}
use mathlib.Core.List.{reverse, reverse-cons}
use lib.ListN.{length-reverse, get_or-map}
use Rattle.writer.specs.{Moves.{moves_of, turned_back, same_move}, Pieces.{lent_moves, read_and, spells}, declared.write.Piece.{Piece}, inner.Stored.{move_at}}
use Rattle.writer.proofs.Indexed.{still, border_length, move_at_lem}

reverse_at : (ms : List RawPoint) (j : ℕ) → j < length ms → get_or (reverse ms) j still ≡ get_or ms (length ms - 1 - j) still
reverse_at [] j h = absurd (omega arith)
reverse_at (m ∷ ms) j h = ap (λ (xs : List RawPoint). get_or xs j still) (reverse-cons m ms) ∙ in_part (ltb j (length ms)) refl (λ l. reverse_at ms j l) where
  in_part : (t : Bool) → ltb j (length ms) ≡ t → (j < length ms → get_or (reverse ms) j still ≡ get_or ms (length ms - 1 - j) still) →
      get_or (reverse ms ++ (m ∷ [])) j still ≡ get_or (m ∷ ms) (suc (length ms) - 1 - j) still
  in_part true e before = let l : j < length ms = ltb-true j (length ms) e in let n : suc (length ms - 1 - j) ≡ suc (length ms) - 1 - j = omega arith in
      List·getD-append (reverse ms) (m ∷ []) still j (omega (arith, length-reverse ms)) ∙ before l ∙ ap (λ (k : ℕ). get_or (m ∷ ms) k still) n
  in_part false e before = let g : j ≡ length ms = omega (arith, ltb-false j (length ms) e) in let n : 0 ≡ suc (length ms) - 1 - j = omega arith in
      get_or_at (reverse ms) m [] still j (length-reverse ms ∙ sym g) ∙ ap (λ (k : ℕ). get_or (m ∷ ms) k still) n

-- by the direction
abbrev index_at : Bool → Piece → ℕ → ℕ
index_at ahead p j = if ahead then p.first + j else p.first + (p.count - 1 - j)

abbrev turned_at : Bool → RawPoint → RawPoint
turned_at ahead m = if ahead then m else turned_back m

module _ (full : List RawPoint) (p : Piece) (stays : p.first + p.count ≤ length full) where
  abbrev part : List RawPoint
  part = take p.count (drop p.first full)

  part_length : length part ≡ p.count
  part_length = length-take-le p.count (drop p.first full) (simp length-drop (omega arith))

  part_at : (j : ℕ) → j < p.count → get_or part j still ≡ get_or full (p.first + j) still
  part_at j h = get_or-take p.count (drop p.first full) j still h ∙ get_or-drop p.first full j still

  pub lent_length : length (lent_moves full p) ≡ p.count
  unfolding lent_moves
  lent_length = by_direction (eqb p.direction 0) where
    by_direction : (t : Bool) → length (if t then part else reverse (map turned_back part)) ≡ p.count
    by_direction true = part_length
    by_direction false = length-reverse (map turned_back part) ∙ length-map part turned_back ∙ part_length

  lent_move : (j : ℕ) → j < p.count → get_or (lent_moves full p) j still ≡ turned_at (eqb p.direction 0) (get_or full (index_at (eqb p.direction 0) p j) still)
  unfolding lent_moves
  lent_move j h = by_direction (eqb p.direction 0) where
    by_direction : (t : Bool) → get_or (if t then part else reverse (map turned_back part)) j still ≡ turned_at t (get_or full (index_at t p j) still)
    by_direction true = part_at j h
    by_direction false = let size : length (map turned_back part) ≡ p.count = length-map part turned_back ∙ part_length in
        reverse_at (map turned_back part) j (omega arith) ∙ ap (λ (n : ℕ). get_or (map turned_back part) (n - 1 - j) still) size ∙ get_or-map turned_back part
        (p.count - 1 - j) still ∙ ap turned_back (part_at (p.count - 1 - j) (omega arith))

pub index_inside : (p : Piece) (n : ℕ) → p.first + p.count ≤ n → (j : ℕ) → j < p.count → index_at (eqb p.direction 0) p j < n
index_inside p n long j h = by_direction (eqb p.direction 0) where
  by_direction : (t : Bool) → index_at t p j < n
  by_direction true = omega arith
  by_direction false = omega arith

-- the moves that are left, from the jth on
module _ (lats lons : List ℤ) (p : Piece) (lats-long : p.first + p.count ≤ length lats) (lons-long : p.first + p.count ≤ length lons) where
  abbrev all : List RawPoint
  all = lent_moves (moves_of lats lons) p

  inside : p.first + p.count ≤ length (moves_of lats lons)
  inside = omega (arith, border_length lats lons)

  module _ (run : List ℕ) (place j : ℕ) where
    pub spells_end : p.count ≤ j → j ≤ p.count → eqb place (length run) ≡ spells run place (drop j all)
    unfolding spells
    spells_end h k = let e : j ≡ length all = omega (arith, lent_length (moves_of lats lons) p inside) in
        sym (ap (λ (i : ℕ). spells run place (drop i all)) e ∙ ap (spells run place) (drop-length all))

    module _ (h : j < p.count) where
      abbrev i : ℕ
      i = index_at (eqb p.direction 0) p j

      abbrev here : RawPoint
      here = turned_at (eqb p.direction 0) (move_at lats lons i)

      abbrev judged : Numeral → Bool
      judged number = leb number.place (length run) && (not (eqb number.value 0) && (same_move (point_of number.value) here && spells run number.place (drop (j + 1) all)))

      spells_next : spells run place (drop j all) ≡ read_and (forward_at run place) judged
      unfolding spells
      spells_next = let n : suc j ≡ j + 1 = omega arith in
          let e : get_or all j still ≡ here = lent_move (moves_of lats lons) p inside j h ∙ ap (turned_at (eqb p.direction 0)) (move_at_lem lats lons i
          (index_inside p (length lats) lats-long j h) (index_inside p (length lons) lons-long j h)) in
          ap (spells run place) (drop-cons all j still (omega (arith, lent_length (moves_of lats lons) p inside))) ∙ ap (λ (m : RawPoint). spells run place (m ∷ drop (suc j) all)) e
          ∙ ap (λ (k : ℕ). spells run place (here ∷ drop k all)) n

      pub unread : (stop : Stop) → told (Err stop) ≡ forward_at run place → false ≡ spells run place (drop j all)
      unfolding read_and
      unread stop answer = go stop ∙ ap (λ (x : Answer Numeral). read_and x judged) answer ∙ sym spells_next where
        go : (stop : Stop) → false ≡ read_and (told (Err stop)) judged
        go Failed = refl
        go TooLong = refl
        go Incomplete = refl
        go OutOfRange = refl
        go PastEnd = refl

      module _ (a : Result Numeral Stop) (answer : told a ≡ forward_at run place) where
        module _ (number : Numeral) (is_number : a ≡ Ok number) where
          read : spells run place (drop j all) ≡ judged number
          unfolding read_and
          read = spells_next ∙ ap (λ (x : Answer Numeral). read_and x judged) (sym answer ∙ ap told is_number)

          pub cut_off : length run < number.place → false ≡ spells run place (drop j all)
          cut_off l = sym (read ∙ rw (lt-leb number.place (length run) l))

          pub of_zero : number.place ≤ length run → number.value ≡ 0 → false ≡ spells run place (drop j all)
          of_zero l z = sym (read ∙ rw (le-leb number.place (length run) l, eq-eqb number.value 0 z))

          -- what was read, held against the move at an index
          module _ (l : number.place ≤ length run) (some : number.value ≡ 0 → ⊥) {at : ℕ} (is : at ≡ i) {same : Bool}
              (held : same ≡ same_move (point_of number.value) (turned_at (eqb p.direction 0) (move_at lats lons at))) where
            holds : same ≡ same_move (point_of number.value) here
            holds = held ∙ ap (λ (k : ℕ). same_move (point_of number.value) (turned_at (eqb p.direction 0) (move_at lats lons k))) is

            pub of_other : same ≡ false → false ≡ spells run place (drop j all)
            of_other e = sym (read ∙ rw (le-leb number.place (length run) l, ne_eqb number.value 0 some, sym holds, e))

            pub of_same : same ≡ true → spells run number.place (drop (j + 1) all) ≡ spells run place (drop j all)
            of_same e = sym (read ∙ rw (le-leb number.place (length run) l, ne_eqb number.value 0 some, sym holds, e))
