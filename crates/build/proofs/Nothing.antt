-- With no room at all the first border is refused. Assumes nothing.
use Rattle.numbers.{proofs.Prelude.{ℕ, suc, ◌*◌, ◌≤◌, ltb, ℤ, length, take, drop, get_or, List, [], ◌∷◌, ◌++◌, ◌≡◌, sym, ap, subst, arith}, specs.Reply.{Reply, given, refused, ◌>>=◌}}
use Rattle.writer.specs.{Pieces.{pieces_of}, Writer.{border_of}}
use Rattle.builder.{proofs.drawing.Sections.{appended_fits}, specs.{Borders.{Drawn, with_border, drawn_from, drawn_of, Draws}, Yards.{part_of, yards_from}}}
use Rattle.builder.specs.inner.Drawing.Section.{yard_appended, DrawsAll}

pub nothing_drawn : (version : ℕ) (yards : List ℕ) (lats lons : List ℤ) (pieces : List ℕ) → 4 ≤ length yards → (out : List ℕ) (r : Reply ℕ)
    → Draws (yard_appended version 0 (0 ∷ []) lats (get_or yards 0 0) lons (get_or yards 1 0) pieces (5 * get_or yards 2 0)) (0 ∷ []) out r
    → (places bytes : List ℕ) → DrawsAll (drawn_of version 0 (yards_from yards lats lons pieces [])) places places bytes r
unfolding Draws DrawsAll drawn_of drawn_from yards_from with_border
nothing_drawn version (a ∷ b ∷ p ∷ v ∷ rest) lats lons pieces h out (given size) d places bytes =
    let some = appended_fits 0 (0 ∷ []) (ltb (length pieces) (5 * p)) (length (pieces_of (take (5 * p) pieces))) (border_of version (part_of a lats) (part_of b lons)
    (pieces_of (take (5 * p) pieces)) (0 ∷ [])) ((0 ∷ []) ++ take size out) d.0 in absurd (none size out some) where
      none : (size : ℕ) (out : List ℕ) → length ((0 ∷ []) ++ take size out) ≤ 0 → ⊥
      none size out e = let z : suc (length (take size out)) ≤ 0 = e in omega (arith, z)
nothing_drawn version (a ∷ b ∷ p ∷ v ∷ rest) lats lons pieces h out (refused why) d places bytes =
    ap (λ (r : Reply (List ℕ)). r >>= λ more. (drawn_from version 0 more (yards_from rest (drop a lats) (drop b lons) (drop (5 * p) pieces) (drop v []))
    >>= λ (rest : Drawn). given (record { bytes = rest.bytes; places = 1 ∷ rest.places }))) d
nothing_drawn version (a ∷ b ∷ p ∷ []) lats lons pieces h out r d places bytes = absurd (omega (arith, h))
nothing_drawn version (a ∷ b ∷ []) lats lons pieces h out r d places bytes = absurd (omega (arith, h))
nothing_drawn version (a ∷ []) lats lons pieces h out r d places bytes = absurd (omega (arith, h))
nothing_drawn version [] lats lons pieces h out r d places bytes = absurd (omega (arith, h))

pub none_is : (version : ℕ) (yards : List ℕ) (lats lons : List ℤ) (pieces : List ℕ) (room : ℕ) → room ≡ 0 → (r : Reply ℕ) (places bytes : List ℕ)
    → DrawsAll (drawn_of version 0 (yards_from yards lats lons pieces [])) places places bytes r → DrawsAll (drawn_of version room (yards_from yards lats lons pieces [])) places places bytes r
none_is version yards lats lons pieces room e r places bytes d = subst (λ (n : ℕ). DrawsAll (drawn_of version n (yards_from yards lats lons pieces [])) places places bytes r) (sym e) d
