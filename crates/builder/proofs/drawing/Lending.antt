-- How long a border can be: so much of the output is lent for it. Assumes nothing.
use Rattle.numbers.proofs.Prelude.{ℕ, suc, ◌+◌, ◌*◌, ◌≤◌, leb-true, eqb, leb, ℤ, length, take, drop, length-append, length-drop, length-take, slice, Bool, true, false, List, [], ◌∷◌, ◌++◌, flat_map}
use Rattle.numbers.{proofs.{Prelude.{◌≡◌, refl, ap, suc-mul, mul-le-mul_right, arith}, Spelling.{varint_few}}, specs.Answer.{if◌then◌else◌}}
use Rattle.numbers.specs.{Reply.{Reply, given, refused, refusal, plain, demand, ◌>>◌}, Spelling.{varint_of}, declared.{point.RawPoint.{RawPoint}, refusal.Refusal.{Refusal}}}
use Rattle.writer.{proofs.{Indexed.{border_length}, Lengths.{plain_one, packed_one}, Packing.{piece_few}}, specs.Moves.{plain_move_bytes, packed_move_bytes, moves_of}}
use Rattle.writer.specs.{Pieces.{good_pieces, piece_bytes, packed_from}, Writer.{checks, plain_border, packed_border, border_of}, declared.write.Piece.{Piece}}
use Rattle.builder.specs.{Borders.{Lends}, inner.Drawing.Section.{LentFor}}

-- ---- what stands before an answer was passed
module _ {A : Type 0} where
  pub never_given : (why : Refusal) (x : A) → ◌≡◌ {A = Reply A} (refused why) (given x) → ⊥
  never_given why x e = let z : ◌≡◌ {A = ℕ} 0 1 = cc in omega arith

  pub past : (c : Reply (Unit {0})) (r : Reply A) (x : A) → (c >> r) ≡ given x → r ≡ given x
  past (given tt) r x e = e
  past (refused why) r x e = absurd (never_given why x e)

  pub demanded : (b : Bool) (why : Refusal) (r : Reply A) (x : A) → (demand b why >> r) ≡ given x → b ≡ true
  demanded true why r x e = refl
  demanded false why r x e = absurd (never_given why x e)

  pub given_same : (x y : A) → ◌≡◌ {A = Reply A} (given x) (given y) → x ≡ y
  given_same x y e = cc

-- ---- moves
module _ {A : Type 0} (f : A → List ℕ) where
  flat_most : ((a : A) → length (f a) ≤ 20) → (xs : List A) → length (flat_map f xs) ≤ 20 * length xs
  unfolding flat_map
  flat_most each [] = omega arith
  flat_most each (x ∷ xs) = let l = length-append (f x) (flat_map f xs) in let m = flat_most each xs in omega (arith, l, m, each x)

  flat_ten : ((a : A) → length (f a) ≤ 10) → (xs : List A) → length (flat_map f xs) ≤ 10 * length xs
  unfolding flat_map
  flat_ten each [] = omega arith
  flat_ten each (x ∷ xs) = let l = length-append (f x) (flat_map f xs) in let m = flat_ten each xs in omega (arith, l, m, each x)

packed_step : (a b r x c n : ℕ) → a ≤ 10 * n → b ≤ 22 → r ≤ x + (10 * n + 2) → c ≡ 10 * n + 22 → a + (b + r) ≤ x + c + (10 * n + 2)
packed_step a b r x c n ha hb hr hc = omega (arith, ha, hb, hr, hc)

module _ (moves : List RawPoint) where
  abbrev n : ℕ
  n = length moves

  packed_most : (next : ℕ) (ps : List Piece) → length (packed_from moves next ps) ≤ length ps * (10 * n + 22) + (10 * n + 2)
  unfolding packed_from
  packed_most next [] = let l = length-append (flat_map packed_move_bytes (drop next moves)) (0 ∷ 0 ∷ []) in
      let m = flat_ten packed_move_bytes packed_one (drop next moves) in omega (arith, l, m, length-drop next moves)
  packed_most next (p ∷ ps) = let front : List ℕ = flat_map packed_move_bytes (slice next p.first moves) in
      let rest : List ℕ = packed_from moves (p.first + p.count) ps in let l = length-append front (piece_bytes p ++ rest) in
      let k = length-append (piece_bytes p) rest in let m = flat_ten packed_move_bytes packed_one (slice next p.first moves) in
      let s : length (slice next p.first moves) ≤ n = omega (arith, length-drop next (take p.first moves), length-take p.first moves) in
      let more : length front ≤ 10 * n = omega (arith, m, s) in
      let sum : length front + (length (piece_bytes p) + length rest) ≤ length ps * (10 * n + 22) + (10 * n + 22) + (10 * n + 2) = packed_step (length front)
      (length (piece_bytes p)) (length rest) (length ps * (10 * n + 22)) (10 * n + 22) n more (piece_few p) (packed_most (p.first + p.count) ps) refl in
      let e : suc (length ps) * (10 * n + 22) ≡ length ps * (10 * n + 22) + (10 * n + 22) = suc-mul (length ps) (10 * n + 22) in
      total (length front) (length (piece_bytes p)) (length rest) (length (piece_bytes p ++ rest)) _ _ _ (10 * n + 2) l k e sum where
        total : (a b r br abr s t z : ℕ) → abr ≡ a + br → br ≡ b + r → s ≡ t → a + (b + r) ≤ t + z → abr ≤ s + z
        total a b r br abr s t z e f g h = omega (arith, e, f, g, h)

sixteen : (k c z b : ℕ) → b ≤ k * c + z → k * c ≤ 16 * c → b ≤ 16 * c + z
sixteen k c z b h m = go (k * c) h m where
  go : (x : ℕ) → b ≤ x + z → x ≤ 16 * c → b ≤ 16 * c + z
  go x h m = omega (arith, h, m)

-- 170 bytes a point and 400
pub border_size : (version : ℕ) (lats lons : List ℤ) (pieces : List Piece) (earlier bytes : List ℕ) → border_of version lats lons pieces earlier ≡ given bytes → length bytes ≤ 170 * length lats + 400
unfolding border_of plain_border packed_border
border_size version lats lons pieces earlier bytes e = go (eqb version 0) (past (checks version lats lons earlier) _ bytes e) where
  moves : List RawPoint
  moves = moves_of lats lons

  few : length moves ≤ length lats
  few = omega (arith, border_length lats lons)

  plain_size : plain_border moves pieces ≡ given bytes → length bytes ≤ 170 * length lats + 400
  plain_size e = let body : List ℕ = varint_of (length moves) ++ (flat_map plain_move_bytes moves ++ (2 ∷ 2 ∷ [])) in
      let is : body ≡ bytes = given_same body bytes (past (demand (eqb (length pieces) 0) (plain 23)) (given body) bytes e) in
      let size : length body ≡ length bytes = ap length is in
      omega (
        arith,
        size,
        length-append (varint_of (length moves)) (flat_map plain_move_bytes moves ++ (2 ∷ 2 ∷ [])),
        length-append (flat_map plain_move_bytes moves)
            (2 ∷ 2 ∷ []),
        varint_few (length moves),
        flat_most plain_move_bytes plain_one moves,
        few,
      )

  packed_size : packed_border moves pieces earlier ≡ given bytes → length bytes ≤ 170 * length lats + 400
  packed_size e =
      let inner : Reply (List ℕ) = demand (eqb (good_pieces earlier moves 0 pieces) (length pieces)) (refusal 23 0 (good_pieces earlier moves 0 pieces)) >> given (packed_from moves 0 pieces) in
      let some : length pieces ≤ 16 = leb-true (length pieces) 16 (demanded (leb (length pieces) 16) (refusal 23 0 16) inner bytes e) in
      let is : packed_from moves 0 pieces ≡ bytes = given_same (packed_from moves 0 pieces) bytes (past (demand (eqb (good_pieces earlier moves 0 pieces) (length pieces))
      (refusal 23 0 (good_pieces earlier moves 0 pieces))) (given (packed_from moves 0 pieces)) bytes (past (demand (leb (length pieces) 16) (refusal 23 0 16)) inner bytes e)) in
      let size : length (packed_from moves 0 pieces) ≡ length bytes = ap length is in
      let most : length (packed_from moves 0 pieces) ≤ 16 * (10 * length moves + 22) + (10 * length moves + 2) = sixteen (length pieces) (10 * length moves + 22)
      (10 * length moves + 2) (length (packed_from moves 0 pieces)) (packed_most moves 0 pieces) (mul-le-mul_right (10 * length moves + 22) some) in
      omega (arith, size, most, few)

  go : (t : Bool) → (if t then plain_border moves pieces else packed_border moves pieces earlier) ≡ given bytes → length bytes ≤ 170 * length lats + 400
  go true e = plain_size e
  go false e = packed_size e

-- so much is lent that it is enough
pub lends : (version : ℕ) (lats lons : List ℤ) (pieces : List Piece) (earlier : List ℕ) (tall room lent : ℕ) (out : List ℕ) → length lats ≤ tall
    → room ≤ length out → LentFor tall (length out) lent → Lends room earlier (border_of version lats lons pieces earlier) (length (take lent out))
lends version lats lons pieces earlier tall room lent out h k l bytes e long =
    omega (arith, border_size version lats lons pieces earlier bytes e, h, k, l.is, long, length-append earlier bytes, length-take lent out)
