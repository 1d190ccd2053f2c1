-- The bytes of a version 1 border, piece by piece. Assumes nothing.
use Rattle.numbers.proofs.Prelude.{ℕ, suc, ◌+◌, ◌*◌, ◌^◌, ◌≤◌, ◌<◌, min, eqb, ℤ, length, take, drop, get_or, length-append, slice, length-take-le, drop-cons, drop-length, get_or-take, Bool, true, false}
use Rattle.numbers.proofs.Prelude.{List, [], ◌∷◌, ◌++◌, flat_map, ◌≡◌, sym, ap, subst, ◌∙◌, arith}
use Rattle.numbers.{proofs.Spelling.{varint_few, varint_byte}, specs.{Answer.{if◌then◌else◌}, Spelling.{varint_of}, declared.point.RawPoint.{RawPoint}}}
use Rattle.writer.specs.{Moves.{packed_move_bytes, moves_of}, Pieces.{piece_bytes, packed_from}, declared.write.Piece.{Piece}, inner.Stored.{Stored}}
use Rattle.writer.proofs.{Indexed.{border_length, slice_ends, slice_rest}, Lengths.{packed_few}, Stores.{Left, left_step, left_last}}

abbrev pub none : Piece
none = record { start = 0; bytes = 0; direction = 0; first = 0; count = 0 }

pub piece_few : (p : Piece) → length (piece_bytes p) ≤ 22
unfolding piece_bytes
piece_few p = go (eqb p.direction 0) where
  go : (t : Bool) → length (0 ∷ 1 ∷ (if t then (varint_of p.start ++ varint_of (2 * p.bytes)) else (varint_of (p.start + p.bytes) ++ varint_of (2 * p.bytes + 1)))) ≤ 22
  go true = omega (arith, length-append (varint_of p.start) (varint_of (2 * p.bytes)), varint_few p.start, varint_few (2 * p.bytes))
  go false = omega (arith, length-append (varint_of (p.start + p.bytes)) (varint_of (2 * p.bytes + 1)), varint_few (p.start + p.bytes), varint_few (2 * p.bytes + 1))

two_zeros : varint_of 0 ++ varint_of 0 ≡ 0 ∷ 0 ∷ []
two_zeros = rw (varint_byte 0 (omega arith))

-- what is left to write, from the jth piece on, and where
pub record Packing (before : List ℕ) (ms : List RawPoint) (kept : List Piece) (count : ℕ) (j next : ℕ) (now : List ℕ) (place : ℕ) : Type 0 where
  pub upto : j ≤ count
  pub low : place ≤ j * 700000
  pub left : Left before 0 (packed_from ms 0 (take count kept)) now place (packed_from ms next (drop j (take count kept)))

-- what is known before a border is written
pub record Known (lats lons : List ℤ) (kept : List Piece) (count : ℕ) : Type 0 where
  pub same : length lons ≡ length lats
  pub short : length lats ≤ 65535
  pub most : count ≤ 16
  pub size : length kept ≡ 16

module _ {lats lons : List ℤ} {kept : List Piece} {count : ℕ} (known : Known lats lons kept count) where
  abbrev ms : List RawPoint
  ms = moves_of lats lons

  abbrev ps : List Piece
  ps = take count kept

  many : length ms ≡ length lats
  many = omega (arith, border_length lats lons, known.same)

  few : length ms ≤ 65535
  few = omega (arith, many, known.short)

  all : length ps ≡ count
  all = length-take-le count kept (omega (arith, known.size, known.most))

  module _ {before : List ℕ} {j next : ℕ} {now : List ℕ} {place : ℕ} (t : Packing before ms kept count j next now place) where
    module _ (h : j < count) where
      abbrev p : Piece
      p = get_or kept j none

      abbrev own : List ℕ
      own = flat_map packed_move_bytes (slice next p.first ms)

      opened : drop j ps ≡ p ∷ drop (j + 1) ps
      opened = let n : suc j ≡ j + 1 = omega arith in drop-cons ps j none (omega (arith, all)) ∙ rw (get_or-take count kept j none h, ← n)

      own_few : length own ≤ 655350
      own_few = omega (arith, packed_few ms next p.first, few)

      own_room : place + length own < 2 ^ 60
      own_room = omega (arith, own_few, t.low, known.most)

      -- moves are written up to the border's end at most
      module _ {to : ℕ} (capped : to ≡ min p.first (length lats)) where
        abbrev put : List ℕ
        put = flat_map packed_move_bytes (slice next to ms)

        put_own : put ≡ own
        put_own = ap (λ (k : ℕ). flat_map packed_move_bytes (slice next k ms)) (capped ∙ ap (min p.first) (sym many)) ∙ ap (flat_map packed_move_bytes) (slice_ends next p.first ms)

        pub own_asked : (to ≤ length lats) × (to ≤ length lons) × (place + length put < 2 ^ 60)
        own_asked = (omega (arith, capped), omega (arith, capped, known.same), omega (arith, ap length put_own, own_room))

        pub piece_room : {here : ℕ} {middle : List ℕ} → Stored now place put middle here → here < 2 ^ 60
        piece_room s = omega (arith, ap length put_own, own_room, s.place_after)

        pub again : {middle after : List ℕ} {here end : ℕ} → Stored now place put middle here → Stored middle here (piece_bytes p) after end →
            Packing before ms kept count (j + 1) (p.first + p.count) after end
        unfolding packed_from
        again {middle} {after} {here} s u = let own-stored = subst (λ (bs : List ℕ). Stored now place bs middle here) put_own s in
            let whole : packed_from ms next (drop j ps) ≡ own ++ (piece_bytes p ++ packed_from ms (p.first + p.count) (drop (j + 1) ps)) = ap (packed_from ms next) opened in record {
              upto = omega arith;
              low = omega (arith, t.low, own_few, piece_few p, own-stored.place_after, u.place_after);
              left = left_step (piece_bytes p) (left_step own (subst (Left before 0 (packed_from ms 0 ps) now place) whole t.left) own-stored) u;
            }

    module _ (over : count ≤ j) where
      abbrev last : List ℕ
      last = flat_map packed_move_bytes (slice next (length lats) ms)

      last_room : place + length last < 2 ^ 60
      last_room = omega (arith, packed_few ms next (length lats), few, t.low, t.upto, known.most)

      pub last_asked : (length lats ≤ length lats) × (length lats ≤ length lons) × (place + length last < 2 ^ 60)
      last_asked = (omega arith, omega (arith, known.same), last_room)

      ended : drop j ps ≡ []
      ended = let e : j ≡ length ps = omega (arith, t.upto, all) in ap (λ (n : ℕ). drop n ps) e ∙ drop-length ps

      pub end_room : {here : ℕ} {middle : List ℕ} → Stored now place last middle here → here < 2 ^ 60 + 20
      end_room s = omega (arith, last_room, s.place_after)

      pub closed : {middle after : List ℕ} {here end : ℕ} → Stored now place last middle here → Stored middle here (varint_of 0 ++ varint_of 0) after end
          → Stored before 0 (packed_from ms 0 ps) after end
      unfolding packed_from
      closed {middle} {after} {here} {end} s u =
          let rest : slice next (length lats) ms ≡ drop next ms = ap (λ (k : ℕ). slice next k ms) (sym many) ∙ slice_rest next ms in
          let whole : packed_from ms next (drop j ps) ≡ last ++ (0 ∷ 0 ∷ []) = ap (packed_from ms next) ended ∙ ap (λ (xs : List RawPoint). flat_map packed_move_bytes xs ++ (0 ∷ 0 ∷ [])) (sym rest) in
          left_last (0 ∷ 0 ∷ []) (left_step last (subst (Left before 0 (packed_from ms 0 ps) now place) whole t.left) s) (subst (λ (bs : List ℕ). Stored middle here bs after end) two_zeros u)
