-- Demand 3, the writer's side: what the writer accepts and writes is a border of its points. Assumes nothing.
use Rattle.numbers.proofs.Prelude.{ℕ, zero, suc, ◌+◌, ◌-◌, ◌*◌, ◌^◌, ◌≤◌, ◌<◌, lt-ltb, leb-true, ltb-true, not-true, eqb-true, eqb-false, eqb, ltb, leb, lit<, ℤ, pos, ◌+ℤ◌, ◌-ℤ◌, neg_ℤ, nat_abs}
use Rattle.numbers.proofs.Prelude.{length, take, drop, get_or, length-drop, take-append-drop, slice, length-take-le, drop-length, drop-drop, drop-append-le, mag, Bool, true, false, ◌&&◌, ◌||◌, not}
use Rattle.numbers.proofs.Prelude.{List, [], ◌∷◌, ◌++◌, map, append_assoc, append-nil, flat_map, zip_with, ◌≡◌, refl, sym, ap, subst, ◌∙◌, arith}
use Rattle.numbers.proofs.{Replies.{demanded, given_one}, Spelling.{one_byte, varint_whole, signed_small, even_back, odd_back, form_one}, Tests.{differ, both}, Wholes.{read_whole}}
use Rattle.numbers.{proofs.write.Gaps.{size_sum, size_neg, mag_size}, specs.{Answer.{Answer, found, failed, refused, if◌then◌else◌, checked}, Point.{signed_of, point_of}}}
use Rattle.numbers.specs.{Reply.{Reply, given, refusal, plain, demand, ◌>>◌}, Spelling.{varint_of, signed_form}, Varint.{Numeral, forward_at, is_last}, declared.point.RawPoint.{RawPoint}}
use mathlib.Core.List.{reverse, reverse-cons}
use lib.{IntN.{+ℤ_comm, -ℤ-+ℤ_cancel, neg_ℤ-neg_ℤ}, Seq.{split_at}}
use Rattle.border.specs.{Encoding.{version_of}, Place.{point_at, move_by, is_still, moved_by, negated}, Written.{Splits, Turned, Borrowed, Version1, Pairs, Version0, Leads, Border}}
use Rattle.border.specs.declared.{place.Point.{Point}, reader.Version.TheVariants.{Plain, Packed}}
use Rattle.writer.specs.Moves.{plain_move_bytes, packed_move_bytes, packed_number, move_to, moves_from, points_of, moves_of, is_move, turned_back, same_move}
use Rattle.writer.specs.Pieces.{lent_by, lent_moves, read_and, spells, clear_before, accepted, good_pieces, piece_bytes, packed_from}
use Rattle.writer.specs.{Writer.{every, near, sized, checks, plain_border, packed_border, border_of}, declared.write.Piece.{Piece}}
use Rattle.writer.proofs.{Faults.{sizes}, Indexed.{points_length, moves_length}, Inverse.{Moves, pair_back, packed_back, packed_some, packed_small}}
use Rattle.numbers.specs.Reply as R
use Rattle.border.specs.Written as W

-- ---- from a point to the next
fits_at : {y : ℤ} (z : ℤ) → y ≡ z → nat_abs z < 2 ^ 31 → checked 31 y ≡ found z
unfolding checked
fits_at z e h = rw (e, lt-ltb (mag z) (2 ^ 31) (omega (arith, mag_size z)))

gap_back : (a b : ℤ) → a +ℤ (b -ℤ a) ≡ b
gap_back a b = +ℤ_comm a (b -ℤ a) ∙ -ℤ-+ℤ_cancel b a

-- a point whose coordinates are near
record Near (p : Point) : Type 0 where
  lat_near : nat_abs p.lat.0 < 2 ^ 30
  lon_near : nat_abs p.lon.0 < 2 ^ 30

moved_back : (p q : Point) → Near q → moved_by p (move_to p q) ≡ found q
unfolding moved_by move_to
moved_back p q k =
    rw (fits_at q.lat.0 (gap_back p.lat.0 q.lat.0) (omega (arith, k.lat_near)), fits_at q.lon.0 (gap_back p.lon.0 q.lon.0) (omega (arith, k.lon_near)))

size_gap : (a b : ℤ) → nat_abs a < 2 ^ 30 → nat_abs b < 2 ^ 30 → nat_abs (b -ℤ a) < 2 ^ 31
size_gap a b h k = omega (arith, size_sum b (neg_ℤ a), size_neg a)

negated_back : (m : RawPoint) → Moves m → negated (turned_back m) ≡ found m
unfolding negated
negated_back m h = rw (fits_at m.lat (neg_ℤ-neg_ℤ m.lat) h.lat_small, fits_at m.lon (neg_ℤ-neg_ℤ m.lon) h.lon_small)

-- ---- the moves of a border
data Going : List RawPoint → Type 0 where
  none : Going []
  some : {m : RawPoint} {ms : List RawPoint} → Moves m → Going ms → Going (m ∷ ms)

going_take : (n : ℕ) {ms : List RawPoint} → Going ms → Going (take n ms)
going_take zero g = none
going_take (suc n) none = none
going_take (suc n) (some h g) = some h (going_take n g)

going_drop : (n : ℕ) {ms : List RawPoint} → Going ms → Going (drop n ms)
going_drop zero g = g
going_drop (suc n) none = none
going_drop (suc n) (some h g) = going_drop n g

near_size : (z : ℤ) → near z ≡ true → nat_abs z < 2 ^ 30
unfolding near
near_size z e = omega (arith, leb-true (nat_abs z) 1073741823 e)

record Walked (p : Point) (qs : List Point) : Type 0 where
  going : Going (moves_from p qs)
  leads : Leads p (moves_from p qs) qs

one : (p q : Point) → Near p → Near q → is_move (move_to p q) ≡ true → Moves (move_to p q)
unfolding move_to
one p q h k m =
    record {
      lat_small = size_gap p.lat.0 q.lat.0 h.lat_near k.lat_near;
      lon_small = size_gap p.lon.0 q.lon.0 h.lon_near k.lon_near;
      moves = not-true (is_still (move_to p q)) m;
    }

walk_on : (p q : Point) (qs : List Point) → Near p → Near q → is_move (move_to p q) ≡ true → Walked q qs → Walked p (q ∷ qs)
unfolding moves_from zip_with
walk_on p q qs h k m w = record { going = some (one p q h k m) w.going; leads = W.step (moved_back p q k) w.leads }

walks : (lats lons : List ℤ) (p : Point) → Near p → every near lats ≡ true → every near lons ≡ true → every is_move (moves_from p (points_of lats lons)) ≡ true → Walked p (points_of lats lons)
unfolding points_of moves_from zip_with every
walks (x ∷ xs) (y ∷ ys) p h a b m = let q = point_at x y in let a' = both (near x) (every near xs) a in let b' = both (near y) (every near ys) b in
    let m' = both (is_move (move_to p q)) (every is_move (moves_from q (points_of xs ys))) m in
    let k : Near q = record { lat_near = near_size x a'.0; lon_near = near_size y b'.0 } in
    walk_on p q (points_of xs ys) h k m'.0 (walks xs ys q k a'.1 b'.1 m'.1)
walks (x ∷ xs) [] p h a b m = record { going = none; leads = W.stays }
walks [] ys p h a b m = record { going = none; leads = W.stays }

all_move : (ms : List RawPoint) → every is_move (drop 1 ms) ≡ true → every is_move (take 1 ms) ≡ true → every is_move ms ≡ true
unfolding every
all_move [] e g = refl
all_move (m ∷ ms) e g = rw (both (is_move m) true g).0 e

-- ---- version 0
pairs : {ms : List RawPoint} → Going ms → Pairs (flat_map plain_move_bytes ms) ms
unfolding flat_map plain_move_bytes
pairs none = W.none
pairs (some {m = m} {ms = ms} h g) = let lat = signed_form m.lat in let lon = signed_form m.lon in let back = pair_back m h in
    subst (λ (bs : List ℕ). Pairs bs (m ∷ ms)) (sym (append_assoc (varint_of lat) (varint_of lon) (flat_map plain_move_bytes ms)))
    (subst (λ (by : RawPoint). Pairs (varint_of lat ++ (varint_of lon ++ flat_map plain_move_bytes ms)) (by ∷ ms)) back
    (W.some (varint_whole lat (omega (arith, signed_small m.lat h.lat_small))) (varint_whole lon (omega (arith, signed_small m.lon h.lon_small))) (ap is_still back ∙ h.moves) (pairs g)))

guard : Pairs (2 ∷ 2 ∷ []) (move_by (signed_of 2) (signed_of 2) ∷ [])
unfolding is_still
guard = W.some (one_byte 2 (lit< tt)) (one_byte 2 (lit< tt)) (rw (even_back 1 (lit< tt))) W.none

-- ---- a run that spells moves
same_move_lem : (a b : RawPoint) → same_move a b ≡ true → a ≡ b
unfolding same_move
same_move_lem a b e = let h = both (eqb (signed_form a.lat) (signed_form b.lat)) (eqb (signed_form a.lon) (signed_form b.lon)) e in
    ap (λ (z : ℤ). move_by z a.lon) (form_one a.lat b.lat (eqb-true _ _ h.0)) ∙ ap (move_by b.lat) (form_one a.lon b.lon (eqb-true _ _ h.1))

-- what the test of one number says
record Tested (run : List ℕ) (place : ℕ) (m : RawPoint) (ms : List RawPoint) : Type 0 where
  number : Numeral
  read : found number ≡ forward_at run place
  fits : number.place ≤ length run
  some : 0 < number.value
  same : point_of number.value ≡ m
  rest : spells run number.place ms ≡ true

tested : (run : List ℕ) (place : ℕ) (m : RawPoint) (ms : List RawPoint) (answer : Answer Numeral) → answer ≡ forward_at run place
    → read_and answer (λ number. leb number.place (length run) && (not (eqb number.value 0) && (same_move (point_of number.value) m && spells run number.place ms))) ≡ true →
    Tested run place m ms
unfolding read_and
tested run place m ms (found number) is e = let same = same_move (point_of number.value) m in let rest = spells run number.place ms in
    let h₁ = both (leb number.place (length run)) (not (eqb number.value 0) && (same && rest)) e in
    let h₂ = both (not (eqb number.value 0)) (same && rest) h₁.1 in let h₃ = both same rest h₂.1 in record {
      number = number;
      read = is;
      fits = leb-true number.place (length run) h₁.0;
      some = not_zero number.value (eqb-false number.value 0 (not-true (eqb number.value 0) h₂.0));
      same = same_move_lem (point_of number.value) m h₃.0;
      rest = h₃.1;
    } where
      not_zero : (n : ℕ) → (n ≡ 0 → ⊥) → 0 < n
      not_zero zero h = absurd (h refl)
      not_zero (suc n) h = omega arith
tested run place m ms failed is e = differ e
tested run place m ms (refused n) is e = differ e

splits : (ms : List RawPoint) (run : List ℕ) (place : ℕ) → spells run place ms ≡ true → Splits (drop place run) ms
unfolding spells
splits [] run place e = subst (λ (bs : List ℕ). Splits bs []) (sym (ap (λ (n : ℕ). drop n run) (eqb-true place (length run) e) ∙ drop-length run)) W.none
splits (m ∷ ms) run place e = let t = tested run place m ms (forward_at run place) refl e in let w = read_whole run place t.read t.fits in
    subst (λ (bs : List ℕ). Splits bs (m ∷ ms)) (sym w.stands) (subst (λ (x : RawPoint). Splits (w.bytes ++ drop t.number.place run) (x ∷ ms))
    t.same (W.some (record { complete = w.complete; short = w.short; reads = w.reads }) t.some (splits ms run t.number.place t.rest)))

-- ---- pieces
turned_before : {moves turned : List RawPoint} (by back : RawPoint) → Turned moves turned → negated by ≡ found back → Turned (moves ++ (by ∷ [])) (back ∷ turned)
turned_before by back W.none e = W.some e W.none
turned_before by back (W.some e' t) e = W.some e' (turned_before by back t e)

turned_round : {ms : List RawPoint} → Going ms → Turned (reverse (map turned_back ms)) ms
turned_round none = W.none
turned_round (some {m = m} {ms = ms} h g) =
    subst (λ (xs : List RawPoint). Turned xs (m ∷ ms)) (sym (reverse-cons (turned_back m) (map turned_back ms))) (turned_before (turned_back m) m (turned_round g) (negated_back m h))

-- what acceptance says
record Accepted (earlier : List ℕ) (ms : List RawPoint) (free : ℕ) (p : Piece) : Type 0 where
  rises : free ≤ p.first
  stays : p.first + p.count ≤ length ms
  lies : p.start + p.bytes ≤ length earlier
  behind : (eqb p.direction 0 || clear_before earlier p.start) ≡ true
  repeats : Splits (lent_by earlier p) (lent_moves ms p)

accepted_says : (earlier : List ℕ) (ms : List RawPoint) (free : ℕ) (p : Piece) → accepted earlier ms free p ≡ true → Accepted earlier ms free p
unfolding accepted
accepted_says earlier ms free p e = let t₅ = spells (lent_by earlier p) 0 (lent_moves ms p) in let t₄ = eqb p.direction 0 || clear_before earlier p.start in
    let t₃ = leb (p.start + p.bytes) (length earlier) in let t₂ = leb (p.first + p.count) (length ms) in let t₁ = ltb 0 p.count in
    let h₀ = both (leb free p.first) (t₁ && (t₂ && (t₃ && (t₄ && t₅)))) e in
    let h₂ = both t₂ (t₃ && (t₄ && t₅)) (both t₁ (t₂ && (t₃ && (t₄ && t₅))) h₀.1).1 in let h₃ = both t₃ (t₄ && t₅) h₂.1 in
    let h₄ = both t₄ t₅ h₃.1 in record {
      rises = leb-true free p.first h₀.0;
      stays = leb-true (p.first + p.count) (length ms) h₂.0;
      lies = leb-true (p.start + p.bytes) (length earlier) h₃.0;
      behind = h₄.0;
      repeats = splits (lent_moves ms p) (lent_by earlier p) 0 h₄.1;
    }

module _ (earlier : List ℕ) (room : length earlier ≤ 2 ^ 30) where
  steps : {ms more : List RawPoint} {bytes : List ℕ} → Going ms → Version1 earlier bytes more → Version1 earlier (flat_map packed_move_bytes ms ++ bytes) (ms ++ more)
  unfolding flat_map packed_move_bytes
  steps none v = v
  steps {more = more} {bytes = bytes} (some {m = m} {ms = ms} h g) v = let w = varint_of (packed_number m) in let rest = flat_map packed_move_bytes ms in
      subst (λ (bs : List ℕ). Version1 earlier bs (m ∷ (ms ++ more))) (sym (append_assoc w rest bytes)) (subst (λ (x : RawPoint). Version1 earlier (w ++ (rest ++ bytes))
      (x ∷ (ms ++ more))) (packed_back m h) (W.step (varint_whole (packed_number m) (packed_small m)) (packed_some m h) (steps g v)))

  module _ (p : Piece) (lies : p.start + p.bytes ≤ length earlier) where
    abbrev run : List ℕ
    run = lent_by earlier p

    abbrev after : List ℕ
    after = drop p.bytes (drop p.start earlier)

    run_length : length run ≡ p.bytes
    run_length = length-take-le p.bytes (drop p.start earlier) (simp length-drop (omega arith))

    run_then : drop p.start earlier ≡ run ++ after
    run_then = sym (take-append-drop p.bytes (drop p.start earlier))

    ahead : {own : List RawPoint} → Splits run own → Borrowed earlier p.start (2 * p.bytes) own
    ahead {own} s =
        subst (λ (n : ℕ). Borrowed earlier n (2 * p.bytes) own) (length-take-le p.start earlier (omega arith)) (W.forward (take p.start earlier) run
        after (sym (take-append-drop p.start earlier) ∙ ap (λ (xs : List ℕ). take p.start earlier ++ xs) run_then) (even_back p.bytes (omega arith) ∙ ap pos (sym run_length)) s)

    back : {own : List RawPoint} → clear_before earlier p.start ≡ true → Going own → Splits run (reverse (map turned_back own)) → Borrowed earlier (p.start + p.bytes) (2 * p.bytes + 1) own
    unfolding clear_before
    back {own} clear g s = let start = p.start in let byte = get_or earlier (start - 1) 0 in let h = both (ltb 0 start) (is_last byte) clear in
        let low = ltb-true 0 start h.0 in let front = take (start - 1) earlier in let next : suc (start - 1) ≡ start = omega arith in
        let place : length front + 1 + length run ≡ start + p.bytes = omega (arith, length-take-le (start - 1) earlier (omega arith), run_length) in
        let split : earlier ≡ front ++ (byte ∷ (run ++ after)) = split_at earlier (start - 1) 0 (omega arith) ∙ ap (λ (n : ℕ). front ++ (byte ∷ drop n earlier)) next
        ∙ ap (λ (xs : List ℕ). front ++ (byte ∷ xs)) run_then in
        subst (λ (n : ℕ). Borrowed earlier n (2 * p.bytes + 1) own) place
        (W.backward front byte run after split (ltb-true byte 128 h.1) (odd_back p.bytes (omega arith) ∙ ap (λ (n : ℕ). neg_ℤ (pos n)) (sym run_length)) s (turned_round g))

    lends : (t : Bool) {own more : List RawPoint} {bytes : List ℕ} → (t || clear_before earlier p.start) ≡ true → Going own → Splits run (if t then own else reverse (map turned_back own)) →
        Version1 earlier bytes more
        → Version1 earlier ((0 ∷ 1 ∷ (if t then (varint_of p.start ++ varint_of (2 * p.bytes)) else (varint_of (p.start + p.bytes) ++ varint_of (2 * p.bytes + 1)))) ++ bytes) (own ++ more)
    lends true {own} {more} {bytes} clear g s v =
        subst (λ (bs : List ℕ). Version1 earlier (0 ∷ 1 ∷ bs) (own ++ more)) (sym (append_assoc (varint_of p.start) (varint_of (2 * p.bytes)) bytes))
        (W.borrows (varint_whole p.start (omega arith)) (varint_whole (2 * p.bytes) (omega arith)) (ahead s) v)
    lends false {own} {more} {bytes} clear g s v =
        subst (λ (bs : List ℕ). Version1 earlier (0 ∷ 1 ∷ bs) (own ++ more)) (sym (append_assoc (varint_of (p.start + p.bytes)) (varint_of (2 * p.bytes + 1)) bytes))
        (W.borrows (varint_whole (p.start + p.bytes) (omega arith)) (varint_whole (2 * p.bytes + 1) (omega arith)) (back clear g s) v)

  -- ---- all pieces
  module _ (ms : List RawPoint) (going : Going ms) where
    piece_lent : (p : Piece) (free : ℕ) {bytes : List ℕ} {more : List RawPoint} → Accepted earlier ms free p → Version1 earlier bytes more →
        Version1 earlier (piece_bytes p ++ bytes) (take p.count (drop p.first ms) ++ more)
    unfolding piece_bytes lent_moves
    piece_lent p free h v = lends p h.lies (eqb p.direction 0) h.behind (going_take p.count (going_drop p.first going)) h.repeats v

    joined : (p : Piece) (next : ℕ) → next ≤ p.first → p.first ≤ length ms → slice next p.first ms ++ (take p.count (drop p.first ms) ++ drop (p.first + p.count) ms) ≡ drop next ms
    joined p next h k = let first = p.first in
        let rest : take p.count (drop first ms) ++ drop (first + p.count) ms ≡ drop first ms = ap (λ (xs : List RawPoint). take p.count (drop first ms) ++ xs)
        (sym (drop-drop p.count first ms)) ∙ take-append-drop p.count (drop first ms) in
        ap (λ (xs : List RawPoint). slice next first ms ++ xs) rest ∙ sym (drop-append-le next (take first ms) (drop first ms) (omega (arith, length-take-le first ms k)))
        ∙ ap (drop next) (take-append-drop first ms)

    accepted_next : (t : Bool) (n m : ℕ) → (if t then suc n else 0) ≡ suc m → (t ≡ true) × (n ≡ m)
    accepted_next true n m e = (refl, omega arith)
    accepted_next false n m e = absurd (omega arith)

    packed : (ps : List Piece) (next : ℕ) → good_pieces earlier ms next ps ≡ length ps → Version1 earlier (packed_from ms next ps) (drop next ms)
    unfolding packed_from good_pieces
    packed [] next e = subst (Version1 earlier (flat_map packed_move_bytes (drop next ms) ++ (0 ∷ 0 ∷ []))) (append-nil (drop next ms)) (steps (going_drop next going) W.closes)
    packed (p ∷ ps) next e = let h = accepted_next (accepted earlier ms next p) (good_pieces earlier ms (p.first + p.count) ps) (length ps) e in
        let ok = accepted_says earlier ms next p h.0 in
        subst (Version1 earlier (flat_map packed_move_bytes (slice next p.first ms) ++ (piece_bytes p ++ packed_from ms (p.first + p.count) ps)))
        (joined p next ok.rises (omega (arith, ok.stays))) (steps (going_drop next (going_take p.first going)) (piece_lent p next ok (packed ps (p.first + p.count) h.1)))

-- ---- the border
then_given : {A : Type 0} {rest : Reply A} {a : A} (r : Reply (Unit {0})) → (r >> rest) ≡ given a → (given tt ≡ r) × (rest ≡ given a)
then_given (given u) e = (refl, e)
then_given (R.refused why) e = absurd (let z : ◌≡◌ {A = ℕ} 0 1 = cc in omega arith)

module _ (version : ℕ) (lats lons : List ℤ) (pieces : List Piece) (earlier bytes : List ℕ) where
  record Passes : Type 0 where
    room : length earlier ≤ 2 ^ 30
    some : 0 < length (points_of lats lons)
    few : length (moves_of lats lons) ≤ 65535
    walked : Walked (point_at (pos 0) (pos 0)) (points_of lats lons)

  passes : given tt ≡ checks version lats lons earlier → Passes
  unfolding checks moves_of
  passes e = let origin = point_at (pos 0) (pos 0) in let ms = moves_from origin (points_of lats lons) in
      let h₁ = demanded (leb (length earlier) (2 ^ 30)) (plain 1) e in let h₂ = demanded (ltb version 2) (refusal 5 0 version) h₁.1 in
      let h₃ = demanded (sized lats lons) (plain 19) h₂.1 in let h₄ = demanded (every near lats && every near lons) (plain 20) h₃.1 in
      let h₅ = demanded (every is_move (drop 1 ms)) (plain 21) h₄.1 in let h₆ = last (every is_move (take 1 ms)) h₅.1 in
      let near-all = both (every near lats) (every near lons) h₄.0 in let size = sizes lats lons h₃.0 in record {
        room = leb-true (length earlier) (2 ^ 30) h₁.0;
        some = omega (arith, points_length lats lons, size.some, size.same);
        few = omega (arith, moves_length origin (points_of lats lons), points_length lats lons, size.few);
        walked = walks lats lons origin (record { lat_near = lit< tt; lon_near = lit< tt }) near-all.0 near-all.1 (all_move ms h₅.0 h₆);
      } where
        last : (t : Bool) → given tt ≡ demand t (plain 22) → t ≡ true
        last true e = refl
        last false e = absurd (let z : ◌≡◌ {A = ℕ} 0 1 = cc in omega arith)

  encoded : (t : Bool) → Passes → (if t then plain_border (moves_of lats lons) pieces else packed_border (moves_of lats lons) pieces earlier) ≡ given bytes →
      W.Encodes (if t then Plain else Packed) earlier bytes (moves_of lats lons)
  unfolding plain_border packed_border moves_of
  encoded true h e = let d = demanded (eqb (length pieces) 0) (plain 23) (sym e) in
      subst (λ (bs : List ℕ). Version0 bs (moves_of lats lons)) (given_one (sym d.1)) (W.counted (varint_whole (length (moves_of lats lons)) (omega (arith, h.few)))
      (pairs h.walked.going) guard)
  encoded false h e = let good = good_pieces earlier (moves_of lats lons) 0 pieces in let d = demanded (leb (length pieces) 16) (refusal 23 0 16) (sym e) in
      let d' = demanded (eqb good (length pieces)) (refusal 23 0 good) d.1 in
      subst (λ (bs : List ℕ). Version1 earlier bs (moves_of lats lons)) (given_one (sym d'.1))
      (packed earlier h.room (moves_of lats lons) h.walked.going pieces 0 (eqb-true good (length pieces) d'.0))

  leads : Passes → Leads (point_at (pos 0) (pos 0)) (moves_of lats lons) (points_of lats lons)
  unfolding moves_of
  leads h = h.walked.leads

  -- Whatever the writer accepts, in version 0, version 1, and version 1 with pieces: the bytes that it writes are a border of the points, behind the same earlier data.
  pub written_border : border_of version lats lons pieces earlier ≡ given bytes → Border (version_of version) earlier bytes (points_of lats lons)
  unfolding border_of
  written_border e = let h = then_given (checks version lats lons earlier) e in go (eqb version 0) (passes h.0) h.1 where
    go : (t : Bool) → Passes → (if t then plain_border (moves_of lats lons) pieces else packed_border (moves_of lats lons) pieces earlier) ≡ given bytes →
        Border (if t then Plain else Packed) earlier bytes (points_of lats lons)
    go t h e = record { some = h.some; moves = moves_of lats lons; encoded = encoded t h e; leads = leads h }
