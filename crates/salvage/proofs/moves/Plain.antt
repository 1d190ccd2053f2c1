-- Version 0: a border is its pairs, and they are read again from what is written of them. Assumes nothing.
use Rattle.std.specs.Prelude.{Err}
use Rattle.numbers.proofs.{Answers.{All, then_all, any, found_one}, Laws.{Read}}
use Rattle.numbers.proofs.Prelude.{ℕ, zero, suc, ◌+◌, ◌-◌, ◌^◌, ◌<◌, ne_eqb, eqb, length, mag, Bool, true, false, List, [], ◌∷◌, ◌++◌, append_assoc, flat_map, ◌≡◌, refl, sym, ap, subst, ◌∙◌, arith}
use Rattle.numbers.{proofs.{Readings.{reading_read}, Spelling.{varint_whole}}, specs.{Answer.{Answer, found, failed, refused, if◌then◌else◌, ◌>>=◌}, Point.{signed_of}}}
use Rattle.numbers.specs.{Spelling.{varint_of, signed_form}, Varint.{Numeral, told, reading_of}, declared.{point.RawPoint.{RawPoint}, varint.Stop.{Stop}}}
use Rattle.border.{proofs.{OnWay.{At, at_first, at_next, on_way}, reader.Turns.{open_plain, counted_before, count_fails, count_read, pair_closes}}, specs.Place.{move_by, is_still, moved_by}}
use Rattle.border.specs.{Reader.{Reading, onward, arrived, closing, shown_by, plain_move, plain_pair, plain_turn}, Trace.{Trace, point, trace_of, border_at}}
use Rattle.border.specs.declared.{place.Point.{Point}, reader.{Encoding.{Encoding}, Reader.{Reader}, Run.TheVariants.{Idle}, Version.TheVariants.{Plain}}}
use Rattle.writer.specs.Moves.{plain_move_bytes}
use Rattle.salvage.proofs.moves.{Capping.{capped_then, capped_as}, Ends.{by_stop, unfound, unrefused}, Forms.{signed_mag, form_again, form_few}, Standing.{reads_both}}
use Rattle.salvage.proofs.moves.{Turning.{turn, trace_by, trace_turn, closed_trace}, pairs.Pairing.{pair_is}}
use Rattle.salvage.specs.{Moves.Moves.{end_of, origin, pair_at, pairs_from, plain_moves, moves_bytes}, declared.moves.pairs.Pair.{Pair}, inner.Moves.Laid.{Capped, Copied}}
use Rattle.border.specs.Trace as T
use Rattle.border.specs.declared.reader.Turn.{Turn, TheVariants.{Gives as gives, Again as again}}

-- ---- a turn is a pair, then its move
abbrev pair_of : Numeral → Numeral → Pair
pair_of lat lon = record { by = move_by (signed_of lat.value) (signed_of lon.value); place = lon.place }

abbrev move_of : Reader → Pair → Answer Turn
move_of s pair = plain_move (onward s pair.place s.moves Idle) pair.by

pair_move : (read : Reading) (s : Reader) → plain_pair read s ≡ (pair_at read s.place >>= move_of s)
unfolding plain_pair pair_at
pair_move read s = first (read s.place) where
  second : (lat : Numeral) (m : Answer Numeral) → (m >>= λ lon. move_of s (pair_of lat lon)) ≡ ((m >>= λ lon. found (pair_of lat lon)) >>= move_of s)
  second lat (found lon) = refl
  second lat failed = refl
  second lat (refused n) = refl

  first : (n : Answer Numeral) → (n >>= λ lat. read lat.place >>= λ lon. move_of s (pair_of lat lon)) ≡ ((n >>= λ lat. read lat.place >>= λ lon. found (pair_of lat lon)) >>= move_of s)
  first (found lat) = second lat (read lat.place)
  first failed = refl
  first (refused n) = refl

-- the state behind a move with k moves left
abbrev behind_move : Reader → ℕ → Point → Reader
behind_move u k p = arrived (onward u u.place k Idle) p

pair_steps : (u : Reader) (by : RawPoint) (k : ℕ) → u.moves ≡ suc k → plain_move u by ≡ (moved_by u.point by >>= λ p. found (shown_by by (behind_move u k p)))
unfolding plain_move
pair_steps u by k e = let fewer : u.moves - 1 ≡ k = omega arith in rw (ne_eqb u.moves 0 (λ z. omega arith), fewer)

-- ---- two borders whose states stay alike
same_moved : (answer : Answer Point) (by : RawPoint) (s s' : Point → Reader) (k k' : Reader → Trace) → ((q : Point) → (s q).point ≡ (s' q).point) → ((q : Point) → k (s q) ≡ k' (s' q))
    → trace_by (answer >>= λ q. found (shown_by by (s q))) k ≡ trace_by (answer >>= λ q. found (shown_by by (s' q))) k'
unfolding trace_by
same_moved failed by s s' k k' p e = refl
same_moved (refused n) by s s' k k' p e = refl
same_moved (found q) by s s' k k' p e = shown (is_still by) where
  shown : (t : Bool) → trace_by (found (if t then again (s q) else gives (s q))) k ≡ trace_by (found (if t then again (s' q) else gives (s' q))) k'
  shown true = e q
  shown false = ap (λ (x : Point). point x (k (s q))) (p q) ∙ ap (point (s' q).point) (e q)

-- ---- what pairs are made of
record Split (read : Reading) (n place : ℕ) (moves : List RawPoint) : Type 0 where
  pair : Pair
  more : List RawPoint
  here : pair_at read place ≡ found pair
  rest : pairs_from read n pair.place ≡ found more
  all : moves ≡ pair.by ∷ more

split : (read : Reading) (n place : ℕ) (moves : List RawPoint) → pairs_from read (suc n) place ≡ found moves → Split read n place moves
unfolding pairs_from
split read n place moves e = first (pair_at read place) refl e where
  second : (pair : Pair) → pair_at read place ≡ found pair → (answer : Answer (List RawPoint)) → pairs_from read n pair.place ≡ answer
      → (answer >>= λ rest. found (pair.by ∷ rest)) ≡ found moves → Split read n place moves
  second pair h (found more) r g = record { pair = pair; more = more; here = h; rest = r; all = sym (found_one g) }
  second pair h failed r g = unfound g
  second pair h (refused m) r g = unrefused g

  first : (answer : Answer Pair) → pair_at read place ≡ answer → (answer >>= λ pair. pairs_from read n pair.place >>= λ rest. found (pair.by ∷ rest)) ≡ found moves → Split read n place moves
  first (found pair) h g = second pair h (pairs_from read n pair.place) refl g
  first failed h g = unfound g
  first (refused m) h g = unrefused g

pub pairs_length : (read : Reading) (n place : ℕ) (moves : List RawPoint) → pairs_from read n place ≡ found moves → length moves ≡ n
unfolding pairs_from
pairs_length read zero place moves e = ap length (sym (found_one e))
pairs_length read (suc n) place moves e = let s = split read n place moves e in
    ap length s.all ∙ ap suc (pairs_length read n s.pair.place s.more s.rest)

-- ---- the trace by its pairs
module _ (f : List ℕ) (encoding : Encoding) (plain : encoding.version ≡ Plain) where
  abbrev reading : Reading
  reading = reading_of encoding.strict f

  -- a state whose turn reads a pair at a place
  abbrev AtPair : Reader → Bool → ℕ → ℕ → Point → Point → Type 0
  AtPair s begun place n first p = turn f encoding s ≡ plain_pair reading (on_way begun place n Idle first p)

  on_the_way : (place n : ℕ) (first p : Point) → AtPair (on_way true place n Idle first p) true place n first p
  on_the_way place n first p =
      rw plain (open_plain encoding.strict f encoding.«data» (on_way true place n Idle first p) refl ∙ counted_before reading (on_way true place n Idle first p) refl)

  -- the trace from there
  by_pair : (s : Reader) (begun : Bool) (place n : ℕ) (first p : Point) → AtPair s begun place n first p
      → trace_of f encoding s ≡ trace_by (pair_at reading place >>= move_of (on_way begun place n Idle first p)) (trace_of f encoding)
  by_pair s begun place n first p h =
      trace_turn f encoding s ∙ ap (λ (t : Answer Turn). trace_by t (trace_of f encoding)) (h ∙ pair_move reading (on_way begun place n Idle first p))

  by_move : (s : Reader) (begun : Bool) (place n : ℕ) (first p : Point) → AtPair s begun place n first p → {pair : Pair} → pair_at reading place ≡ found pair
      → trace_of f encoding s ≡ trace_by (plain_move (on_way begun pair.place n Idle first p) pair.by) (trace_of f encoding)
  by_move s begun place n first p h e =
      by_pair s begun place n first p h ∙ ap (λ (a : Answer Pair). trace_by (a >>= move_of (on_way begun place n Idle first p)) (trace_of f encoding)) e

module _ (f f' : List ℕ) (encoding encoding' : Encoding) (plain : encoding.version ≡ Plain) (plain' : encoding'.version ≡ Plain) where
  abbrev here_read : Reading
  here_read = reading_of encoding.strict f

  abbrev there_read : Reading
  there_read = reading_of encoding'.strict f'

  -- the same pairs give the same trace
  same_pairs : (n : ℕ) (begun : Bool) (first p : Point) (place place' : ℕ) (s s' : Reader) (moves : List RawPoint)
      → AtPair f encoding plain s begun place n first p → AtPair f' encoding' plain' s' begun place' n first p
      → pairs_from here_read (suc n) place ≡ found moves → pairs_from there_read (suc n) place' ≡ found moves → trace_of f encoding s ≡ trace_of f' encoding' s'
  same_pairs zero begun first p place place' s s' moves h h' e e' = let one = split here_read 0 place moves e in let two = split there_read 0 place' moves e' in
      let by = two.pair.by in let lists : one.pair.by ∷ one.more ≡ by ∷ two.more = sym one.all ∙ two.all in let same : one.pair.by ≡ by = cc in
      let u = on_way begun one.pair.place 0 Idle first p in let u' = on_way begun two.pair.place 0 Idle first p in
      by_move f encoding plain s begun place 0 first p h one.here ∙ ap (λ (m : RawPoint). trace_by (plain_move u m) (trace_of f encoding)) same
      ∙ ap (λ (t : Answer Turn). trace_by t (trace_of f encoding)) (pair_closes u by refl) ∙ same_moved (found p) by (λ q. closing u) (λ q. closing u')
      (trace_of f encoding) (trace_of f' encoding') (λ q. refl) (λ q. closed_trace f encoding (closing u) refl ∙ sym (closed_trace f' encoding' (closing u') refl))
      ∙ ap (λ (t : Answer Turn). trace_by t (trace_of f' encoding')) (sym (pair_closes u' by refl)) ∙ sym (by_move f' encoding' plain' s' begun place' 0 first p h' two.here)
  same_pairs (suc k) begun first p place place' s s' moves h h' e e' = let one = split here_read (suc k) place moves e in
      let two = split there_read (suc k) place' moves e' in let by = two.pair.by in
      let lists : one.pair.by ∷ one.more ≡ by ∷ two.more = sym one.all ∙ two.all in let same : one.pair.by ≡ by = cc in
      let later : one.more ≡ two.more = cc in let u = on_way begun one.pair.place (suc k) Idle first p in
      let u' = on_way begun two.pair.place (suc k) Idle first p in
      by_move f encoding plain s begun place (suc k) first p h one.here ∙ ap (λ (m : RawPoint). trace_by (plain_move u m) (trace_of f encoding)) same
      ∙ ap (λ (t : Answer Turn). trace_by t (trace_of f encoding)) (pair_steps u by k refl) ∙ same_moved (moved_by p by) by (behind_move u k) (behind_move u' k)
      (trace_of f encoding) (trace_of f' encoding') (λ q. refl) (λ q. same_pairs k true (if begun then first else q) q one.pair.place two.pair.place
      (behind_move u k q) (behind_move u' k q) two.more (on_the_way f encoding plain one.pair.place k (if begun then first else q) q)
      (on_the_way f' encoding' plain' two.pair.place k (if begun then first else q) q) (one.rest ∙ ap found later) two.rest)
      ∙ ap (λ (t : Answer Turn). trace_by t (trace_of f' encoding')) (sym (pair_steps u' by k refl)) ∙ sym (by_move f' encoding' plain' s' begun place' (suc k) first p h' two.here)

-- ---- a border that closes has all its pairs
pub record Readable (answer : Answer (List RawPoint)) : Type 0 where
  pub moves : List RawPoint
  pub are : answer ≡ found moves

pairs_cons : (read : Reading) (n place : ℕ) {pair : Pair} {more : List RawPoint} → pair_at read place ≡ found pair → pairs_from read n pair.place ≡ found more →
    pairs_from read (suc n) place ≡ found (pair.by ∷ more)
unfolding pairs_from
pairs_cons read n place {pair} e r =
    ap (λ (answer : Answer Pair). answer >>= λ pair. pairs_from read n pair.place >>= λ rest. found (pair.by ∷ rest)) e
    ∙ ap (λ (answer : Answer (List RawPoint)). answer >>= λ rest. found (pair.by ∷ rest)) r

module _ (f : List ℕ) (encoding : Encoding) (plain : encoding.version ≡ Plain) where
  abbrev own_read : Reading
  own_read = reading_of encoding.strict f

  record HerePair (place : ℕ) : Type 0 where
    pair : Pair
    here : pair_at own_read place ≡ found pair

  pair_found : (s : Reader) (begun : Bool) (place n : ℕ) (first p : Point) → AtPair f encoding plain s begun place n first p → end_of (trace_of f encoding s) ≡ found tt → HerePair place
  unfolding trace_by end_of
  pair_found s begun place n first p h e = go (pair_at own_read place) refl (rw (by_pair f encoding plain s begun place n first p h) at e) where
    go : (answer : Answer Pair) → pair_at own_read place ≡ answer → end_of (trace_by (answer >>= move_of (on_way begun place n Idle first p)) (trace_of f encoding)) ≡ found tt → HerePair place
    go (found pair) g k = record { pair = pair; here = g }
    go failed g k = unfound k
    go (refused m) g k = unrefused k

  record Onwards (u : Reader) (k : ℕ) : Type 0 where
    to : Point
    ends : end_of (trace_of f encoding (behind_move u k to)) ≡ found tt

  ends_moved : (u : Reader) (k : ℕ) (by : RawPoint) (answer : Answer Point) → end_of (trace_by (answer >>= λ q. found (shown_by by (behind_move u k q))) (trace_of f encoding)) ≡ found tt → Onwards u k
  unfolding trace_by end_of
  ends_moved u k by failed e = unfound e
  ends_moved u k by (refused m) e = unrefused e
  ends_moved u k by (found q) e = shown (is_still by) e where
    shown : (t : Bool) → end_of (trace_by (found (if t then again (behind_move u k q) else gives (behind_move u k q))) (trace_of f encoding)) ≡ found tt → Onwards u k
    shown true g = record { to = q; ends = g }
    shown false g = record { to = q; ends = g }

  closed_pairs : (n : ℕ) (s : Reader) (begun : Bool) (place : ℕ) (first p : Point) → AtPair f encoding plain s begun place n first p → end_of (trace_of f encoding s) ≡ found tt →
      Readable (pairs_from own_read (suc n) place)
  unfolding pairs_from
  closed_pairs zero s begun place first p h e = let one = pair_found s begun place 0 first p h e in
      record { moves = one.pair.by ∷ []; are = pairs_cons own_read 0 place one.here refl }
  closed_pairs (suc k) s begun place first p h e = let one = pair_found s begun place (suc k) first p h e in
      let u = on_way begun one.pair.place (suc k) Idle first p in
      let on = ends_moved u k one.pair.by (moved_by p one.pair.by) (ap end_of (sym (by_move f encoding plain s begun place (suc k) first p h one.here
      ∙ ap (λ (t : Answer Turn). trace_by t (trace_of f encoding)) (pair_steps u one.pair.by k refl))) ∙ e) in
      let q = on.to in
      let rest = closed_pairs k (behind_move u k q) true one.pair.place (if begun then first else q) q (on_the_way f encoding plain one.pair.place k
      (if begun then first else q) q) on.ends in
      record { moves = one.pair.by ∷ rest.moves; are = pairs_cons own_read (suc k) place one.here rest.are }

-- ---- a whole border
record Counted (read : Reading) (place : ℕ) (moves : List RawPoint) : Type 0 where
  count : Numeral
  here : read place ≡ found count
  pairs : pairs_from read (suc count.value) count.place ≡ found moves

counted_of : (read : Reading) (place : ℕ) (moves : List RawPoint) → plain_moves read place ≡ found moves → Counted read place moves
unfolding plain_moves
counted_of read place moves e = go (read place) refl e where
  go : (answer : Answer Numeral) → read place ≡ answer → (answer >>= λ count. pairs_from read (suc count.value) count.place) ≡ found moves → Counted read place moves
  go (found count) h g = record { count = count; here = h; pairs = g }
  go failed h g = unfound g
  go (refused n) h g = unrefused g

counted_moves : (read : Reading) (place : ℕ) {count : Numeral} → read place ≡ found count → plain_moves read place ≡ pairs_from read (suc count.value) count.place
unfolding plain_moves
counted_moves read place h = rw h

module _ (f : List ℕ) (encoding : Encoding) (plain : encoding.version ≡ Plain) (place : ℕ) where
  abbrev the_read : Reading
  the_read = reading_of encoding.strict f

  begins : {count : Numeral} → the_read place ≡ found count → (count.value ≡ 0 → ⊥) → AtPair f encoding plain (border_at place) false count.place count.value origin origin
  begins h some = rw plain (open_plain encoding.strict f encoding.«data» (border_at place) refl ∙ count_read the_read (border_at place) refl (sym h) some)

  -- a count of 0, and one that can't be read
  begins_not : {count : Numeral} → the_read place ≡ found count → count.value ≡ 0 → trace_of f encoding (border_at place) ≡ T.failed
  unfolding trace_by
  begins_not h none =
      let turned : turn f encoding (border_at place) ≡ failed =
      rw plain (open_plain encoding.strict f encoding.«data» (border_at place) refl ∙ count_fails the_read (border_at place) refl (sym h) none) in
      trace_turn f encoding (border_at place) ∙ ap (λ (t : Answer Turn). trace_by t (trace_of f encoding)) turned

  unread : {answer : Answer Numeral} → the_read place ≡ answer →
      turn f encoding (border_at place) ≡ (answer >>= λ count. if eqb count.value 0 then failed else plain_pair the_read (onward (border_at place) count.place count.value Idle))
  unfolding plain_turn
  unread h = rw plain (open_plain encoding.strict f encoding.«data» (border_at place) refl ∙
      ap (λ (a : Answer Numeral). a >>= λ count. if eqb count.value 0 then failed else plain_pair the_read (onward (border_at place) count.place count.value Idle)) h)

  pub plain_readable : end_of (trace_of f encoding (border_at place)) ≡ found tt → Readable (plain_moves the_read place)
  unfolding trace_by end_of
  plain_readable e = go (the_read place) refl where
    ending : {t : Answer Turn} → turn f encoding (border_at place) ≡ t → end_of (trace_by t (trace_of f encoding)) ≡ found tt
    ending h = ap end_of (sym (trace_turn f encoding (border_at place) ∙ ap (λ (t : Answer Turn). trace_by t (trace_of f encoding)) h)) ∙ e

    counts : (count : Numeral) → the_read place ≡ found count → (v : ℕ) → count.value ≡ v → Readable (plain_moves the_read place)
    counts count h zero v = unfound (sym (ap end_of (begins_not h v)) ∙ e)
    counts count h (suc k) v =
        let rest = closed_pairs f encoding plain count.value (border_at place) false count.place origin origin (begins h (λ z. omega arith)) e in
        record { moves = rest.moves; are = counted_moves the_read place h ∙ rest.are }

    go : (answer : Answer Numeral) → the_read place ≡ answer → Readable (plain_moves the_read place)
    go (found count) h = counts count h count.value refl
    go failed h = unfound (ending (unread h))
    go (refused n) h = unrefused (ending (unread h))

module _ (f f' : List ℕ) (encoding encoding' : Encoding) (plain : encoding.version ≡ Plain) (plain' : encoding'.version ≡ Plain) (place place' : ℕ) where
  -- two borders of version 0 with the same moves have the same trace
  pub plain_same : (moves : List RawPoint) → plain_moves (reading_of encoding.strict f) place ≡ found moves → plain_moves (reading_of encoding'.strict f') place' ≡ found moves
      → trace_of f encoding (border_at place) ≡ trace_of f' encoding' (border_at place')
  plain_same moves e e' = go one.count.value refl where
    one : Counted (reading_of encoding.strict f) place moves
    one = counted_of (reading_of encoding.strict f) place moves e

    two : Counted (reading_of encoding'.strict f') place' moves
    two = counted_of (reading_of encoding'.strict f') place' moves e'

    counts : two.count.value ≡ one.count.value
    counts =
        omega (
          arith,
          pairs_length (reading_of encoding.strict f) (suc one.count.value) one.count.place moves one.pairs,
          pairs_length (reading_of encoding'.strict f') (suc two.count.value) two.count.place moves two.pairs,
        )

    go : (v : ℕ) → one.count.value ≡ v → trace_of f encoding (border_at place) ≡ trace_of f' encoding' (border_at place')
    go zero v = begins_not f encoding plain place one.here v ∙ sym (begins_not f' encoding' plain' place' two.here (counts ∙ v))
    go (suc k) v =
        same_pairs f f' encoding encoding' plain plain' one.count.value false origin origin one.count.place two.count.place (border_at place)
        (border_at place') moves (begins f encoding plain place one.here (λ z. omega arith)) (subst (λ (n : ℕ). AtPair f' encoding' plain' (border_at place')
        false two.count.place n origin origin) counts (begins f' encoding' plain' place' two.here (λ z. omega (arith, counts)))) one.pairs
        (subst (λ (n : ℕ). pairs_from (reading_of encoding'.strict f') (suc n) two.count.place ≡ found moves) counts two.pairs)

-- ---- written and read again
abbrev Fitting : Pair → Type 0
Fitting pair = (mag pair.by.lat < 2 ^ 31) × (mag pair.by.lon < 2 ^ 31)

pairs_fit : (read : Reading) (place : ℕ) → All Fitting (pair_at read place)
unfolding pair_at
pairs_fit read place =
    then_all _ Fitting (read place) _ (any (read place)) (λ lat h. then_all _ Fitting (read lat.place) _ (any (read lat.place)) (λ lon k. (signed_mag lat.value, signed_mag lon.value)))

module _ (strict : Bool) (f : List ℕ) where
  -- a move that was written is read at its place
  pair_again : (by : RawPoint) → mag by.lat < 2 ^ 31 → mag by.lon < 2 ^ 31 → (place : ℕ) → At f place (plain_move_bytes by)
      → pair_at (reading_of strict f) place ≡ found (record { by = by; place = place + length (varint_of (signed_form by.lat)) + length (varint_of (signed_form by.lon)) })
  unfolding plain_move_bytes
  pair_again by h k place here = let lat = varint_of (signed_form by.lat) in let lon = varint_of (signed_form by.lon) in
      let one = reads_both strict (varint_whole (signed_form by.lat) (form_few by.lat h)) (at_first f place lat lon here) in
      let two = reads_both strict (varint_whole (signed_form by.lon) (form_few by.lon k)) (at_next f place lat lon here) in
      rw (form_again by.lat h, form_again by.lon k) at (sym (pair_is (reading_of strict f) place one two))

  pair_behind : (by : RawPoint) (rest : List ℕ) (place : ℕ) → At f place (plain_move_bytes by ++ rest) →
      At f (place + length (varint_of (signed_form by.lat)) + length (varint_of (signed_form by.lon))) rest
  unfolding plain_move_bytes
  pair_behind by rest place h = let lat = varint_of (signed_form by.lat) in let lon = varint_of (signed_form by.lon) in
      at_next f (place + length lat) lon rest (at_next f place lat (lon ++ rest) (subst (At f place) (append_assoc lat lon rest) h))

  pairs_again : (read : Reading) (n place : ℕ) (moves : List RawPoint) → pairs_from read n place ≡ found moves → (place' : ℕ) → At f place' (flat_map plain_move_bytes moves) →
      pairs_from (reading_of strict f) n place' ≡ found moves
  unfolding pairs_from flat_map
  pairs_again read zero place moves e place' here = e
  pairs_again read (suc n) place moves e place' here = let s = split read n place moves e in let by = s.pair.by in
      let fits : Fitting s.pair = subst (All Fitting) s.here (pairs_fit read place) in let rest = flat_map plain_move_bytes s.more in
      let both : At f place' (plain_move_bytes by ++ rest) = subst (λ (ms : List RawPoint). At f place' (flat_map plain_move_bytes ms)) s.all here in
      let lat = varint_of (signed_form by.lat) in let lon = varint_of (signed_form by.lon) in
      pairs_cons (reading_of strict f) n place' (pair_again by fits.0 fits.1 place' (at_first f place' (plain_move_bytes by) rest both)) (pairs_again read n
      s.pair.place s.more s.rest (place' + length lat + length lon) (pair_behind by rest place' both)) ∙ ap found (sym s.all)

-- the moves of a border of version 0, written at any place of any file, are read again there, strictly or not
pub plain_again : (f f' : List ℕ) (strict strict' : Bool) (place place' : ℕ) (moves : List RawPoint) → plain_moves (reading_of strict f) place ≡ found moves →
    At f' place' (moves_bytes Plain moves) → plain_moves (reading_of strict' f') place' ≡ found moves
unfolding moves_bytes
plain_again f f' strict strict' place place' moves e here = let c = counted_of (reading_of strict f) place moves e in let v = c.count.value in
    let read : Read f place c.count.value c.count.place = subst (All (λ (number : Numeral). Read f place number.value number.place)) c.here (reading_read strict f place) in
    let size : length moves - 1 ≡ v = omega (arith, pairs_length (reading_of strict f) (suc v) c.count.place moves c.pairs) in
    let bytes = flat_map plain_move_bytes moves in
    let both : At f' place' (varint_of v ++ bytes) = subst (λ (n : ℕ). At f' place' (varint_of n ++ bytes)) size here in
    let number = reads_both strict' (varint_whole v read.fits) (at_first f' place' (varint_of v) bytes both) in
    counted_moves (reading_of strict' f') place' (sym number)
    ∙ pairs_again strict' f' (reading_of strict f) (suc v) c.count.place moves c.pairs (place' + length (varint_of v)) (at_next f' place' (varint_of v) bytes both)

-- ---- what is written of them
plain_bytes : (moves : List RawPoint) (n : ℕ) → n ≡ length moves - 1 → varint_of n ++ flat_map plain_move_bytes moves ≡ moves_bytes Plain moves
unfolding moves_bytes
plain_bytes moves n e = ap (λ (k : ℕ). varint_of k ++ flat_map plain_move_bytes moves) e

module _ (read : Reading) (place : ℕ) (before : List ℕ) (at : ℕ) where
  -- no count
  pub count_stops : (after : List ℕ) (next : ℕ) (stop : Stop) → told (Err stop) ≡ read place → Copied (moves_bytes Plain) (plain_moves read place) before at after next
  unfolding plain_moves
  count_stops after next =
      by_stop (λ (a : Answer Numeral). a ≡ read place → Copied (moves_bytes Plain) (plain_moves read place) before at after next) (λ e. rw (← e) tt) (λ n e. rw (← e) tt)

  -- the count, then the pairs
  pub count_goes : {middle : List ℕ} {next : ℕ} (after : List ℕ) (end : ℕ) {count : Numeral} → found count ≡ read place → Capped before at (varint_of count.value) middle next
      → Copied (flat_map plain_move_bytes) (pairs_from read (suc count.value) count.place) middle next after end → Copied (moves_bytes Plain) (plain_moves read place) before at after end
  count_goes {middle} {next} after end {count} e c d = rw (counted_moves read place (sym e)) (go (pairs_from read (suc count.value) count.place) refl d) where
    size : (moves : List RawPoint) → length moves ≡ suc count.value → varint_of count.value ++ flat_map plain_move_bytes moves ≡ moves_bytes Plain moves
    size moves l = plain_bytes moves count.value (omega arith)

    go : (answer : Answer (List RawPoint)) → pairs_from read (suc count.value) count.place ≡ answer → Copied (flat_map plain_move_bytes) answer middle next after end →
        Copied (moves_bytes Plain) answer before at after end
    go (found moves) h k = capped_as (size moves (pairs_length read (suc count.value) count.place moves h)) (capped_then (varint_of count.value) (flat_map plain_move_bytes moves) c k)
    go failed h k = tt
    go (refused n) h k = tt
