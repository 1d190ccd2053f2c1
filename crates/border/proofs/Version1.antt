-- A version 1 border is delivered: moves of its own, and moves borrowed forward and backward. Assumes nothing.
use Rattle.numbers.proofs.Prelude.{ℕ, zero, suc, ◌+◌, ◌-◌, ◌%◌, ◌^◌, ◌≤◌, ◌<◌, le-leb, lt-leb, lit<, pos, neg_ℤ, length, get_or, length-append, Bool, true, false, List, [], ◌∷◌, ◌++◌, append_assoc, ◌≡◌}
use Rattle.numbers.proofs.Prelude.{refl, sym, ap, ◌∙◌, add-zero, mod-eq_of_lt, add-one, arith}
use Rattle.numbers.{proofs.Spelling.{one_byte}, specs.{Answer.{found}, Point.{signed_of, point_of}, Varint.{numeral, reading_of}, declared.point.RawPoint.{RawPoint}}}
use native.Mathlib.Nat.{suc-add, add_assoc}
use Rattle.border.specs.{Reader.{onward, advanced, data_place, as_i64, opened, marker, forward_from, backward_from, packed_turn, turn_of}, Written.{Splits, Turned, Borrowed, Version1}}
use Rattle.border.specs.declared.{place.Point.{Point}, reader.{Reader.{Reader}, Run.{Run, TheVariants.{Idle, Forward, Backward}}, Version.TheVariants.{Packed}}}
use Rattle.border.proofs.{OnWay.{At, at_first, at_next, at_head, some_bytes, reads, reads_back, stays_clear, on_way, Reads, steps, reads_on, closes_with}, reader.Places.{none_opened}}
use Rattle.border.proofs.reader.{Places.{forward_opened, backward_opened}, Turns.{turn_move, turn_marker, mark_closes, mark_opens, reference_opens, forward_move, backward_move, advances}}
use Rattle.border.specs.Written as W

-- what is left of a run
module _ (next end : ℕ) where
  more_forward : next < end → forward_from next end ≡ Forward next end
  unfolding forward_from
  more_forward h = rw (lt-leb end next h)

  none_forward : end ≤ next → forward_from next end ≡ Idle
  unfolding forward_from
  none_forward h = rw (le-leb end next h)

  more_backward : end < next → backward_from next end ≡ Backward next end
  unfolding backward_from
  more_backward h = rw (lt-leb next end h)

  none_backward : next ≤ end → backward_from next end ≡ Idle
  unfolding backward_from
  none_backward h = rw (le-leb next end h)

module _ (f : List ℕ) (base : ℕ) where
  -- from a place and in a run, whether or not there was a point before
  abbrev Delivers : ℕ → Run → List RawPoint → Type 0
  Delivers place run moves = (begun : Bool) → Reads f Packed base begun place 0 run moves

  -- one move, wherever its number stands
  packed_step : (place place' : ℕ) (run run' : Run) (by : RawPoint) (moves : List RawPoint)
      → ((begun : Bool) (first p : Point) → packed_turn run (reading_of false f) f base (on_way begun place 0 run first p) ≡ advanced (on_way begun place' 0 run' first p) by)
      → Delivers place' run' moves → Delivers place run (by ∷ moves)
  unfolding turn_of
  packed_step place place' run run' by moves turn rest begun =
      steps f Packed base begun place 0 run place' 0 run' by moves (λ first p q m. turn begun first p ∙ advances (on_way begun place' 0 run' first p) by m) (rest true)

  -- the numbers of a forward run, from its next place on
  forward_run : {run : List ℕ} {moves : List RawPoint} → Splits run moves → (place next end : ℕ) (more : List RawPoint) → At f next run → next + length run ≤ end
      → Delivers place (forward_from (next + length run) end) more → Delivers place (forward_from next end) (moves ++ more)
  forward_run W.none place next end more here fits rest = rw add-zero at rest
  forward_run (W.some {w} {ws} {value} {moves} whole nonzero r) place next end more here fits rest = let long = some_bytes whole in
      let size : length (w ++ ws) ≡ length w + length ws = length-append w ws in
      let same : next + length (w ++ ws) ≡ next + length w + length ws = omega arith in
      let onward_run : forward_from next end ≡ Forward next end = more_forward next end (omega arith) in
      rw onward_run (packed_step place place (Forward next end) (forward_from (next + length w) end) (point_of value) (moves ++ more) (λ begun first p.
      forward_move (reading_of false f) f base (on_way begun place 0 (Forward next end) first p) next end (reads whole (at_first f next w ws here)) (λ z. omega arith))
      (forward_run r place (next + length w) end more (at_next f next w ws here) (omega arith) (rw same at rest)))

  -- those of a backward run, behind a clear byte
  backward_run : {run : List ℕ} {moves turned : List RawPoint} → Splits run moves → Turned moves turned → (place next end : ℕ) (more : List RawPoint)
      → get_or f next 0 < 128 → At f (suc next) run → end ≤ next → Delivers place (backward_from next end) more → Delivers place (backward_from (next + length run) end) (turned ++ more)
  backward_run W.none W.none place next end more clear here fits rest = rw add-zero rest
  backward_run (W.some {w} {ws} {value} whole nonzero r) (W.some {back = back} {turned = turned} away t) place next end more clear here fits rest =
      let long = some_bytes whole in let size : length (w ++ ws) ≡ length w + length ws = length-append w ws in
      let same : next + length w + length ws ≡ next + length (w ++ ws) = omega arith in
      let last : Delivers place (backward_from (next + length w) end) (back ∷ more) = rw (more_backward (next + length w) end (omega arith))
      (packed_step place place (Backward (next + length w) end) (backward_from next end) back more (λ begun first p. backward_move (reading_of false f) f base
      (on_way begun place 0 (Backward (next + length w) end) first p) (next + length w) end (reads_back whole clear (at_first f (suc next) w ws here)) (λ z. omega arith) (sym away)) rest) in
      rw (append_assoc turned (back ∷ []) more, ← same)
      (backward_run r t place (next + length w) end (back ∷ more) (stays_clear whole (at_first f (suc next) w ws here)) (rw suc-add at (at_next f (suc next) w ws here)) (omega arith) last)

-- the run that a piece's two numbers open, where nothing wraps
data_place_lem : (base low n : ℕ) → base + low < 2 ^ 32 → n % 2 ^ 32 ≡ low → base + low ≡ data_place base (pos n)
data_place_lem base low n h e = rw (e, mod-eq_of_lt h)

opens_forward : (base start size : ℕ) → base + start + size ≤ 2 ^ 30 → found (forward_from (base + start) (base + start + size)) ≡ opened base (as_i64 start) (pos size)
opens_forward base start zero h = rw (none_forward (base + start) (base + start + 0) (omega arith)) (none_opened base start)
opens_forward base start (suc k) h = let small : start % 2 ^ 32 ≡ start = mod-eq_of_lt (omega arith) in
    let from : base + start ≡ data_place base (pos start) = data_place_lem base start start (omega arith) small in
    let to : base + start + suc k ≡ data_place base (pos (start % 2 ^ 32 + suc k)) = add_assoc base start (suc k) ∙ data_place_lem base (start + suc k)
    (start % 2 ^ 32 + suc k) (omega arith) (rw small (mod-eq_of_lt (omega arith))) in
    rw (more_forward (base + start) (base + start + suc k) (omega arith), to, from) (forward_opened base start (omega arith) (suc k) (omega arith) (λ z. omega arith) (λ l. omega arith))

one_lower : (low size : ℕ) → low + 1 + size ≤ 2 ^ 30 → ((low + 1 + size) % 2 ^ 32 + 4294967295) % 2 ^ 32 ≡ low + size
one_lower low size h = let small : (low + 1 + size) % 2 ^ 32 ≡ low + 1 + size = mod-eq_of_lt (omega arith) in rw small (omega arith)

size_lower : (low k : ℕ) → low + 1 + suc k ≤ 2 ^ 30 → ((low + 1 + suc k) % 2 ^ 32 + 4294967295 + (4294967295 - k)) % 2 ^ 32 ≡ low
size_lower low k h = let small : (low + 1 + suc k) % 2 ^ 32 ≡ low + 1 + suc k = mod-eq_of_lt (omega arith) in rw small (omega arith)

opens_backward : (base low size : ℕ) → base + low + 1 + size ≤ 2 ^ 30 → found (backward_from (base + low + size) (base + low)) ≡ opened base (as_i64 (low + 1 + size)) (neg_ℤ (pos size))
opens_backward base low zero h = rw (none_backward (base + low + 0) (base + low) (omega arith)) (none_opened base (low + 1 + 0))
opens_backward base low (suc k) h = let stop = low + 1 + suc k in
    let from : base + low + suc k ≡ data_place base (pos (stop % 2 ^ 32 + 4294967295)) = add_assoc base low (suc k) ∙ data_place_lem base (low + suc k)
    (stop % 2 ^ 32 + 4294967295) (omega arith) (one_lower low (suc k) (omega arith)) in
    let to : base + low ≡ data_place base (pos (stop % 2 ^ 32 + 4294967295 + (4294967295 - k))) = data_place_lem base low _ (omega arith) (size_lower low k (omega arith)) in
    rw (more_backward (base + low + suc k) (base + low) (omega arith), from, to) (backward_opened base stop (omega arith) k (omega arith) (λ l. omega arith))

module _ (f : List ℕ) (base : ℕ) where
  -- 0 and a marker
  marked : (s : Reader) (mark : ℕ) → At f s.place (0 ∷ mark ∷ []) → mark < 128
      → (packed_turn Idle (reading_of false f) f base s ≡ marker (reading_of false f) base (onward s (s.place + 1) s.moves Idle)) × (numeral mark (s.place + 2) ≡ reading_of false f (s.place + 1))
  marked s mark here small = (
    turn_marker (reading_of false f) f base s (reads (one_byte 0 (lit< tt)) (at_first f s.place (0 ∷ []) (mark ∷ []) here)) refl,
    rw (← add_assoc s.place 1 1) (reads (one_byte mark small) (at_next f s.place (0 ∷ []) (mark ∷ []) here)),
  )

-- a reference of two numbers opens a run in which the moves are read
record Opens (f : List ℕ) (base place start size : ℕ) (moves : List RawPoint) : Type 0 where
  run : Run
  opens : found run ≡ opened base (as_i64 start) (signed_of size)
  delivers : Delivers f base place run moves

module _ (f : List ℕ) (base : ℕ) (earlier : List ℕ) (data_section : At f base earlier) (room : base + length earlier ≤ 2 ^ 30) where
  borrowed : {start size : ℕ} {lent : List RawPoint} → Borrowed earlier start size lent → (place : ℕ) (more : List RawPoint) → Delivers f base place Idle more
      → Opens f base place start size (lent ++ more)
  borrowed (W.forward before run after layout sized splits) place more rest = let low = base + length before in
      let inside : base + length before + length run ≤ 2 ^ 30 = omega (arith, ap length layout ∙ length-append before (run ++ after), length-append run after) in
      let here : At f low (run ++ after) = at_next f base before (run ++ after) (rw layout at data_section) in record {
        run = forward_from low (low + length run);
        opens = rw sized (opens_forward base (length before) (length run) inside);
        delivers = forward_run f base splits place low (low + length run) more (at_first f low run after here) (omega arith)
            (rw (none_forward (low + length run) (low + length run) (omega arith)) rest);
      }
  borrowed (W.backward before clear run after layout small sized splits turned) place more rest = let low = base + length before in
      let inside : base + length before + 1 + length run ≤ 2 ^ 30 = omega (arith, ap length layout ∙ length-append before (clear ∷ (run ++ after)), length-append run after) in
      let here : At f low (clear ∷ (run ++ after)) = at_next f base before (clear ∷ (run ++ after)) (rw layout at data_section) in
      let there : At f (suc low) (run ++ after) = rw add-one at (at_next f low (clear ∷ []) (run ++ after) here) in record {
        run = backward_from (low + length run) low;
        opens = rw sized (opens_backward base (length before) (length run) inside);
        delivers =
            backward_run f base splits turned place low low more (rw (at_head f low clear (run ++ after) here) small) (at_first f (suc low) run after there) (omega arith)
            (rw (none_backward low low (omega arith)) rest);
      }

  pub packed : {bytes : List ℕ} {moves : List RawPoint} → Version1 earlier bytes moves → (place : ℕ) → At f place bytes → Delivers f base place Idle moves
  unfolding turn_of
  packed W.closes place here begun =
      closes_with f Packed base begun place 0 Idle (place + 2) 0 (λ first p. let s = on_way begun place 0 Idle first p in let mark = marked f base s 0 here
      (lit< tt) in mark.0 ∙ mark_closes (reading_of false f) f base (onward s (place + 1) 0 Idle) mark.1 refl)
  packed (W.step {w} {bytes} {value} {more} whole nonzero r) place here begun =
      packed_step f base place (place + length w) Idle Idle (point_of value) more (λ begun first p. turn_move (reading_of false f) f base (on_way begun place 0 Idle first p)
      (reads whole (at_first f place w bytes here)) (λ z. omega arith)) (λ t. packed r (place + length w) (at_next f place w bytes here) t) begun
  packed (W.borrows {start} {size} {w} {w'} {bytes} {lent} {more} whole whole' piece r) place here begun =
      let numbers = at_next f place (0 ∷ 1 ∷ []) (w ++ (w' ++ bytes)) here in let after = place + 2 + length w in
      let next = at_next f (place + 2) w (w' ++ bytes) numbers in
      let opening = borrowed piece (after + length w') more (λ t. packed r (after + length w') (at_next f after w' bytes next) t) in
      reads_on f Packed base begun place 0 Idle (after + length w') 0 opening.run (lent ++ more) (λ first p. let s = on_way begun place 0 Idle first p in
      let mark = marked f base s 1 (at_first f place (0 ∷ 1 ∷ []) (w ++ (w' ++ bytes)) here) (lit< tt) in mark.0 ∙ mark_opens (reading_of false f) f base
      (onward s (place + 1) 0 Idle) mark.1 (λ z. omega arith) refl ∙ reference_opens (reading_of false f) f base (onward s (place + 2) 0 Idle)
      (reads whole (at_first f (place + 2) w (w' ++ bytes) numbers)) (reads whole' (at_first f after w' bytes next)) opening.opens) (opening.delivers begun)
