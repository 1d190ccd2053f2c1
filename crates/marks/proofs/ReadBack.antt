-- A mark that stands in words gives its stretch back: the corners of the box, the first point, and the state there. Assumes nothing.
use Rattle.numbers.proofs.{Coordinates.{read_back}, Prelude.{ℕ, ◌+◌, ◌^◌, ◌<◌, ltb-true, not-true, ltb, ℤ, length, get_or, length-append, List·getD-append, get_or-append-add, mag, le_z, Bool, true}}
use Rattle.numbers.{proofs.{Prelude.{false, not, List, ◌++◌, ◌≡◌, refl, sym, ap, ◌∙◌, mod-eq_of_lt, arith}, Tests.{both}}, specs.{Answer.{if◌then◌else◌}, Point.{read_i32}}}
use Rattle.border.specs.{Box.{Box, min_z, max_z, grown}, Place.{point_at}, declared.{place.Point.{Point}, reader.{Reader.{Reader}, Run.{Run, TheVariants.{Idle, Forward, Backward}}}}}
use Rattle.verdict.specs.Edge.{same_point}
use Rattle.marks.specs.{Marks.{word_of, low, kind_of, next_of, end_of, mark_of, is_short, is_short_run, is_narrow, is_markable}, Words.{point_in, run_of, low_in, high_in, start_in, state_in}}
use Rattle.marks.proofs.Boxes.{same_point_is}

-- ---- words at a place
-- these words stand from a place on
abbrev pub At : List ℕ → ℕ → List ℕ → Type 0
At words at xs = (i : ℕ) → i < length xs → get_or words (at + i) 0 ≡ get_or xs i 0

pub at_left : (words : List ℕ) (at : ℕ) (xs ys : List ℕ) → At words at (xs ++ ys) → At words at xs
at_left words at xs ys h i l = h i (omega (arith, l, length-append xs ys)) ∙ List·getD-append xs ys 0 i l

pub at_right : (words : List ℕ) (at : ℕ) (xs ys : List ℕ) → At words at (xs ++ ys) → At words (at + length xs) ys
at_right words at xs ys h i l = let e : at + length xs + i ≡ at + (length xs + i) = omega arith in
    ap (λ (k : ℕ). get_or words k 0) e ∙ h (length xs + i) (omega (arith, l, length-append xs ys)) ∙ get_or-append-add xs ys i 0

-- ---- coordinates
-- a coordinate is known by its bits
narrow_back : (z : ℤ) → ltb (mag z) (2 ^ 31) ≡ true → read_i32 (word_of z) ≡ z
narrow_back z h = read_back z (record { sfits = ltb-true (mag z) (2 ^ 31) h })

-- a point whose words stand there
point_back : (words : List ℕ) (at : ℕ) (p : Point) → is_narrow p ≡ true → get_or words at 0 ≡ word_of p.lat.0 → get_or words (at + 1) 0 ≡ word_of p.lon.0 → point_in words at ≡ p
point_back words at p narrow lat lon = let fits = both (ltb (mag p.lat.0) (2 ^ 31)) (ltb (mag p.lon.0) (2 ^ 31)) narrow in
    λ i. point_at ((ap read_i32 lat ∙ narrow_back p.lat.0 fits.0) i) ((ap read_i32 lon ∙ narrow_back p.lon.0 fits.1) i)

short : (n : ℕ) → is_short n ≡ true → low n ≡ n
short n h = mod-eq_of_lt (ltb-true n (2 ^ 32) h)

run_back : (run : Run) → is_short_run run ≡ true → run_of (kind_of run) (low (next_of run)) (low (end_of run)) ≡ run
unfolding run_of kind_of next_of end_of
run_back Idle h = refl
run_back (Forward next end) h = let e = both (is_short next) (is_short end) h in λ i. Forward (short next e.0 i) (short end e.1 i)
run_back (Backward next end) h = let e = both (is_short next) (is_short end) h in λ i. Backward (short next e.0 i) (short end e.1 i)

-- ---- narrow boxes
pub record Narrow (box : Box) : Type 0 where
  pub low : is_narrow box.low ≡ true
  pub high : is_narrow box.high ≡ true

either : (b : Bool) (y z : ℤ) → ltb (mag y) (2 ^ 31) ≡ true → ltb (mag z) (2 ^ 31) ≡ true → ltb (mag (if b then y else z)) (2 ^ 31) ≡ true
either true y z h k = h
either false y z h k = k

parts : (p : Point) → is_narrow p ≡ true → (ltb (mag p.lat.0) (2 ^ 31) ≡ true) × (ltb (mag p.lon.0) (2 ^ 31) ≡ true)
parts p h = both (ltb (mag p.lat.0) (2 ^ 31)) (ltb (mag p.lon.0) (2 ^ 31)) h

pub grown_narrow : (box : Box) (p : Point) → Narrow box → is_narrow p ≡ true → Narrow (grown box p)
unfolding min_z max_z
grown_narrow box p n h = let l = parts box.low n.low in let u = parts box.high n.high in let q = parts p h in record {
  low = rw (either (le_z box.low.lat.0 p.lat.0) box.low.lat.0 p.lat.0 l.0 q.0)
      (either (le_z box.low.lon.0 p.lon.0) box.low.lon.0 p.lon.0 l.1 q.1);
  high = rw (either (le_z box.high.lat.0 p.lat.0) p.lat.0 box.high.lat.0 q.0 u.0)
      (either (le_z box.high.lon.0 p.lon.0) p.lon.0 box.high.lon.0 q.1 u.1);
}

-- ---- a state that its mark gives back
pub record Markable (first : Point) (s : Reader) : Type 0 where
  pub begun : s.begun ≡ true
  pub closed : s.closed ≡ false
  pub starts : s.first ≡ first
  pub place : is_short s.place ≡ true
  pub moves : is_short s.moves ≡ true
  pub run : is_short_run s.run ≡ true
  pub narrow : is_narrow s.point ≡ true

pub markable : (first : Point) (s : Reader) → is_markable first s ≡ true → Markable first s
unfolding is_markable
markable first s e = let a = both s.begun _ e in let b = both (not s.closed) _ a.1 in let c = both (same_point s.first first) _ b.1 in
    let d = both (is_short s.place) _ c.1 in let f = both (is_short s.moves) _ d.1 in
    let g = both (is_short_run s.run) (is_narrow s.point) f.1 in
    record { begun = a.0; closed = not-true s.closed b.0; starts = same_point_is s.first first c.0; place = d.0; moves = f.0; run = g.0; narrow = g.1 }

module _ (words : List ℕ) (at : ℕ) (s : Reader) (box : Box) (here : At words at (mark_of s box)) where
  at_zero : get_or words at 0 ≡ word_of box.low.lat.0
  at_zero = let e : at ≡ at + 0 = omega arith in ap (λ (k : ℕ). get_or words k 0) e ∙ here 0 (omega arith)

  third : (k j : ℕ) → at + k + j ≡ at + (k + j)
  third k j = omega arith

  pub low_back : Narrow box → low_in words at ≡ box.low
  low_back n = point_back words at box.low n.low at_zero (here 1 (omega arith))

  pub high_back : Narrow box → high_in words at ≡ box.high
  high_back n = point_back words (at + 2) box.high n.high (here 2 (omega arith)) (ap (λ (k : ℕ). get_or words k 0) (third 2 1) ∙ here 3 (omega arith))

  pub start_back : is_narrow s.point ≡ true → start_in words at ≡ s.point
  start_back n = point_back words (at + 4) s.point n (here 4 (omega arith)) (ap (λ (k : ℕ). get_or words k 0) (third 4 1) ∙ here 5 (omega arith))

  pub state_back : (first : Point) → Markable first s → state_in words at first ≡ s
  state_back first m = let run = (λ i. run_of (here 8 (omega arith) i) (here 9 (omega arith) i) (here 10 (omega arith) i)) ∙ run_back s.run m.run in
      let place = here 6 (omega arith) ∙ short s.place m.place in let moves = here 7 (omega arith) ∙ short s.moves m.moves in
      let point = start_back m.narrow in
      λ i. record { place = place i; moves = moves i; begun = sym m.begun i; closed = sym m.closed i; run = run i; point = point i; first = sym m.starts i }
