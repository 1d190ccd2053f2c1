-- Points strictly inside one quadrant about a location leave the winding as it is. Assumes nothing.
use Rattle.numbers.proofs.{Answers.{All}, Laws.{Read, Before, backward_read}, Prelude.{ℕ, ◌+◌, ◌-◌, ◌%◌, ◌^◌, ◌≤◌, ◌<◌, lt-ltb, le-leb, leb-true, ltb-true, lt-leb, ℤ, pos, negsuc, ◌+ℤ◌, length, mag}}
use Rattle.numbers.proofs.{Prelude.{lt_z, le_z, Bool, true, false, ◌&&◌, ◌||◌, not, List, ◌≡◌, refl, sym, ap, subst, ◌∙◌, w32, SFits, le_refl, arith}, Readings.{reading_read}, Tests.{differ, both}}
use Rattle.numbers.specs.{Answer.{found, checked, if◌then◌else◌}, Point.{signed_of, point_of}, Varint.{Numeral, numeral, reading_of, backward_at}, declared.point.RawPoint.{RawPoint}}
use mathlib.Core.Bool.{and-false, or-true}
use Rattle.border.{proofs.{Trace.{gives_trace}, reader.Turns.{open_packed, open_plain, turn_move, backward_move, advances, counted_before, pair_read, pair_moves}}, specs.Encoding.{encoded_by}}
use Rattle.border.specs.{Place.{point_at, move_by, is_still, moved_by, negated}, Reader.{shown_by, advanced, backward_from}, Trace.{Trace, point, trace_of}, declared.place.Point.{Point}}
use Rattle.border.specs.declared.reader.{Encoding.{Encoding}, Reader.{Reader}, Run.{Run, TheVariants.{Idle, Backward}}, Version.{Version, TheVariants.{Plain, Packed}}}
use Rattle.verdict.specs.{Distance.{measured}, Edge.{same_z, same_point, straight, between, in_box, quadrant_of}, Verdict.{after, along, passing, then_on, judge}}
use Rattle.verdict.specs.{Winding.{quarter_by, clear_of, wound_by}, declared.{field.{Field.{Field}, Span.{Span}}, step.Tally.{Tally}}}
use Rattle.verdict.specs.inner.Gliding.{same_side, in_one_quadrant, in_span, beside, aside, within, Glides, stays, glides, GlidesTo, standing, GlidesForth, GlidesBack, GlidesPlain, points, Calm}
use Rattle.border.specs.declared.reader.Turn.TheVariants.{Gives as gives}
use Rattle.verdict.specs.Step as S

-- ---- the order of whole numbers

pub less_le : (x a : ℤ) → lt_z x a ≡ true → (le_z x a ≡ true) × (le_z a x ≡ false)
less_le (pos n) (pos m) e = (le-leb n m (omega (arith, ltb-true n m e)), lt-leb m n (ltb-true n m e))
less_le (pos n) (negsuc m) e = differ e
less_le (negsuc n) (pos m) e = (refl, refl)
less_le (negsuc n) (negsuc m) e = (le-leb m n (omega (arith, ltb-true m n e)), lt-leb n m (ltb-true m n e))

pub le_less : (x a b : ℤ) → le_z x a ≡ true → lt_z a b ≡ true → lt_z x b ≡ true
le_less (pos x) (pos a) (pos b) h k = lt-ltb x b (omega (arith, leb-true x a h, ltb-true a b k))
le_less (pos x) (pos a) (negsuc b) h k = differ k
le_less (pos x) (negsuc a) b h k = differ h
le_less (negsuc x) (pos a) (pos b) h k = refl
le_less (negsuc x) (pos a) (negsuc b) h k = differ k
le_less (negsuc x) (negsuc a) (pos b) h k = refl
le_less (negsuc x) (negsuc a) (negsuc b) h k = lt-ltb b x (omega (arith, leb-true a x h, ltb-true b a k))

pub less_le_less : (a b x : ℤ) → lt_z a b ≡ true → le_z b x ≡ true → lt_z a x ≡ true
less_le_less (pos a) (pos b) (pos x) h k = lt-ltb a x (omega (arith, ltb-true a b h, leb-true b x k))
less_le_less (pos a) (pos b) (negsuc x) h k = differ k
less_le_less (pos a) (negsuc b) x h k = differ h
less_le_less (negsuc a) (pos b) (pos x) h k = refl
less_le_less (negsuc a) (pos b) (negsuc x) h k = differ k
less_le_less (negsuc a) (negsuc b) (pos x) h k = refl
less_le_less (negsuc a) (negsuc b) (negsuc x) h k = lt-ltb x a (omega (arith, ltb-true b a h, leb-true x b k))

-- how two numbers on one side of x compare with it: alike, and not both ways
record Compared (x a b : ℤ) : Type 0 where
  up : Bool
  left : le_z x a ≡ up
  left_back : le_z a x ≡ not up
  right : le_z x b ≡ up
  right_back : le_z b x ≡ not up

compared : (x a b : ℤ) → same_side x a b ≡ true → Compared x a b
unfolding same_side
compared x a b e = by (lt_z x a && lt_z x b) refl e where
  by : (t : Bool) → (lt_z x a && lt_z x b) ≡ t → (t || (lt_z a x && lt_z b x)) ≡ true → Compared x a b
  by true l r = let h = both (lt_z x a) (lt_z x b) l in let p = less_le x a h.0 in let q = less_le x b h.1 in
      record { up = true; left = p.0; left_back = p.1; right = q.0; right_back = q.1 }
  by false l r = let h = both (lt_z a x) (lt_z b x) r in let p = less_le a x h.0 in let q = less_le b x h.1 in
      record { up = false; left = p.1; left_back = p.0; right = q.1; right_back = q.0 }

-- the fix lies outside the two numbers' range, and is neither
outside : {x a b : ℤ} → Compared x a b → (between b x a ≡ false) × (same_z b x ≡ false)
unfolding between
outside h = rw (h.left, h.left_back, h.right, h.right_back) (never h.up) where
  never : (t : Bool) → (((not t && t) || (not t && t)) ≡ false) × ((not t && t) ≡ false)
  never true = (refl, refl)
  never false = (refl, refl)

abbrev quadrant : Bool → Bool → ℕ
quadrant north east = if north then (if east then 0 else 1) else (if east then 3 else 2)

on_none : (t u : Bool) → (quadrant t u + 4 - quadrant t u) % 4 ≡ 0
on_none true true = refl
on_none true false = refl
on_none false true = refl
on_none false false = refl

module _ (fix from to : Point) (inside : in_one_quadrant fix from to ≡ true) where
  by_lat : Compared fix.lat.0 from.lat.0 to.lat.0
  unfolding in_one_quadrant
  by_lat = compared _ _ _ (both _ (same_side fix.lon.0 from.lon.0 to.lon.0) inside).0

  by_lon : Compared fix.lon.0 from.lon.0 to.lon.0
  unfolding in_one_quadrant
  by_lon = compared _ _ _ (both (same_side fix.lat.0 from.lat.0 to.lat.0) _ inside).1

  no_vertex : same_point to fix ≡ false
  unfolding same_point
  no_vertex = rw (outside by_lat).1

  no_quarters : (quadrant_of fix to + 4 - quadrant_of fix from) % 4 ≡ 0
  unfolding quadrant_of
  no_quarters = rw (by_lat.left, by_lat.right, by_lon.left, by_lon.right) (on_none by_lat.up by_lon.up)

  clear : (tally : Tally) → clear_of fix from to tally ≡ S.found tally
  unfolding clear_of in_box
  clear tally = rw ((outside by_lat).0, and-false (straight from to))

  gliding_winds : (tally : Tally) → wound_by fix from to tally ≡ S.found tally
  unfolding wound_by quarter_by
  gliding_winds tally = rw no_quarters (clear tally)

  -- An edge strictly inside one quadrant about the fix neither turns about it nor meets it: what is left of the step is its distance.
  pub gliding_measures : (asked : Bool) (tally : Tally) → passing fix asked (after from) to tally ≡ measured asked fix from to tally
  unfolding passing along
  gliding_measures asked tally = rw (no_vertex, gliding_winds tally)

  -- Where no distance is asked for, it changes nothing.
  pub gliding_keeps : (tally : Tally) → passing fix false (after from) to tally ≡ S.found tally
  unfolding measured
  gliding_keeps tally = gliding_measures false tally

-- ---- fields

pub le_self : (x : ℤ) → le_z x x ≡ true
le_self (pos n) = le-leb n n (le_refl n)
le_self (negsuc n) = le-leb n n (le_refl n)

-- the numbers above x, and those below
pub beside_above : (x high : ℤ) → beside x (record { low = x; high = high }) ≡ true
unfolding beside
beside_above x high = rw (le_self x)

pub beside_below : (x low : ℤ) → beside x (record { low = low; high = x }) ≡ true
unfolding beside
beside_below x low = rw (le_self x) (or-true (le_z x low))

same_in_span : (x : ℤ) (span : Span) (a b : ℤ) → beside x span ≡ true → in_span span a ≡ true → in_span span b ≡ true → same_side x a b ≡ true
unfolding beside in_span same_side
same_in_span x span a b e h k = by (le_z x span.low) refl e where
  p : (lt_z span.low a ≡ true) × (lt_z a span.high ≡ true)
  p = both (lt_z span.low a) (lt_z a span.high) h

  q : (lt_z span.low b ≡ true) × (lt_z b span.high ≡ true)
  q = both (lt_z span.low b) (lt_z b span.high) k

  by : (t : Bool) → le_z x span.low ≡ t → (t || le_z span.high x) ≡ true → ((lt_z x a && lt_z x b) || (lt_z a x && lt_z b x)) ≡ true
  by true l r = rw (le_less x span.low a l p.0, le_less x span.low b l q.0)
  by false l r = rw (less_le_less a span.high x p.1 r, less_le_less b span.high x q.1 r) (or-true (lt_z x a && lt_z x b))

pub aside_of : (fix : Point) (field : Field) → beside fix.lat.0 field.lat ≡ true → beside fix.lon.0 field.lon ≡ true → aside fix field ≡ true
unfolding aside
aside_of fix field h k = rw (h, k)

pub within_both : (field : Field) (p : Point) → within field p ≡ true → (in_span field.lat p.lat.0 ≡ true) × (in_span field.lon p.lon.0 ≡ true)
unfolding within
within_both field p h = both (in_span field.lat p.lat.0) (in_span field.lon p.lon.0) h

pub within_of : (field : Field) (p : Point) → in_span field.lat p.lat.0 ≡ true → in_span field.lon p.lon.0 ≡ true → within field p ≡ true
unfolding within
within_of field p h k = rw (h, k)

module _ (fix : Point) (field : Field) (beyond : aside fix field ≡ true) where
  -- any two of its points lie in one quadrant
  pub field_quadrant : (from to : Point) → within field from ≡ true → within field to ≡ true → in_one_quadrant fix from to ≡ true
  unfolding aside in_one_quadrant
  field_quadrant from to h k = let b = both (beside fix.lat.0 field.lat) (beside fix.lon.0 field.lon) beyond in
      let p = within_both field from h in let q = within_both field to k in
      rw (same_in_span _ _ _ _ b.0 p.0 q.0, same_in_span _ _ _ _ b.1 p.1 q.1)

-- between the ends of an i32's span there are only i32s
pub span_fits : (span : Span) (x : ℤ) → SFits w32 span.low → SFits w32 span.high → in_span span x ≡ true → SFits w32 x
unfolding in_span
span_fits span x f g h = let p = both (lt_z span.low x) (lt_z x span.high) h in record { sfits = go span.low span.high x f.sfits g.sfits p.0 p.1 } where
  go : (low high x : ℤ) → mag low < 2 ^ 31 → mag high < 2 ^ 31 → lt_z low x ≡ true → lt_z x high ≡ true → mag x < 2 ^ 31
  go low (pos b) (pos n) f g h k = omega (arith, g, ltb-true n b k)
  go low (negsuc b) (pos n) f g h k = differ k
  go (pos a) high (negsuc n) f g h k = differ h
  go (negsuc a) high (negsuc n) f g h k = omega (arith, f, ltb-true n a h)

pub fits : (z : ℤ) → mag z < 2 ^ 31 → SFits w32 z
fits z h = record { sfits = h }

pub in_span_lem : (span : Span) (x : ℤ) → SFits w32 span.low → SFits w32 span.high → lt_z span.low x ≡ true → (lt_z x span.high ≡ in_span span x) × (lt_z x span.high ≡ true → mag x < 2 ^ 31)
unfolding in_span
in_span_lem span x f g h = (rw h, λ e. (span_fits span x f g (rw (h, e))).sfits)

pub not_in_span : (span : Span) (x : ℤ) → lt_z span.low x ≡ false → (false ≡ in_span span x) × (false ≡ true → mag x < 2 ^ 31)
unfolding in_span
not_in_span span x h = (rw h, λ e. differ e)

-- the move that leads to two sums
pub moved_to : (p : Point) (by : RawPoint) → SFits w32 (p.lat.0 +ℤ by.lat) → SFits w32 (p.lon.0 +ℤ by.lon) → found (point_at (p.lat.0 +ℤ by.lat) (p.lon.0 +ℤ by.lon)) ≡ moved_by p by
unfolding moved_by checked
moved_to p by f g = rw (lt-ltb _ _ f.sfits, lt-ltb _ _ g.sfits)

pub quadrant_calm : (fix : Point) (tally : Tally) (field : Field) → aside fix field ≡ true → Calm fix false tally field
quadrant_calm fix tally field beyond = record { keeps = λ from to h k. gliding_keeps fix from to (field_quadrant fix field beyond from to h k) tally }

module _ {fix : Point} {asked : Bool} {tally : Tally} {field : Field} (calm : Calm fix asked tally field) where
  glide_point : (from to : Point) → within field from ≡ true → within field to ≡ true → (trace : Trace) → judge fix asked (after to) tally trace ≡ judge fix asked (after from) tally (point to trace)
  unfolding judge then_on
  glide_point from to h k trace = rw (calm.keeps from to h k)

  -- A border whose next points stay in a calm field is judged as what is left of it after the last of them.
  pub glide_trace : (from : Point) {last : Point} {trace rest : Trace} → within field from ≡ true → Glides field from trace last rest
      → judge fix asked (after last) tally rest ≡ judge fix asked (after from) tally trace
  glide_trace from h stays = refl
  glide_trace from h (glides {to = to} {trace = trace} k g) = glide_trace to k g ∙ glide_point from to h k trace

-- ---- traces

glides_on : {field : Field} {from mid to : Point} {trace here rest : Trace} → Glides field from trace mid here → point to rest ≡ here → within field to ≡ true → Glides field from trace to rest
glides_on {field} {mid = mid} {to = to} {rest = rest} stays e h = subst (λ (t : Trace). Glides field mid t to rest) e (glides h stays)
glides_on (glides k g) e h = glides k (glides_on g e h)

pub glides_shorter : {field : Field} {from last : Point} {trace rest : Trace} → Glides field from trace last rest → points rest ≤ points trace
unfolding points
glides_shorter stays = le_refl _
glides_shorter (glides h g) = let shorter = glides_shorter g in omega (arith, shorter)

pub point_shorter : {to : Point} {here rest : Trace} → point to rest ≡ here → points rest < points here
unfolding points
point_shorter {to} {rest = rest} e = subst (λ (t : Trace). points rest < points t) e (le_refl _)

-- ---- version 1

module _ (f : List ℕ) (strict : Bool) (field : Field) where
  pub forth_stays : (place : ℕ) (p : Point) → GlidesForth f strict field place p place p
  forth_stays place p = record { forth = λ base moves first. stays }

  -- outside a reference a number that is not 0 leads on, inside the field
  pub forth_on : {start mid : ℕ} {from p : Point} → GlidesForth f strict field start from mid p → {value next : ℕ} {to : Point} → numeral value next ≡ reading_of strict f mid
      → (value ≡ 0 → ⊥) → found to ≡ moved_by p (point_of value) → within field to ≡ true → GlidesForth f strict field start from next to
  forth_on {mid = mid} {p = p} h {value} {next} {to} read n moved inside =
      record {
        forth = λ base moves first.
            let here = standing first mid moves Idle p in
            glides_on (h.forth base moves first)
            (gives_trace f (encoded_by strict Packed base) here (standing first next moves Idle to)
            (sym (open_packed strict f base here refl ∙ turn_move (reading_of strict f) f base here read n ∙ advances (standing first next moves Idle p) (point_of value) moved)))
            inside;
      }

  -- whatever was read at a place leaves less of the file
  pub less_left : (place : ℕ) {value next : ℕ} → numeral value next ≡ reading_of strict f place → length f - next < length f - place
  less_left place e = let read = subst (All (λ (number : Numeral). Read f place number.value number.place)) (sym e) (reading_read strict f place) in omega (arith, read.inside, read.grows)

module _ (f : List ℕ) (field : Field) (end : ℕ) where
  pub back_stays : (next : ℕ) (p : Point) → GlidesBack f field end next p next p
  back_stays next p = record { back = λ strict base place moves first. stays }

  still_backward : (next : ℕ) → end < next → backward_from next end ≡ Backward next end
  unfolding backward_from
  still_backward next h = rw (lt-leb next end h)

  -- inside a backward one too, before the last move
  pub back_on : {start mid : ℕ} {from p : Point} → GlidesBack f field end start from mid p → {value next : ℕ} {by : RawPoint} {to : Point}
      → numeral value next ≡ backward_at f mid → (value ≡ 0 → ⊥) → end < next → found by ≡ negated (point_of value) → found to ≡ moved_by p by → within field to ≡ true
      → GlidesBack f field end start from next to
  back_on {mid = mid} {p = p} h {value} {next} {by} {to} read n more negated moved inside =
      record {
        back = λ strict base place moves first.
            let here = standing first place moves (Backward mid end) p in
            glides_on (h.back strict base place moves first)
            (gives_trace f (encoded_by strict Packed base) here (standing first place moves (Backward next end) to)
            (sym (open_packed strict f base here refl
            ∙ backward_move (reading_of strict f) f base here mid end read n negated
            ∙ ap (λ (run : Run). advanced (standing first place moves run p) by) (still_backward next more)
            ∙ advances (standing first place moves (Backward next end) p) by moved)))
            inside;
      }

  -- whatever was read backward stands lower
  pub less_below : (place : ℕ) {value next : ℕ} → numeral value next ≡ backward_at f place → next < place
  less_below place e = (subst (All (Before f place)) (sym e) (backward_read f place)).falls

-- ---- version 0

module _ (f : List ℕ) (strict : Bool) (field : Field) where
  pub plain_stays : (place moves : ℕ) (p : Point) → GlidesPlain f strict field place moves p place moves p
  plain_stays place moves p = record { plainly = λ base first. stays }

  shown_moved : (s : Reader) (by : RawPoint) → is_still by ≡ false → found (shown_by by s) ≡ found (gives s)
  shown_moved s by h = rw h

  -- a move that is not nothing leads on, inside the field
  pub plain_on : {start count mid moves : ℕ} {from p : Point} → GlidesPlain f strict field start count from mid moves p → {lat lon middle next : ℕ} {to : Point}
      → numeral lat middle ≡ reading_of strict f mid → numeral lon next ≡ reading_of strict f middle → 0 < moves → is_still (move_by (signed_of lat) (signed_of lon)) ≡ false
      → found to ≡ moved_by p (move_by (signed_of lat) (signed_of lon)) → within field to ≡ true → GlidesPlain f strict field start count from next (moves - 1) to
  plain_on {mid = mid} {moves = moves} {p = p} h {lat} {lon} {middle} {next} {to} read second more stirs moved inside =
      record {
        plainly = λ base first.
            let here = standing first mid moves Idle p in
            let by = move_by (signed_of lat) (signed_of lon) in
            let there = standing first next moves Idle p in
            glides_on (h.plainly base first)
            (gives_trace f (encoded_by strict Plain base) here (standing first next (moves - 1) Idle to)
            (sym (open_plain strict f base here refl
            ∙ counted_before (reading_of strict f) here refl
            ∙ pair_read (reading_of strict f) f base here read second
            ∙ pair_moves there by (λ e. omega (arith, e, more)) moved
            ∙ shown_moved (standing first next (moves - 1) Idle to) by stirs)))
            inside;
      }

-- ---- any state

-- with the points that were kept of the two states
pub carried : (f : List ℕ) (encoding : Encoding) (fix : Point) (asked : Bool) (tally : Tally) (s r : Reader) (p q : Point) {field : Field} → Calm fix asked tally field
    → within field s.point ≡ true → GlidesTo f encoding field s r → p ≡ r.point → q ≡ s.point
    → judge fix asked (after p) tally (trace_of f encoding r) ≡ judge fix asked (after q) tally (trace_of f encoding s)
carried f encoding fix asked tally s r p q calm inside g h k =
    ap (λ (o : Point). judge fix asked (after o) tally (trace_of f encoding r)) h ∙ glide_trace calm s.point inside g
    ∙ ap (λ (o : Point). judge fix asked (after o) tally (trace_of f encoding s)) (sym k)

module _ (s : Reader) (begun : s.begun ≡ true) (unclosed : s.closed ≡ false) {run : Run} (runs : s.run ≡ run) where
  stands : s ≡ standing s.first s.place s.moves run s.point
  stands =
      ap (λ (t : Bool). record { place = s.place; moves = s.moves; begun = t; closed = s.closed; run = s.run; point = s.point; first = s.first }) begun
      ∙ ap (λ (t : Bool). record { place = s.place; moves = s.moves; begun = true; closed = t; run = s.run; point = s.point; first = s.first }) unclosed
      ∙ ap (λ (r : Run). record { place = s.place; moves = s.moves; begun = true; closed = false; run = r; point = s.point; first = s.first }) runs

  pub from_standing : (f : List ℕ) (encoding : Encoding) (field : Field) (r : Reader) → GlidesTo f encoding field (standing s.first s.place s.moves run s.point) r
      → GlidesTo f encoding field s r
  from_standing f encoding field r g = subst (λ (t : Reader). Glides field s.point (trace_of f encoding t) r.point (trace_of f encoding r)) (sym stands) g

-- an encoding of a known version
pub of_version : (f : List ℕ) (encoding : Encoding) (field : Field) (s r : Reader) {version : Version} → encoding.version ≡ version
    → GlidesTo f (encoded_by encoding.strict version encoding.«data») field s r → GlidesTo f encoding field s r
of_version f encoding field s r e g = subst (λ (v : Version). GlidesTo f (encoded_by encoding.strict v encoding.«data») field s r) (sym e) g
