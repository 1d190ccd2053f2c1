-- The distance, asked for or not, does not change the verdict: where the border is answered with it, it is answered without it, and alike.
-- Assumes nothing.
use Rattle.numbers.proofs.Prelude.{ℕ, ◌+◌, ◌-◌, ◌%◌, ◌^◌, min, eqb, ltb, ℤ, pos, negsuc, ◌+ℤ◌, ◌-ℤ◌, mag, Bool, true, false, ◌&&◌, List, ◌⊎◌, inl, inr, ◌≡◌, refl, sym, ap, subst, ◌∙◌, arith}
use Rattle.numbers.specs.Answer.{if◌then◌else◌}
use Rattle.std.proofs.Common.{◌*ℤ◌}
use Rattle.border.specs.{Trace.{Trace, point, closed}, declared.{place.{FixedLat.{FixedLat}, FixedLon.{FixedLon}, Point.{Point}}, reader.Encoding.{Encoding}}}
use Rattle.verdict.specs.{Distance.{squared, to_segment, to_vertex, distance_of, measured}, Edge.{same_z, same_point, straight, in_box, quadrant_of, spot_of, edge_of, closest_on, cut_of}, Step.{Step}}
use Rattle.verdict.specs.{Step.{found, meets, ◌>>=◌, checked}, Verdict.{Judgement, reached, failed, refused, Last, none, after, along, passing, on_border, closed_at, then_on, judge, judged_at}}
use Rattle.verdict.specs.{Winding.{turned, quarter_by, turn_at, crossing_of, across_by, clear_of, wound_by}, declared.edge.Edge.{Edge, TheVariants.{Sloped, EqualLongitude, EqualLatitude}}}
use Rattle.verdict.specs.declared.step.{Tally.{Tally}, Verdict.{Verdict, TheVariants.{NotInZone, InZone, InExcludedZone, OnBorderVertex, OnBorderSegment}}}
use Rattle.border.specs.Trace as T
use Rattle.verdict.specs.Step as S

-- ---- a distance is found or refused by 13, and meets no border

abbrev Plain : {A : Type 0} → Step A → Type 0
Plain (found a) = Unit
Plain (meets v) = ⊥
Plain (S.refused n) = n ≡ 13

bound_plain : {A B : Type 0} (m : Step A) (k : A → Step B) → Plain m → ((a : A) → Plain (k a)) → Plain (m >>= k)
bound_plain (found a) k h g = g a
bound_plain (meets v) k h g = absurd h
bound_plain (S.refused n) k h g = h

if_plain : {A : Type 0} (t : Bool) (m n : Step A) → Plain m → Plain n → Plain (if t then m else n)
if_plain true m n h g = h
if_plain false m n h g = g

checked_plain : (bits : ℕ) (z : ℤ) → Plain (checked bits z)
unfolding checked
checked_plain bits z = if_plain (ltb (mag z) (2 ^ bits)) _ _ tt refl

squared_plain : (lat lon : ℤ) → Plain (squared lat lon)
unfolding squared
squared_plain lat lon =
    bound_plain (checked 63 (lat *ℤ lat)) _ (checked_plain 63 _) (λ y. bound_plain (checked 63 (lon *ℤ lon)) _ (checked_plain 63 _) (λ x. tt))

distance_plain : (fix from to : Point) → Plain (distance_of fix from to)
unfolding distance_of to_segment to_vertex
distance_plain fix from to =
    if_plain (in_box to (cut_of (closest_on (edge_of from to) (spot_of fix))) from) _ _ (squared_plain _ _) (bound_plain (checked 31 (to.lat.0 -ℤ fix.lat.0)) _
    (checked_plain 31 _) (λ lat. bound_plain (checked 31 (to.lon.0 -ℤ fix.lon.0)) _ (checked_plain 31 _) (λ lon. squared_plain lat lon)))

-- a step with the distance and one without it, and a judgement with and without
module _ (d : ℕ) where
  abbrev pub with : Tally → Tally
  with t = record { winding = t.winding; least = d }

  abbrev pub kept : Tally → Step Tally
  kept t = found (with t)

  abbrev Alike : Step Tally → Step Tally → Type 0
  Alike (found t) m = m ≡ found (with t)
  Alike (meets v) m = m ≡ meets v
  Alike (S.refused n) m = (n ≡ 13) ⊎ (m ≡ S.refused n)

  abbrev pub Agrees : Judgement → Judgement → Type 0
  Agrees (reached v least) o = o ≡ reached v d
  Agrees (failed least) o = o ≡ failed d
  Agrees (refused n) o = (n ≡ 13) ⊎ (o ≡ refused n)

  -- ---- the winding does not look at the distance

  through : (t : Bool) (a b a' b' : Step Tally) → a' ≡ (a >>= kept) → b' ≡ (b >>= kept) → (if t then a' else b') ≡ ((if t then a else b) >>= kept)
  through true a b a' b' p q = p
  through false a b a' b' p q = q

  sum_kept : (m : Step ℤ) (t : Tally) → (m >>= λ w. found (record { winding = w; least = d })) ≡ ((m >>= λ w. found (record { winding = w; least = t.least })) >>= kept)
  sum_kept (found w) t = refl
  sum_kept (meets v) t = refl
  sum_kept (S.refused n) t = refl

  turned_kept : (by : ℤ) (t : Tally) → turned by (with t) ≡ (turned by t >>= kept)
  unfolding turned
  turned_kept by t = sum_kept (checked 31 (t.winding +ℤ by)) t

  quarter_kept : (n : ℕ) (t : Tally) → quarter_by n (with t) ≡ (quarter_by n t >>= kept)
  unfolding quarter_by
  quarter_kept n t =
      through (eqb n 1) (turned (pos 1) t) _ (turned (pos 1) (with t)) _ (turned_kept (pos 1) t)
      (through (eqb n 3) (turned (negsuc 0) t) (found t) (turned (negsuc 0) (with t)) (found (with t)) (turned_kept (negsuc 0) t) refl)

  turns_kept : (m : Step ℤ) (t : Tally) → (m >>= λ turn. turned turn (with t)) ≡ ((m >>= λ turn. turned turn t) >>= kept)
  turns_kept (found turn) t = turned_kept turn t
  turns_kept (meets v) t = refl
  turns_kept (S.refused n) t = refl

  module _ (fix : Point) where
    across_kept : (edge : Edge) (q : ℕ) (t : Tally) → across_by fix edge q (with t) ≡ (across_by fix edge q t >>= kept)
    unfolding across_by
    across_kept (Sloped line) q t = turns_kept (turn_at (crossing_of fix line) fix.lon q) t
    across_kept (EqualLongitude lon) q t = refl
    across_kept (EqualLatitude lat) q t = refl

    module _ (from to : Point) where
      clear_kept : (m : Step Tally) → ((m >>= kept) >>= clear_of fix from to) ≡ ((m >>= clear_of fix from to) >>= kept)
      unfolding clear_of
      clear_kept (found t) = through (straight from to && in_box to fix from) (meets OnBorderSegment) (found t) (meets OnBorderSegment) (found (with t)) refl refl
      clear_kept (meets v) = refl
      clear_kept (S.refused n) = refl

      pub wound_kept : (t : Tally) → wound_by fix from to (with t) ≡ (wound_by fix from to t >>= kept)
      unfolding wound_by
      wound_kept t = let q = quadrant_of fix to in let n = (q + 4 - quadrant_of fix from) % 4 in
          through (eqb n 2) (across_by fix (edge_of from to) q t) (quarter_by n t >>= clear_of fix from to) (across_by fix (edge_of from to) q (with t))
          (quarter_by n (with t) >>= clear_of fix from to) (across_kept (edge_of from to) q t) (ap (λ (m : Step Tally). m >>= clear_of fix from to) (quarter_kept n t) ∙ clear_kept (quarter_by n t))

      -- ---- the edge

      measured_alike : (m : Step ℕ) (t : Tally) → Plain m → Alike (m >>= λ new. found (record { winding = t.winding; least = min new t.least })) (found (with t))
      measured_alike (found new) t h = refl
      measured_alike (meets v) t h = absurd h
      measured_alike (S.refused n) t h = inl h

      edge_alike : (m : Step Tally) → Alike (m >>= measured true fix from to) ((m >>= kept) >>= measured false fix from to)
      unfolding measured
      edge_alike (found t) = measured_alike (distance_of fix from to) t (distance_plain fix from to)
      edge_alike (meets v) = refl
      edge_alike (S.refused n) = inr refl

    along_alike : (last : Last) (to : Point) (t : Tally) → Alike (along fix true last to t) (along fix false last to (with t))
    unfolding along
    along_alike none to t = refl
    along_alike (after from) to t =
        subst (λ (m : Step Tally). Alike (wound_by fix from to t >>= measured true fix from to) (m >>= measured false fix from to)) (sym (wound_kept from to t))
        (edge_alike from to (wound_by fix from to t))

    if_alike : (t : Bool) (v : Verdict) (m n : Step Tally) → Alike m n → Alike (if t then meets v else m) (if t then meets v else n)
    if_alike true v m n h = refl
    if_alike false v m n h = h

    passing_alike : (last : Last) (to : Point) (t : Tally) → Alike (passing fix true last to t) (passing fix false last to (with t))
    unfolding passing
    passing_alike last to t = if_alike (same_point to fix) OnBorderVertex _ _ (along_alike last to t)

    -- ---- the border

    then_agrees : (e : ℕ) (m n : Step Tally) (k l : Tally → Judgement) → Alike m n → ((t : Tally) → Agrees (k t) (l (with t))) → Agrees (then_on true e m k) (then_on false d n l)
    unfolding then_on
    then_agrees e (found t) n k l h g = subst (λ (x : Step Tally). Agrees (k t) (then_on false d x l)) (sym h) (g t)
    then_agrees e (meets v) n k l h g = ap (λ (x : Step Tally). then_on false d x l) h
    then_agrees e (S.refused i) n k l (inl h) g = inl h
    then_agrees e (S.refused i) n k l (inr h) g = inr (ap (λ (x : Step Tally). then_on false d x l) h)

    tests_agree : (e : ℕ) (t u v : Bool) (a b c o : Verdict) → Agrees (if t then reached a e else (if u then reached b e else (if v then reached c e else on_border o true e)))
        (if t then reached a d else (if u then reached b d else (if v then reached c d else on_border o false d)))
    tests_agree e true u v a b c o = refl
    tests_agree e false true v a b c o = refl
    tests_agree e false false true a b c o = refl
    tests_agree e false false false a b c o = refl

    closed_agrees : (t : Tally) → Agrees (closed_at true t) (closed_at false (with t))
    unfolding closed_at
    closed_agrees t = tests_agree t.least (same_z t.winding (negsuc 3)) (same_z t.winding (pos 4)) (same_z t.winding (pos 0)) InZone InExcludedZone NotInZone OnBorderSegment

    -- Where a border is answered, or fails, with the distance asked for, it is answered alike, or fails, without it; a refusal differs only by a 13.
    pub asked_or_not : (last : Last) (t : Tally) (trace : Trace) → Agrees (judge fix true last t trace) (judge fix false last (with t) trace)
    unfolding judge
    asked_or_not last t (point to trace) =
        then_agrees t.least (passing fix true last to t) (passing fix false last to (with t)) _ _ (passing_alike last to t) (λ later. asked_or_not (after to) later trace)
    asked_or_not last t closed = closed_agrees t
    asked_or_not last t T.failed = refl
    asked_or_not last t (T.refused n) = inr refl

-- The same of the border at a place of a file, whatever the least distances so far.
pub judged_asked_or_not : (file : List ℕ) (encoding : Encoding) (place : ℕ) (lat : FixedLat) (lon : FixedLon) (least least' : ℕ)
    → Agrees least' (judged_at file encoding place lat lon true least) (judged_at file encoding place lat lon false least')
unfolding judged_at
judged_asked_or_not file encoding place lat lon least least' = asked_or_not least' (record { lat = lat; lon = lon }) none (record { winding = pos 0; least = least }) _

-- ---- the least distance, where it is not asked for

abbrev least_of : Step Tally → ℕ
least_of (found t) = t.least
least_of (meets v) = 0
least_of (S.refused n) = 0

stays : (fix from to : Point) (m : Step Tally) (d : ℕ) (u : Tally) → m ≡ (m >>= kept d) → (m >>= measured false fix from to) ≡ found u → u.least ≡ d
unfolding measured
stays fix from to (found v) d u h e = ap least_of (sym e ∙ h)
stays fix from to (meets v) d u h e = let z : ◌≡◌ {A = ℕ} 0 1 = cc in absurd (omega arith)
stays fix from to (S.refused n) d u h e = let z : ◌≡◌ {A = ℕ} 0 1 = cc in absurd (omega arith)

-- An edge that is passed without the distance leaves the least so far.
pub passing_least : (fix from to : Point) (t u : Tally) → passing fix false (after from) to t ≡ found u → u.least ≡ t.least
unfolding passing along
passing_least fix from to t u = go (same_point to fix) where
  go : (b : Bool) → (if b then meets OnBorderVertex else (wound_by fix from to t >>= measured false fix from to)) ≡ found u → u.least ≡ t.least
  go true e = let z : ◌≡◌ {A = ℕ} 0 1 = cc in absurd (omega arith)
  go false e = stays fix from to (wound_by fix from to t) t.least u (wound_kept t.least fix from to t) e
