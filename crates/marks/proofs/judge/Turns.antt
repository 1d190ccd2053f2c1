-- The loops over the stretches and the groups of a border, turn by turn, and the distance to begin with. Assumes nothing.
use Rattle.numbers.proofs.Prelude.{ℕ, zero, suc, ◌+◌, ◌-◌, ◌*◌, ◌/◌, ◌≤◌, ◌<◌, min, lt-ltb, le-leb, le-ltb, ltb-true, lt-leb, ltb-false, ltb, leb, pos, length, Bool, true, false, ◌&&◌, List, ◌≡◌}
use Rattle.numbers.{proofs.{Prelude.{refl, sym, ap, subst, ◌∙◌, arith}, Tests.{both}}, specs.Answer.{if◌then◌else◌}}
use mathlib.Core.Bool.{and-false}
use Rattle.border.specs.{Trace.{trace_of}, declared.{place.{FixedLat.{FixedLat}, FixedLon.{FixedLon}, Point.{Point}}, reader.{Encoding.{Encoding}, Reader.{Reader}}}}
use Rattle.verdict.specs.{Distance.{to_vertex}, Edge.{same_point}, Step.{Step, found, ◌>>=◌}, Stretch.{leapt, passing_first}}
use Rattle.verdict.specs.{Verdict.{Judgement, refused, on_border, after, along, passing, closed_at, then_on}, declared.step.{Tally.{Tally}, Verdict.TheVariants.{OnBorderVertex}}}
use Rattle.marks.specs.Judging.{can_pass, stretch_by, end_in, points_by, stretches_by, groups_by, is_inside, count_in, judged_from, nearer_by, nearest_of, near_in, is_below, judged_by}
use Rattle.marks.specs.{Marks.{stretch_edges, group_wide, groups_of}, Words.{word_at, low_in, high_in, start_in, state_in}}
use Rattle.marks.proofs.Nearest.{near_less}

-- ---- the stretches of a border
module _ (file : List ℕ) (encoding : Encoding) (fix : Point) (asked : Bool) (words : List ℕ) (first : Point) where
  -- one that is passed as an edge, and one that is not
  module _ (at : ℕ) (to : Point) (inside : Tally → Step Tally) (t : Tally) {b : Bool} (is : b ≡ can_pass fix asked t.least (low_in words at) (high_in words at)) {m : Step Tally} where
    pub stretch_passed : b ≡ true → {from : Point} → from ≡ start_in words at → m ≡ leapt fix from to t → m ≡ stretch_by file encoding fix asked words first at to inside t
    unfolding stretch_by
    stretch_passed h f e = e ∙ (λ i. leapt fix (f i) to t) ∙ rw (sym is ∙ h)

    pub stretch_entered : b ≡ false → m ≡ inside t → m ≡ stretch_by file encoding fix asked words first at to inside t
    unfolding stretch_by
    stretch_entered h e = e ∙ rw (sym is ∙ h)

  -- the points of a stretch, by its state
  pub points_read : (at : ℕ) (t : Tally) {s : Reader} → s ≡ state_in words at first → {m : Step Tally} → m ≡ passing_first fix asked 128 (after s.point) (trace_of file encoding s) t
      → m ≡ points_by file encoding fix asked words first at t
  unfolding stretch_edges
  points_read at t s e = e ∙ (λ i. passing_first fix asked 128 (after (s i).point) (trace_of file encoding (s i)) t)

  pub stretches_done : (left at : ℕ) (to : Point) (t : Tally) → left ≡ 0 → found t ≡ stretches_by file encoding fix asked words first left at to t
  unfolding stretches_by
  stretches_done zero at to t e = refl
  stretches_done (suc k) at to t e = absurd (omega (arith, e))

  pub stretches_next : (left at : ℕ) (to : Point) (t : Tally) → 0 < left → (stretch_by file encoding fix asked words first at (end_in words to (left - 1) at)
      (points_by file encoding fix asked words first at) t >>= stretches_by file encoding fix asked words first (left - 1) (at + 11) to) ≡ stretches_by file encoding fix asked words first left at to t
  unfolding stretches_by
  stretches_next zero at to t h = absurd (omega (arith, h))
  stretches_next (suc k) at to t h = let e : suc k - 1 ≡ k = omega arith in rw e

  pub groups_done : (groups at left fine : ℕ) (t : Tally) → groups ≡ 0 → found t ≡ groups_by file encoding fix asked words first groups at left fine t
  unfolding groups_by
  groups_done zero at left fine t e = refl
  groups_done (suc k) at left fine t e = absurd (omega (arith, e))

  pub groups_next : (groups at left fine : ℕ) (t : Tally) → 0 < groups → {few : ℕ} → few ≡ min group_wide left → {to : Point} → to ≡ end_in words first (groups - 1) at
      → (stretch_by file encoding fix asked words first at to (stretches_by file encoding fix asked words first few fine to) t >>= groups_by file encoding fix
      asked words first (groups - 1) (at + 11) (left - few) (fine + few * 11)) ≡ groups_by file encoding fix asked words first groups at left fine t
  unfolding groups_by
  groups_next zero at left fine t h f e = absurd (omega (arith, h))
  groups_next (suc k) at left fine t h f e = let z : suc k - 1 ≡ k = omega arith in
      (λ i. stretch_by file encoding fix asked words first at (e i) (stretches_by file encoding fix asked words first (f i) fine (e i)) t >>= groups_by file
      encoding fix asked words first (suc k - 1) (at + 11) (left - f i) (fine + f i * 11)) ∙ rw z

-- ---- how many marks there are
module _ (words : List ℕ) (at : ℕ) where
  pub no_words : length words ≤ at → 0 ≡ count_in words at
  unfolding count_in
  no_words h = rw (le-ltb at (length words) h)

  pub no_room : (length words - (at + 1)) / 11 < word_at words at + groups_of (word_at words at) → 0 ≡ count_in words at
  unfolding count_in
  no_room h = simp (lt-leb (word_at words at + groups_of (word_at words at)) ((length words - (at + 1)) / 11) h, and-false)

  pub zero_word : word_at words at ≡ 0 → 0 ≡ count_in words at
  unfolding count_in
  zero_word e = go (is_inside words at) where
    go : (b : Bool) → 0 ≡ (if b then word_at words at else 0)
    go true = sym e
    go false = refl

  -- a word that says 0 says so
  pub room_for : at < length words → word_at words at + groups_of (word_at words at) ≤ (length words - (at + 1)) / 11 → word_at words at ≡ count_in words at
  unfolding count_in
  room_for more room = go (ltb 0 (word_at words at)) refl where
    go : (b : Bool) → ltb 0 (word_at words at) ≡ b → word_at words at ≡ (if (ltb at (length words) && (b && leb (word_at words at + groups_of (word_at words at))
        ((length words - (at + 1)) / 11))) then word_at words at else 0)
    go true e = rw (lt-ltb at (length words) more, le-leb (word_at words at + groups_of (word_at words at)) ((length words - (at + 1)) / 11) room)
    go false e = let none = ltb-false 0 (word_at words at) e in rw (lt-ltb at (length words) more) (omega (arith, none))

  none_in : count_in words at ≡ 0 → is_inside words at ≡ false
  unfolding count_in
  none_in e = go (is_inside words at) refl e where
    go : (b : Bool) → is_inside words at ≡ b → (if b then word_at words at else 0) ≡ 0 → is_inside words at ≡ false
    go true i e =
        let two = both (ltb at (length words)) (ltb 0 (word_at words at) && leb (word_at words at + groups_of (word_at words at)) ((length words - (at + 1)) / 11)) i in
        let some = ltb-true 0 (word_at words at) (both (ltb 0 (word_at words at)) (leb (word_at words at + groups_of (word_at words at)) ((length words - (at + 1)) / 11)) two.1).0 in
        absurd (omega (arith, some, e))
    go false i e = i

  some_in : 0 < count_in words at → (is_inside words at ≡ true) × (count_in words at ≡ word_at words at)
  unfolding count_in
  some_in h = go (is_inside words at) refl h where
    go : (b : Bool) → is_inside words at ≡ b → 0 < (if b then word_at words at else 0) → (is_inside words at ≡ true) × ((if b then word_at words at else 0) ≡ word_at words at)
    go true i h = (i, refl)
    go false i h = absurd (omega (arith, h))

-- ---- from a least distance on
module _ (file : List ℕ) (encoding : Encoding) (words : List ℕ) (at : ℕ) (fix : Point) (asked : Bool) (least n : ℕ) (is : n ≡ count_in words at) where
  abbrev by : Judgement
  by = judged_from file encoding words at fix asked least

  pub from_none : n ≡ 0 → refused 36 ≡ by
  unfolding judged_from
  from_none e = rw (none_in words at (sym is ∙ e))

  module _ (some : 0 < n) where
    there : (is_inside words at ≡ true) × (count_in words at ≡ word_at words at)
    there = some_in words at (subst (λ (k : ℕ). 0 < k) is some)

    pub from_vertex : {first : Point} → first ≡ start_in words (at + 1) → same_point first fix ≡ true → on_border OnBorderVertex asked least ≡ by
    unfolding judged_from passing then_on
    from_vertex e same = let test = (λ i. same_point (sym e i) fix) ∙ same in rw (there.0, test)

    pub from_groups : {first : Point} → first ≡ start_in words (at + 1) → same_point first fix ≡ false
        → then_on asked least (groups_by file encoding fix asked words first (groups_of n) (at + 1 + n * 11) n (at + 1) (record { winding = pos 0; least = least })) (closed_at asked) ≡ by
    unfolding judged_from passing along
    from_groups e other = let test = (λ i. same_point (sym e i) fix) ∙ other in let count = is ∙ there.1 in
        (λ i. then_on asked least (groups_by file encoding fix asked words (e i) (groups_of (count i)) (at + 1 + count i * 11) (count i) (at + 1)
        (record { winding = pos 0; least = least })) (closed_at asked)) ∙ rw (there.0, test)

-- ---- a distance to begin with
pub nearest_done : (words : List ℕ) (fix : Point) (left at near : ℕ) → left ≡ 0 → near ≡ nearest_of words fix left at near
unfolding nearest_of
nearest_done words fix zero at near e = refl
nearest_done words fix (suc k) at near e = absurd (omega (arith, e))

pub nearest_next : (words : List ℕ) (fix : Point) (left at near : ℕ) → 0 < left
    → nearest_of words fix (left - 1) (at + 11) (nearer_by (to_vertex (start_in words at) fix) near) ≡ nearest_of words fix left at near
unfolding nearest_of
nearest_next words fix zero at near h = absurd (omega (arith, h))
nearest_next words fix (suc k) at near h = let e : suc k - 1 ≡ k = omega arith in rw e

-- ---- all of it
module _ (file : List ℕ) (encoding : Encoding) (words : List ℕ) (at : ℕ) (lat : FixedLat) (lon : FixedLon) (asked : Bool) (least : ℕ) where
  abbrev fix : Point
  fix = record { lat = lat; lon = lon }

  abbrev near : ℕ
  near = near_in words at fix asked least

  abbrev judged : ℕ → Judgement
  judged = judged_from file encoding words at fix asked

  abbrev by_all : Judgement
  by_all = judged_by file encoding words at lat lon asked least

  -- with the distance that was found, and what it led to
  module _ {n : ℕ} (e : n ≡ near) where
    -- where it is no less to begin with
    pub from_same : least ≤ n → judged least ≡ by_all
    unfolding judged_by
    from_same h = either (is_below near (judged near)) (ap judged (omega (arith, h, e, near_less words at fix asked least))) where
      either : (b : Bool) → judged least ≡ judged near → judged least ≡ (if b then judged near else judged least)
      either true e = e
      either false e = refl

    module _ {j : Judgement} (g : j ≡ judged n) where
      led : j ≡ judged near
      led = g ∙ ap judged e

      tested : (b : Bool) → is_below n j ≡ b → is_below near (judged near) ≡ b
      tested b h = sym (λ i. is_below (e i) (led i)) ∙ h

      pub from_near : is_below n j ≡ true → j ≡ by_all
      unfolding judged_by
      from_near h = led ∙ rw (tested true h)

      pub from_least : is_below n j ≡ false → judged least ≡ by_all
      unfolding judged_by
      from_least h = rw (tested false h)
