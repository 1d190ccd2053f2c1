-- In a table in order an early stop loses nothing, and boxes of the borders' own points change no verdict. Assumes nothing.
use Rattle.numbers.proofs.Prelude.{ℕ, ◌+◌, ◌%◌, ◌^◌, ltb, ℤ, length, lt_z, Bool, true, false, List, [], ◌∷◌, ◌++◌, ◌≡◌, refl, sym, ap, subst, ◌∙◌}
use Rattle.numbers.specs.{Answer.{if◌then◌else◌}, Reply.{Reply, plain}}
use Rattle.verdict.{proofs.{Gliding.{less_le_less}, OutsideBox.{standing_outside_box}}, specs.{Verdict.{Judgement, reached, judged_at}, declared.step.Verdict.TheVariants.{NotInZone}}}
use Rattle.border.specs.{Encoding.{version_of, encoded_by}, declared.place.Point.{Point}}
use Rattle.table.proofs.{Unstopped.{unchanged}, rest.Remaining.{not_held}}
use Rattle.table.specs.{Ordered.{lowest, Ordered, ends, next, followed_at, Thinned, done, kept, left, Boxed, AllBoxed, none, one, seek_alone}, Rest.{rest_mark}, Rows.{Rows, row}}
use Rattle.table.specs.{Search.{Found, ended, after_turn, judged_turn, row_turn, seek, judge_in}, Table.{is_above, holds}, Unstopped.{seek_all}, declared.{hits.Hit.{Hit}, rows.Row.{Row}}}
use Rattle.table.specs.declared.search.Turn.{Turn, TheVariants.{On, Met, Stopped, Refused}}
use Rattle.header.specs.declared.header.Head.{Head}
use Rattle.table.proofs.search.Turns as W
use Rattle.verdict.specs.Verdict as J
use Rattle.numbers.specs.Reply as R

-- what follows a turn is followed alike
pub turn_alike : (room : ℕ) (go go' : ℕ → List Hit → Reply Found) → ((least : ℕ) (hits : List Hit) → go least hits ≡ go' least hits) → (turn : Turn) (hits : List Hit)
    → after_turn turn hits room go ≡ after_turn turn hits room go'
turn_alike room go go' same (On least) hits = same least hits
turn_alike room go go' same (Met hit least) hits = ap (λ (r : Reply Found). if ltb (length hits) room then r else R.refused (plain 17)) (same least (hits ++ hit ∷ []))
turn_alike room go go' same (Stopped mark least) hits = refl
turn_alike room go go' same (Refused n) hits = refl

-- ---- an early stop
module _ (end : ℕ) (fix : Point) where
  -- rows in order whose floor is above the location
  rest_clear : {floor : ℤ} {rows : Rows} → lt_z fix.lat.0 floor ≡ true → Ordered end floor rows → rest_mark end fix rows ≡ 1
  unfolding rest_mark
  rest_clear up ends = refl
  rest_clear {floor} up (next {r = r} h within later) = let above = less_le_less fix.lat.0 floor (lowest r) up h in
      rw (within, not_held r.bounds fix above) (rest_clear above later)

  stop_clear : {floor : ℤ} {r : Row} {rows : Rows} → Ordered end floor (row r rows) → is_above r.bounds fix ≡ true → rest_mark end fix (row r rows) ≡ 1
  unfolding rest_mark
  stop_clear {r = r} (next h within later) above = rw (within, not_held r.bounds fix above) (rest_clear above later)

  module _ (judge : ℕ → ℕ → Judgement) (room : ℕ) where
    -- In a table in order the search finds, with the same mark, what a search finds that never stops early.
    pub early_stop_loses_nothing : {floor : ℤ} {rows : Rows} → Ordered end floor rows → (least : ℕ) (hits : List Hit)
        → seek judge fix end room rows least hits ≡ seek_all judge fix room rows least hits
    unfolding seek seek_all
    early_stop_loses_nothing ends least hits = refl
    early_stop_loses_nothing {floor} (next {r = r} {rows = rows} h within later) least hits = by_above (is_above r.bounds fix) refl (early_stop_loses_nothing later) where
      clear : is_above r.bounds fix ≡ true → rest_mark end fix (row r rows) ≡ 1
      clear = stop_clear (next {floor = floor} h within later)

      by_above : (t : Bool) → is_above r.bounds fix ≡ t → ((least : ℕ) (hits : List Hit) → seek judge fix end room rows least hits ≡ seek_all judge fix room rows least hits)
          → (if t then ended hits (rest_mark end fix (row r rows)) least else after_turn (row_turn judge fix r least) hits room (seek judge fix end room rows))
          ≡ after_turn (row_turn judge fix r least) hits room (seek_all judge fix room rows)
      by_above true above same = rw (clear above) (sym (unchanged judge fix end room (row r rows) least hits (clear above)))
      by_above false above same = turn_alike room (seek judge fix end room rows) (seek_all judge fix room rows) same (row_turn judge fix r least) hits

-- ---- rows left out
judged_followed : (r : Row) (k : ℕ) (judgement : Judgement) → judged_turn r judgement ≡ judged_turn (followed_at r k) judgement
unfolding judged_turn
judged_followed r k (reached verdict least) = refl
judged_followed r k (J.failed least) = refl
judged_followed r k (J.refused n) = refl

module _ (judge : ℕ → ℕ → Judgement) (fix : Point) (room : ℕ) where
  -- a row's turn is the same, whatever follows it
  turn_followed : (r : Row) (k least : ℕ) → row_turn judge fix r least ≡ row_turn judge fix (followed_at r k) least
  unfolding row_turn
  turn_followed r k least = ap (λ (t : Turn). if holds r.bounds fix then t else On least) (judged_followed r k (judge r.polygon least))

  -- The search of some rows finds what that of all finds, if no box that was left out holds the location.
  pub rows_left_out : {rows some : Rows} → Thinned fix rows some → (least : ℕ) (hits : List Hit) → seek_all judge fix room rows least hits ≡ seek_all judge fix room some least hits
  unfolding seek_all
  rows_left_out done least hits = refl
  rows_left_out (kept {r = r} k {rows = rows} {some = some} later) least hits =
      turn_alike room (seek_all judge fix room rows) (seek_all judge fix room some) (λ l h. rows_left_out later l h) (row_turn judge fix r least) hits
      ∙ ap (λ (t : Turn). after_turn t hits room (seek_all judge fix room some)) (turn_followed r k least)
  rows_left_out (left {r = r} {rows = rows} out later) least hits =
      ap (λ (t : Turn). after_turn t hits room (seek_all judge fix room rows)) (sym (W.not_held judge fix r least out)) ∙ rows_left_out later least hits

-- ---- boxes
module _ {file : List ℕ} {head : Head} {r : Row} {points : List Point} (plainly : head.strict ≡ false) (boxed : Boxed file head r points) (fix : Point) where
  -- A border whose box does not hold the location would have come to `NotInZone`.
  pub outside_its_box : (least : ℕ) → holds r.bounds fix ≡ false → judge_in file head fix false r.polygon least ≡ reached NotInZone least
  outside_its_box least out = let start = head.sections.«data» in
      ap (λ (strict : Bool). judged_at file (encoded_by strict (version_of head.preamble.version) start) ((start + r.polygon) % 2 ^ 32) fix.lat fix.lon false least) plainly
      ∙ standing_outside_box boxed.border fix least (subst (λ b. holds b fix ≡ false) boxed.box out)

  -- so its turn is its border's, whether its box holds the location or not
  turn_by_border : (least : ℕ) → row_turn (judge_in file head fix false) fix r least ≡ judged_turn r (judge_in file head fix false r.polygon least)
  unfolding row_turn judged_turn
  turn_by_border least = by_box (holds r.bounds fix) refl where
    by_box : (t : Bool) → holds r.bounds fix ≡ t
        → (if t then judged_turn r (judge_in file head fix false r.polygon least) else On least) ≡ judged_turn r (judge_in file head fix false r.polygon least)
    by_box true held = refl
    by_box false out = rw (outside_its_box least out)

module _ (file : List ℕ) (head : Head) (plainly : head.strict ≡ false) (fix : Point) (room : ℕ) where
  abbrev judge : ℕ → ℕ → Judgement
  judge = judge_in file head fix false

  -- In a table of such boxes the search without the distance finds what judging every border finds.
  pub boxes_change_nothing : {rows : Rows} {borders : List (List Point)} → AllBoxed file head rows borders → (least : ℕ) (hits : List Hit)
      → seek_all judge fix room rows least hits ≡ seek_alone judge room rows least hits
  unfolding seek_all seek_alone
  boxes_change_nothing none least hits = refl
  boxes_change_nothing (one {r = r} {rows = rows} boxed later) least hits =
      turn_alike room (seek_all judge fix room rows) (seek_alone judge room rows) (boxes_change_nothing later) (row_turn judge fix r least) hits
      ∙ ap (λ (t : Turn). after_turn t hits room (seek_alone judge room rows)) (turn_by_border plainly boxed fix least)
