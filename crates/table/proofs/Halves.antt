-- A search of rows that are two lists one behind the other, and the searches of each: what two boards that each search half of a table join (request Q-12). Assumes nothing.
use Rattle.numbers.proofs.Prelude.{ℕ, ◌+◌, ◌≤◌, ◌<◌, lt-ltb, eqb-true, eqb, ltb, pos, length, length-append, Bool, true, false, List, [], ◌∷◌, ◌++◌, append_assoc, append-nil, ◌≡◌, refl, sym, ap, ◌∙◌}
use Rattle.numbers.{proofs.{Prelude.{arith}, Replies.{given_one}}, specs.{Answer.{if◌then◌else◌}, Reply.{Reply, given, plain}}}
use Rattle.verdict.{proofs.Unasked.{Agrees, judged_asked_or_not}, specs.{Verdict.{Judgement, reached}, declared.step.Verdict.TheVariants.{InZone}}}
use Rattle.border.specs.declared.place.Point.{Point}
use Rattle.header.specs.declared.header.Head.{Head}
use Rattle.table.proofs.Joining.{halves_joined}
use Rattle.table.specs.{Hits.{hit_of}, Joining.{◌⧺◌, groups_of, ◌⋈◌, matches_of}, Merge.{merged}, Rows.{Rows, row, table_end, unreadable}}
use Rattle.table.specs.{Search.{kind_of, row_hit, judged_turn, row_turn, Found, ended, after_turn, judge_in, farthest}, Table.{holds}, Unstopped.{seek_all}, declared.{hits.Hit.{Hit}, rows.Row.{Row}}}
use Rattle.table.specs.declared.{search.Turn.{Turn, TheVariants.{On, Met, Stopped, Refused}}, table.Bounds.{Bounds}}
use Rattle.verdict.specs.Verdict as J
use Rattle.numbers.specs.Reply as R
use Rattle.table.specs.Rows as T

pub end_behind : (rows : Rows) → rows ⧺ table_end ≡ rows
unfolding ◌⧺◌
end_behind (row r rows) = ap (row r) (end_behind rows)
end_behind table_end = refl
end_behind unreadable = refl
end_behind (T.refused n) = refl

-- ---- a search keeps the hits that it has
abbrev Grows : (ℕ → List Hit → Reply Found) → Type 0
Grows go = (least : ℕ) (hits : List Hit) (f : Found) → go least hits ≡ given f → length hits ≤ length f.hits

turn_grows : (room : ℕ) (go : ℕ → List Hit → Reply Found) → Grows go → (turn : Turn) (hits : List Hit) (f : Found) → after_turn turn hits room go ≡ given f → length hits ≤ length f.hits
turn_grows room go g (On least) hits f e = g least hits f e
turn_grows room go g (Met hit least) hits f e = slot (ltb (length hits) room) e where
  slot : (t : Bool) → (if t then go least (hits ++ hit ∷ []) else R.refused (plain 17)) ≡ given f → length hits ≤ length f.hits
  slot true e = omega (arith, g least (hits ++ hit ∷ []) f e, length-append hits (hit ∷ []))
  slot false e = let z : ◌≡◌ {A = ℕ} 0 1 = cc in absurd (omega arith)
turn_grows room go g (Stopped mark least) hits f e = let is : record { hits = hits; mark = mark; least = least } ≡ f = cc in
    let same : length hits ≡ length f.hits = ap (λ (x : Found). length x.hits) is in omega (arith, same)
turn_grows room go g (Refused n) hits f e = let z : ◌≡◌ {A = ℕ} 0 1 = cc in absurd (omega arith)

ended_grows : (hits : List Hit) (mark least : ℕ) (f : Found) → ended hits mark least ≡ given f → length hits ≤ length f.hits
ended_grows hits mark least f e = let is : record { hits = hits; mark = mark; least = least } ≡ f = cc in
    let same : length hits ≡ length f.hits = ap (λ (x : Found). length x.hits) is in omega (arith, same)

seek_grows : (judge : ℕ → ℕ → Judgement) (fix : Point) (room : ℕ) (rows : Rows) → Grows (seek_all judge fix room rows)
unfolding seek_all
seek_grows judge fix room (row r rows) least hits f e = turn_grows room (seek_all judge fix room rows) (seek_grows judge fix room rows) (row_turn judge fix r least) hits f e
seek_grows judge fix room table_end least hits f e = ended_grows hits 1 least f e
seek_grows judge fix room unreadable least hits f e = ended_grows hits 2 least f e
seek_grows judge fix room (T.refused n) least hits f e = let z : ◌≡◌ {A = ℕ} 0 1 = cc in absurd (omega arith)

-- ---- the search of one half inside that of the whole, over any two ways to judge a border that agree but for the distance and 13
module _ (judge judge' : ℕ → ℕ → Judgement) (agree : (polygon least least' : ℕ) → Agrees least' (judge polygon least) (judge' polygon least')) (fix : Point) (room' least' : ℕ) where
  -- the rows behind the half, and the hits before it
  module _ (behind : Rows) (before : List Hit) where
    -- where the half's search ends the whole goes on, if that is the half's end
    abbrev onto : Found → Reply Found
    onto f = if eqb f.mark 1 then seek_all judge' fix room' behind least' (before ++ f.hits) else ended (before ++ f.hits) f.mark least'

    abbrev Carries : (ℕ → List Hit → Reply Found) → (ℕ → List Hit → Reply Found) → Type 0
    Carries go go' = (least : ℕ) (hits : List Hit) (f : Found) → go least hits ≡ given f → length before + length f.hits ≤ room' → go' least' (before ++ hits) ≡ onto f

    -- it ends here
    ends_onto : (hits : List Hit) (mark least : ℕ) (f : Found) → ended hits mark least ≡ given f → onto (record { hits = hits; mark = mark; least = least }) ≡ onto f
    ends_onto hits mark least f e = let is : record { hits = hits; mark = mark; least = least } ≡ f = cc in ap onto is

    module _ (room : ℕ) (go go' : ℕ → List Hit → Reply Found) (grows : Grows go) (carries : Carries go go') (r : Row) (hits : List Hit) (f : Found)
        (fits : length before + length f.hits ≤ room') where
      hit_onto : (hit : Hit) (least : ℕ) → after_turn (Met hit least) hits room go ≡ given f → after_turn (Met hit least') (before ++ hits) room' go' ≡ onto f
      hit_onto hit least e = slot (ltb (length hits) room) e where
        slot : (t : Bool) → (if t then go least (hits ++ hit ∷ []) else R.refused (plain 17)) ≡ given f
            → (if ltb (length (before ++ hits)) room' then go' least' ((before ++ hits) ++ hit ∷ []) else R.refused (plain 17)) ≡ onto f
        slot true e = let more = grows least (hits ++ hit ∷ []) f e in
            let few : length (before ++ hits) < room' = omega (arith, more, fits, length-append hits (hit ∷ []), length-append before hits) in
            ap (λ (t : Bool). if t then go' least' ((before ++ hits) ++ hit ∷ []) else R.refused (plain 17)) (lt-ltb (length (before ++ hits)) room' few)
            ∙ ap (go' least') (append_assoc before hits (hit ∷ [])) ∙ carries least (hits ++ hit ∷ []) f e fits
        slot false e = let z : ◌≡◌ {A = ℕ} 0 1 = cc in absurd (omega arith)

      reached_onto : (missed : Bool) (hit : Hit) (least : ℕ) → after_turn (if missed then On least else Met hit least) hits room go ≡ given f
          → after_turn (if missed then On least' else Met hit least') (before ++ hits) room' go' ≡ onto f
      reached_onto true hit least e = carries least hits f e fits
      reached_onto false hit least e = hit_onto hit least e

      judged_onto : (j o : Judgement) → Agrees least' j o → after_turn (judged_turn r j) hits room go ≡ given f → after_turn (judged_turn r o) (before ++ hits) room' go' ≡ onto f
      unfolding judged_turn
      judged_onto (reached verdict least) o h e = rw h (reached_onto (eqb (kind_of verdict) 0) (row_hit r (kind_of verdict)) least e)
      judged_onto (J.failed least) o h e = rw h (ends_onto hits 3 least f e)
      judged_onto (J.refused n) o h e = let z : ◌≡◌ {A = ℕ} 0 1 = cc in absurd (omega arith)

      row_onto : (least : ℕ) → after_turn (row_turn judge fix r least) hits room go ≡ given f → after_turn (row_turn judge' fix r least') (before ++ hits) room' go' ≡ onto f
      unfolding row_turn
      row_onto least e = by_box (holds r.bounds fix) e where
        by_box : (held : Bool) → after_turn (if held then judged_turn r (judge r.polygon least) else On least) hits room go ≡ given f
            → after_turn (if held then judged_turn r (judge' r.polygon least') else On least') (before ++ hits) room' go' ≡ onto f
        by_box true e = judged_onto (judge r.polygon least) (judge' r.polygon least') (agree r.polygon least least') e
        by_box false e = carries least hits f e fits

    half_onto : (room : ℕ) (rows : Rows) → Carries (seek_all judge fix room rows) (seek_all judge' fix room' (rows ⧺ behind))
    unfolding seek_all ◌⧺◌
    half_onto room (row r rows) least hits f e fits =
        row_onto room (seek_all judge fix room rows) (seek_all judge' fix room' (rows ⧺ behind)) (seek_grows judge fix room rows) (half_onto room rows) r hits f fits least e
    half_onto room table_end least hits f e fits = ends_onto hits 1 least f e
    half_onto room unreadable least hits f e fits = ends_onto hits 2 least f e
    half_onto room (T.refused n) least hits f e fits = let z : ◌≡◌ {A = ℕ} 0 1 = cc in absurd (omega arith)

  -- The search of both finds the hits of the first half, if that was searched to its end, and behind them those of the second; it ends as the second does.
  pub halves_searched : (room₁ room₂ least : ℕ) (first second : Rows) (f g : Found) → seek_all judge fix room₁ first least [] ≡ given f → f.mark ≡ 1
      → seek_all judge fix room₂ second least [] ≡ given g → length f.hits + length g.hits ≤ room'
      → seek_all judge' fix room' (first ⧺ second) least' [] ≡ ended (f.hits ++ g.hits) g.mark least'
  unfolding seek_all
  halves_searched room₁ room₂ least first second f g e one e' fits =
      half_onto second [] room₁ first least [] f e (omega (arith, fits)) ∙ rw one refl ∙ ap (λ (rows : Rows). seek_all judge' fix room' rows least' f.hits)
      (sym (end_behind second)) ∙ ap (seek_all judge' fix room' (second ⧺ table_end) least') (sym (append-nil f.hits)) ∙ half_onto table_end f.hits room₂
      second least [] g e' fits ∙ either (eqb g.mark 1) refl where
        either : (t : Bool) → eqb g.mark 1 ≡ t → (if t then ended (f.hits ++ g.hits) 1 least' else ended (f.hits ++ g.hits) g.mark least') ≡ ended (f.hits ++ g.hits) g.mark least'
        either true is = ap (λ (m : ℕ). ended (f.hits ++ g.hits) m least') (sym (eqb-true _ _ is))
        either false is = refl

-- ---- in a file
-- Two boards search rows of a file, each its own, with the distance. If the first came to its end, the search of the first's rows and then the second's, without the
-- distance, has the matches of their groups joined, and ends as the second's.
pub two_boards : (file : List ℕ) (head : Head) (fix : Point) (room₁ room₂ room : ℕ) (first second : Rows) (f g : Found)
    → seek_all (judge_in file head fix true) fix room₁ first farthest [] ≡ given f → f.mark ≡ 1 → seek_all (judge_in file head fix true) fix room₂ second farthest [] ≡ given g
    → length f.hits + length g.hits ≤ room → (w : Found) → seek_all (judge_in file head fix false) fix room (first ⧺ second) farthest [] ≡ given w
    → (merged w.hits ≡ matches_of (groups_of f.hits ⋈ groups_of g.hits)) × (w.mark ≡ g.mark)
two_boards file head fix room₁ room₂ room first second f g e one e' fits w whole =
    let found = halves_searched (judge_in file head fix true) (judge_in file head fix false) (λ polygon. judged_asked_or_not file _ _ fix.lat fix.lon) fix
    room farthest room₁ room₂ farthest first second f g e one e' fits in
    let is : w ≡ record { hits = f.hits ++ g.hits; mark = g.mark; least = farthest } = given_one (sym whole ∙ found) in
    (ap (λ (x : Found). merged x.hits) is ∙ halves_joined f.hits g.hits, ap (λ (x : Found). x.mark) is)

-- ---- a case, with borders that hold every location
abbrev everywhere : Bounds
everywhere = record { min_lat = record { 0 = pos 0 }; min_lon = record { 0 = pos 0 }; max_lat = record { 0 = pos 9 }; max_lon = record { 0 = pos 9 } }

abbrev yard : ℕ → Rows → Rows
yard id rows = row (record { place = 16 + id; id = id; metadata = 7; polygon = 0; bounds = everywhere; next = 0 }) rows

abbrev inside : Point
inside = record { lat = record { 0 = pos 5 }; lon = record { 0 = pos 5 } }

abbrev holding : ℕ → ℕ → Judgement
holding polygon least = reached InZone least

pub worked_halves : seek_all holding inside 3 (yard 0 (yard 1 table_end) ⧺ yard 2 table_end) 9 [] ≡ ended (hit_of 0 7 1 16 ∷ hit_of 1 7 1 17 ∷ hit_of 2 7 1 18 ∷ []) 1 9
unfolding seek_all row_turn judged_turn
worked_halves = halves_searched holding holding (λ polygon least least'. refl) inside 3 9 2 1 9 (yard 0 (yard 1 table_end)) (yard 2 table_end) _ _ refl refl refl (omega arith)
