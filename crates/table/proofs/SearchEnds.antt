-- An answered search went through every row up to where it ended, and its mark says why it ended there. Assumes nothing.
use Rattle.numbers.proofs.Prelude.{ℕ, eqb, ltb, length, Bool, true, false, List, [], ◌∷◌, ◌++◌, append_assoc, append-nil, ◌≡◌, refl, sym, ap, subst, ◌∙◌, arith}
use Rattle.numbers.{proofs.{Refusals.{Listed}, Replies.{given_from}}, specs.{Answer.{if◌then◌else◌}, Reply.{Reply, given, plain, demand, ◌>>◌}}}
use Rattle.verdict.specs.{Verdict.{Judgement, reached}, declared.step.Verdict.{Verdict}}
use Rattle.border.specs.declared.place.Point.{Point}
use Rattle.header.specs.{Header.{head_of}, declared.header.Head.{Head}}
use Rattle.table.specs.{Ending.{hits_of, Through, here, outside, judged, Ends, at_the_end, above, unread, broken, Ending, Behind}, Find.{fix_of, is_precision, Matched, matched_with}}
use Rattle.table.specs.{Merge.{merged}, Rest.{rest_mark}, Rows.{Rows, row, table_end, unreadable, rows_in}, Search.{kind_of, row_hit, judged_turn, row_turn, Found, ended, after_turn, seek, judge_in}}
use Rattle.table.specs.{Search.{farthest, searched}, Table.{is_above, holds}, declared.{hits.Hit.{Hit}, location.Location.{Location}, rows.Row.{Row}, search.Turn.TheVariants.{On, Met}}}
use Rattle.numbers.specs.Reply as R
use Rattle.verdict.specs.Verdict as J
use Rattle.table.specs.Rows as T

-- ---- the search of rows
module _ (judge : ℕ → ℕ → Judgement) (fix : Point) (end room : ℕ) where
  -- the same after some hits
  record After (rows : Rows) (least : ℕ) (before : List Hit) (f : Found) : Type 0 where
    more : List Hit
    left : Rows
    last : ℕ
    is : f.hits ≡ before ++ more
    through : Through judge fix rows least more left last
    ends : Ends judge fix end left last f.mark f.least

  -- it ends here
  stop : (rows : Rows) (least : ℕ) (hits : List Hit) (mark last : ℕ) (f : Found) → Ends judge fix end rows least mark last → ended hits mark last ≡ given f → After rows least hits f
  stop rows least hits mark last f why e = let is : record { hits = hits; mark = mark; least = last } ≡ f = cc in
      subst (After rows least hits) is (record { more = []; left = rows; last = least; is = sym (append-nil hits); through = here; ends = why })

  abbrev Sought : Rows → Type 0
  Sought rows = (least : ℕ) (hits : List Hit) (f : Found) → seek judge fix end room rows least hits ≡ given f → After rows least hits f

  module _ (r : Row) (rows : Rows) (rest : Sought rows) (least : ℕ) (hits : List Hit) (f : Found) where
    abbrev go : ℕ → List Hit → Reply Found
    go = seek judge fix end room rows

    abbrev Goal : Type 0
    Goal = After (row r rows) least hits f

    module _ (low : is_above r.bounds fix ≡ false) where
      module _ (held : holds r.bounds fix ≡ true) where
        module _ (verdict : Verdict) (closer : ℕ) (j : judge r.polygon least ≡ reached verdict closer) where
          abbrev hit : Hit
          hit = row_hit r (kind_of verdict)

          by_room : eqb (kind_of verdict) 0 ≡ false → (t : Bool) → (if t then go closer (hits ++ hit ∷ []) else R.refused (plain 17)) ≡ given f → Goal
          by_room k true e = let a = rest closer (hits ++ hit ∷ []) f e in record {
            more = hits_of r verdict ++ a.more;
            left = a.left;
            last = a.last;
            is = rw k (a.is ∙ append_assoc hits (hit ∷ []) a.more);
            through = judged
                low held j a.through;
            ends = a.ends;
          }
          by_room k false e = let z : ◌≡◌ {A = ℕ} 0 1 = cc in absurd (omega arith)

          by_kind : (t : Bool) → eqb (kind_of verdict) 0 ≡ t → after_turn (if t then On closer else Met hit closer) hits room go ≡ given f → Goal
          by_kind true k e = let a = rest closer hits f e in
              record { more = hits_of r verdict ++ a.more; left = a.left; last = a.last; is = rw k a.is; through = judged low held j a.through; ends = a.ends }
          by_kind false k e = by_room k (ltb (length hits) room) e

        by_judgement : (judgement : Judgement) → judge r.polygon least ≡ judgement → after_turn (judged_turn r judgement) hits room go ≡ given f → Goal
        unfolding judged_turn
        by_judgement (reached verdict closer) j e = by_kind verdict closer j (eqb (kind_of verdict) 0) refl e
        by_judgement (J.failed last) j e = stop (row r rows) least hits 3 last f (broken low held j) e
        by_judgement (J.refused n) j e = let z : ◌≡◌ {A = ℕ} 0 1 = cc in absurd (omega arith)

      by_box : (t : Bool) → holds r.bounds fix ≡ t → after_turn (if t then judged_turn r (judge r.polygon least) else On least) hits room go ≡ given f → Goal
      by_box true held e = by_judgement held (judge r.polygon least) refl e
      by_box false held e = let a = rest least hits f e in
          record { more = a.more; left = a.left; last = a.last; is = a.is; through = outside low held a.through; ends = a.ends }

      by_row : after_turn (row_turn judge fix r least) hits room go ≡ given f → Goal
      unfolding row_turn
      by_row e = by_box (holds r.bounds fix) refl e

    by_above : (t : Bool) → is_above r.bounds fix ≡ t → (if t then ended hits (rest_mark end fix (row r rows)) least else after_turn (row_turn judge fix r least) hits room go) ≡ given f → Goal
    by_above true a e = stop (row r rows) least hits (rest_mark end fix (row r rows)) least f (above a refl) e
    by_above false a e = by_row a e

  sought : (rows : Rows) → Sought rows
  unfolding seek
  sought (row r rows) least hits f e = by_above r rows (sought rows) least hits f (is_above r.bounds fix) refl e
  sought table_end least hits f e = stop table_end least hits 1 least f at_the_end e
  sought unreadable least hits f e = stop unreadable least hits 2 least f unread e
  sought (T.refused n) least hits f e = let z : ◌≡◌ {A = ℕ} 0 1 = cc in absurd (omega arith)

  -- A search of rows that is answered has exactly the hits of the rows up to where it ends, and ends there for one of the four reasons.
  pub how_it_ends : (rows : Rows) (least : ℕ) (f : Found) → seek judge fix end room rows least [] ≡ given f → Ending judge fix end rows least f
  how_it_ends rows least f e = let a = sought rows least [] f e in
      record { left = a.left; last = a.last; through = subst (λ (hits : List Hit). Through judge fix rows least hits a.left a.last) (sym a.is) a.through; ends = a.ends }

-- the marks that a search can end with
abbrev pub end_marks : List ℕ
end_marks = 1 ∷ 2 ∷ 3 ∷ 4 ∷ []

rest_listed : (end : ℕ) (fix : Point) (rows : Rows) → Listed end_marks (rest_mark end fix rows)
unfolding rest_mark
rest_listed end fix (row r rows) = either (ltb end r.next) 2 _ refl (either (holds r.bounds fix) 4 (rest_mark end fix rows) refl (rest_listed end fix rows)) where
  either : (test : Bool) (m n : ℕ) → Listed end_marks m → Listed end_marks n → Listed end_marks (if test then m else n)
  either true m n h k = h
  either false m n h k = k
rest_listed end fix table_end = refl
rest_listed end fix unreadable = refl
rest_listed end fix (T.refused n) = refl

-- A search's mark is 1, 2, 3 or 4.
pub marks : {judge : ℕ → ℕ → Judgement} {fix : Point} {end : ℕ} {rows : Rows} {least mark last : ℕ} → Ends judge fix end rows least mark last → Listed end_marks mark
marks at_the_end = refl
marks (above {r} {rows} h m) = subst (Listed end_marks) (sym m) (rest_listed _ _ (row r rows))
marks unread = refl
marks (broken low held j) = refl

-- ---- in a file
pub met_check : {A : Type 0} {a : A} (check : Reply (Unit {0})) (next : Reply A) → given a ≡ (check >> next) → given a ≡ next
met_check (given u) next e = e
met_check (R.refused why) next e = let z : ◌≡◌ {A = ℕ} 0 1 = cc in absurd (omega arith)

pub behind_marks : {file : List ℕ} {location : Location} {asked : Bool} {matches : List Hit} {mark : ℕ} → Behind file location asked matches mark → Listed end_marks mark
behind_marks b = subst (Listed end_marks) (sym b.marked) (marks b.ending.ends)

pub matched_ends : (file : List ℕ) (head : Head) (location : Location) (asked : Bool) (room : ℕ) (m : Matched) → given head ≡ head_of file → given m ≡ matched_with file head location asked room
    → Behind file location asked m.matches m.mark
unfolding matched_with searched
matched_ends file head location asked room m h e = let fix = fix_of location head.preamble.precision in
    let s = given_from (searched file head fix asked room) _ (met_check (demand (is_precision head.preamble.precision) (plain 16)) _ e) in
    let is : m ≡ record { matches = merged s.it.hits; mark = s.it.mark; least = s.it.least } = cc in record {
      head = head;
      opened = sym h;
      found = s.it;
      ending = how_it_ends (judge_in file head fix asked) fix head.sections.metadata room (rows_in file head) farthest s.it (sym s.is);
      marked = ap (λ (x : Matched). x.mark) is;
      merges = ap (λ (x : Matched). x.matches) is;
    }
