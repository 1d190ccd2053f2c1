-- A search by marks that say of each border what the border says is the search without them. Assumes nothing.
use Rattle.numbers.{proofs.Prelude.{ℕ, ◌/◌, ◌<◌, ltb-true, ltb, length, Bool, true, false, List, [], ◌∷◌, ◌≡◌, refl, sym, ap, ◌∙◌}, specs.Answer.{if◌then◌else◌}}
use Rattle.border.specs.declared.place.Point.{Point}
use Rattle.header.specs.declared.header.Head.{Head}
use Rattle.table.proofs.listed.Given.{turn_of}
use Rattle.table.specs.{Find.{matched_by}, GivenRows.{record_word, box_at, row_at, rows_by, rows_listed, searched_listed, matched_listed}}
use Rattle.table.specs.{MarkedRows.{judge_numbered, row_numbered, rows_numbered, searched_marked, matched_marked}, Rows.{Rows, row}, Search.{judged_turn, after_turn, row_turn, judge_in, farthest}}
use Rattle.table.specs.{Table.{holds}, Unstopped.{seek_all}, declared.{hits.Hit.{Hit}, location.Location.{Location}, search.Turn.{Turn, TheVariants.{On}}}}
use Rattle.verdict.specs.Verdict.{Judgement}
use Rattle.table.specs.Rows as T

module _ (file : List ℕ) (head : Head) (asked : Bool) (records marks : List ℕ) where
  -- each record's border is judged by its marks as it is without them
  abbrev pub Right : Point → Type 0
  Right fix = (k : ℕ) → k < length records / 7 → (least : ℕ) → judge_numbered file head fix asked records marks k least ≡ judge_in file head fix asked (record_word records k 2) least

  module _ (fix : Point) (right : Right fix) where
    abbrev marked : ℕ → ℕ → Judgement
    marked = judge_numbered file head fix asked records marks

    abbrev plain : ℕ → ℕ → Judgement
    plain = judge_in file head fix asked

    turn_alike : (k least : ℕ) → k < length records / 7 → row_turn marked fix (row_numbered records k) least ≡ row_turn plain fix (row_at records k) least
    unfolding row_turn
    turn_alike k least h =
        ap (λ (t : Turn). if holds (box_at records k) fix then t else On least)
        (ap (judged_turn (row_numbered records k)) (right k h least) ∙ sym (turn_of (λ r i. i) records k (plain (record_word records k 2) least)))

    abbrev Alike : ℕ → Rows → Rows → Type 0
    Alike room rows rows' = (least : ℕ) (hits : List Hit) → seek_all marked fix room rows least hits ≡ seek_all plain fix room rows' least hits

    seek_alike : (room : ℕ) (numbers : List ℕ) → Alike room (rows_numbered records numbers) (rows_listed records numbers)
    unfolding rows_by seek_all
    seek_alike room [] least hits = refl
    seek_alike room (k ∷ numbers) least hits = choose (ltb k (length records / 7)) refl (seek_alike room numbers) where
      choose : (b : Bool) → ltb k (length records / 7) ≡ b → Alike room (rows_numbered records numbers) (rows_listed records numbers)
          → seek_all marked fix room (if b then row (row_numbered records k) (rows_numbered records numbers) else T.refused 36) least hits
          ≡ seek_all plain fix room (if b then row (row_at records k) (rows_listed records numbers) else T.refused 36) least hits
      choose true e rest = λ i. after_turn (turn_alike k least (ltb-true k (length records / 7) e) i) hits room (λ l hs. rest l hs i)
      choose false e rest = refl

    search_alike : (numbers : List ℕ) (room : ℕ) → searched_marked file head fix asked records numbers marks room ≡ searched_listed file head fix asked records numbers room
    unfolding searched_marked searched_listed
    search_alike numbers room = seek_alike room numbers farthest []

  pub matched_alike : ((fix : Point) → Right fix) → (location : Location) (numbers : List ℕ) (room : ℕ)
      → matched_marked file head location asked records numbers marks room ≡ matched_listed file head location asked records numbers room
  unfolding matched_marked matched_listed
  matched_alike right location numbers room = λ i. matched_by head location (λ fix. search_alike fix (right fix) numbers room i)
