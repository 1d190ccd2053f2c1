-- One row of a search, by its box and by its border's verdict; and a search that never stops early, row by row. Assumes nothing.
use Rattle.numbers.{proofs.Prelude.{ℕ, eqb, ltb, length, Bool, true, false, List, [], ◌∷◌, ◌++◌, ◌≡◌, refl, ap}, specs.{Answer.{if◌then◌else◌}, Reply.{Reply, given, refused, plain}}}
use Rattle.verdict.specs.{Verdict.{Judgement, reached}, declared.step.Verdict.{Verdict}}
use Rattle.border.specs.declared.place.Point.{Point}
use Rattle.table.specs.{Rows.{Rows, row, table_end}, Search.{kind_of, row_hit, judged_turn, Found, after_turn, row_turn}, Table.{holds}, Unstopped.{seek_all}, declared.hits.Hit.{Hit}}
use Rattle.table.specs.declared.{rows.Row.{Row}, search.Turn.TheVariants.{On, Met}}

module _ (r : Row) (hits : List Hit) (room : ℕ) (go : ℕ → List Hit → Reply Found) where
  -- a border that came to a verdict: no hit, or one for which there is room
  pub after_judged : (verdict : Verdict) (least : ℕ) → after_turn (judged_turn r (reached verdict least)) hits room go ≡ (if eqb (kind_of verdict) 0 then go least
      hits else (if ltb (length hits) room then go least (hits ++ (row_hit r (kind_of verdict) ∷ [])) else refused (plain 17)))
  unfolding judged_turn
  after_judged verdict least = by_kind (eqb (kind_of verdict) 0) where
    by_kind : (t : Bool) → after_turn (if t then On least else Met (row_hit r (kind_of verdict)) least) hits room go
        ≡ (if t then go least hits else (if ltb (length hits) room then go least (hits ++ (row_hit r (kind_of verdict) ∷ [])) else refused (plain 17)))
    by_kind true = refl
    by_kind false = refl

  module _ (judge : ℕ → ℕ → Judgement) (fix : Point) (least : ℕ) where
    -- a row whose box does not hold the location changes nothing
    pub after_outside : holds r.bounds fix ≡ false → after_turn (row_turn judge fix r least) hits room go ≡ go least hits
    unfolding row_turn
    after_outside e = ap (λ (t : Bool). after_turn (if t then judged_turn r (judge r.polygon least) else On least) hits room go) e

    -- one whose box holds it is judged
    pub after_held : holds r.bounds fix ≡ true → after_turn (row_turn judge fix r least) hits room go ≡ after_turn (judged_turn r (judge r.polygon least)) hits room go
    unfolding row_turn
    after_held e = ap (λ (t : Bool). after_turn (if t then judged_turn r (judge r.polygon least) else On least) hits room go) e

module _ (judge : ℕ → ℕ → Judgement) (fix : Point) (room least : ℕ) (hits : List Hit) where
  pub seek_row : (r : Row) (rows : Rows) → seek_all judge fix room (row r rows) least hits ≡ after_turn (row_turn judge fix r least) hits room (seek_all judge fix room rows)
  unfolding seek_all
  seek_row r rows = refl

  pub seek_end : seek_all judge fix room table_end least hits ≡ given (record { hits = hits; mark = 1; least = least })
  unfolding seek_all
  seek_end = refl
