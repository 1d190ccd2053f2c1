-- The search's loop: what holds before each row, and what a row makes of it. Assumes nothing.
use Rattle.numbers.proofs.Prelude.{ℕ, ◌+◌, ◌/◌, ◌≤◌, ◌<◌, Bool, true, false, List, [], ◌≡◌, sym, ap, ◌∙◌}
use Rattle.numbers.{proofs.Answers.{chosen, other}, specs.{Lists.{zeros}, Reply.{Reply, given, plain}, Varint.{reading_of}}}
use Rattle.verdict.specs.Verdict.{Judgement}
use Rattle.border.specs.declared.place.Point.{Point}
use Rattle.table.proofs.Agreeing.{agree_refused}
use Rattle.table.specs.{Hits.{width, put_hit}, Rest.{rest_mark}, Rows.{Rows, row, table_end, unreadable, rows_from}, Search.{row_turn, Found, ended, after_turn, seek, Sought}, Table.{is_above}}
use Rattle.table.specs.{declared.{hits.Hit.{Hit}, rows.{Cursor.{Cursor}, Row.{Row}}, search.Turn.{Turn, TheVariants.{On, Met, Stopped, Refused}}}, inner.Agreeing.{Agrees}}
use Rattle.table.specs.inner.Passing.{PassedOver}
use Rattle.numbers.specs.Reply as R
use Rattle.table.proofs.search.SoFar as F
use Rattle.table.specs.Rows as T

-- the hits so far, and the search of the rows that are left gives the whole
abbrev pub Going : (ℕ → ℕ → Judgement) → Point → ℕ → ℕ → Reply Found → Rows → List ℕ → ℕ → ℕ → Type 0
Going judge fix end n whole rows = F.SoFar n whole (seek judge fix end (n / width) rows)

module _ (judge : ℕ → ℕ → Judgement) (fix : Point) (end n : ℕ) where
  pub starts : {rows all : Rows} (ws : List ℕ) (least : ℕ) → ws ≡ zeros n → rows ≡ all → Going judge fix end n (seek judge fix end (n / width) all least []) rows ws 0 least
  starts ws least z e = F.starts n _ ws least z (ap (λ (r : Rows). seek judge fix end (n / width) r least []) e)

  -- rows that may be passed over make no difference
  pub passed_on : (strict : Bool) {file : List ℕ} {at next : Cursor} {whole : Reply Found} {ws : List ℕ} {count least : ℕ} → PassedOver file end fix at next
      → Going judge fix end n whole (rows_from (reading_of strict file) end at) ws count least → Going judge fix end n whole (rows_from (reading_of strict file) end next) ws count least
  passed_on strict {least = least} p g = F.on g _ (sym (p.same strict judge (n / width) least g.hits) ∙ g.so_far)

  module _ {whole : Reply Found} {rows : Rows} {ws : List ℕ} {count least : ℕ} (g : Going judge fix end n whole rows ws count least) where
    -- the search of these rows is the whole
    of_rows : {rows' : Rows} → rows ≡ rows' → seek judge fix end (n / width) rows' least g.hits ≡ whole
    of_rows e = ap (λ (r : Rows). seek judge fix end (n / width) r least g.hits) (sym e) ∙ g.so_far

    pub at_table_end : rows ≡ table_end → Agrees (Sought n ws) whole (given (F.how count 1 least))
    unfolding seek
    at_table_end e = F.ends g 1 least (of_rows e)

    pub at_unreadable : rows ≡ unreadable → Agrees (Sought n ws) whole (given (F.how count 2 least))
    unfolding seek
    at_unreadable e = F.ends g 2 least (of_rows e)

    pub at_refused : (ws' : List ℕ) {k : ℕ} → rows ≡ T.refused k → Agrees (Sought n ws') whole (R.refused (plain k))
    unfolding seek
    at_refused ws' e = agree_refused (Sought n ws') (of_rows e)

    module _ {r : Row} {rest : Rows} (is : rows ≡ row r rest) where
      -- a row above the location stops it, with the mark that the rest of the table gives
      pub early : {mark : ℕ} → is_above r.bounds fix ≡ true → mark ≡ rest_mark end fix (row r rest) → Agrees (Sought n ws) whole (given (F.how count mark least))
      unfolding seek
      early {mark} up m = F.ends g mark least (ap (λ (k : ℕ). ended g.hits k least) m ∙ chosen up (ended g.hits (rest_mark end fix (row r rest)) least) _ ∙ of_rows is)

      -- what the turn gives is the whole
      abbrev later : ℕ → List Hit → Reply Found
      later = seek judge fix end (n / width) rest

      turned : {t : Turn} → is_above r.bounds fix ≡ false → t ≡ row_turn judge fix r least → after_turn t g.hits (n / width) later ≡ whole
      unfolding seek
      turned {t} low e = ap (λ (u : Turn). after_turn u g.hits (n / width) later) e ∙ other low _ (after_turn (row_turn judge fix r least) g.hits (n / width) later) ∙ of_rows is

      module _ (low : is_above r.bounds fix ≡ false) where
        pub stops : {mark last : ℕ} → Stopped mark last ≡ row_turn judge fix r least → Agrees (Sought n ws) whole (given (F.how count mark last))
        stops e = F.stops g later (turned low e)

        pub refuses : (ws' : List ℕ) {k : ℕ} → Refused k ≡ row_turn judge fix r least → Agrees (Sought n ws') whole (R.refused (plain k))
        refuses ws' e = F.refuses g later ws' (turned low e)

        pub on : {closer : ℕ} → On closer ≡ row_turn judge fix r least → Going judge fix end n whole rest ws count closer
        on e = F.on g later (turned low e)

        module _ {hit : Hit} {closer : ℕ} (e : Met hit closer ≡ row_turn judge fix r least) where
          pub full : (ws' : List ℕ) → n / width ≤ count → Agrees (Sought n ws') whole (R.refused (plain 17))
          full = F.full g later hit closer (turned low e)

          pub met : count < n / width → (hit.kind ≡ 0 → ⊥) → Going judge fix end n whole rest (put_hit ws count hit) (count + 1) closer
          met room kind = F.met g later hit closer (turned low e) room kind
