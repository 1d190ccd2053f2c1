-- Lookups in two files whose tables have like rows, one by one, give the same matches, texts and safezone, or the same refusal: the end mark and the entries' places aside. Assumes nothing.
use Rattle.numbers.proofs.Prelude.{ℕ, eqb, ltb, length, length-map, Bool, true, false, List, [], ◌∷◌, ◌++◌, ◌≡◌, refl, sym, ap, ◌∙◌, arith}
use Rattle.numbers.specs.{Answer.{if◌then◌else◌}, Reply.{Reply, given, plain, ◌>>=◌}}
use Rattle.verdict.specs.Verdict.{Judgement, reached}
use Rattle.border.specs.declared.place.Point.{Point}
use Rattle.header.specs.declared.header.Head.{Head}
use Rattle.table.{proofs.Merged.{Each, end, next, both}, specs.{Find.{Matched}, Hits.{hit_of}, Rest.{rest_mark}, Rows.{row, as_rows}, Search.{kind_of, row_hit, judged_turn, row_turn, Found, ended}}}
use Rattle.table.specs.{Search.{after_turn, seek, judge_in}, Table.{is_above, holds}, declared.{hits.Hit.{Hit}, rows.Row.{Row}, search.Turn.TheVariants.{On, Met}, table.Bounds.{Bounds}}}
use Rattle.zones.{proofs.PlaceLeftOut.{bare_hit, bare, bare_append}, specs.Fields.{fields_place}}
use Rattle.promises.proofs.Salvaged.Carried.{SameTexts}
use Rattle.verdict.specs.Verdict as J
use Rattle.numbers.specs.Reply as R

-- what is compared
abbrev pub compared : {A B : Type 0} → (A → B) → Reply A → Reply B
compared look r = r >>= λ a. given (look a)

abbrev pub bare_found : Found → Found
bare_found f = record { hits = bare f.hits; mark = 0; least = f.least }

abbrev pub bare_matched : Matched → Matched
bare_matched f = record { matches = bare f.matches; mark = 0; least = f.least }

-- two replies of which the same is seen
pub both_given : {A B C D : Type 0} (look : A → B) (look' : C → D) (r s : Reply A) (k k' : A → Reply C) → compared look r ≡ compared look s
    → ((a b : A) → s ≡ given b → look a ≡ look b → compared look' (k a) ≡ compared look' (k' b)) → compared look' (r >>= k) ≡ compared look' (s >>= k')
both_given look look' (given a) (given b) k k' e h = h a b refl (cc (e))
both_given look look' (R.refused why) (R.refused why') k k' e h = let same : why ≡ why' = cc (e) in ap R.refused same
both_given look look' (given a) (R.refused why) k k' e h = let z : ◌≡◌ {A = ℕ} 0 1 = cc in absurd (omega arith)
both_given look look' (R.refused why) (given b) k k' e h = let z : ◌≡◌ {A = ℕ} 0 1 = cc in absurd (omega arith)

module _ (f f' : List ℕ) (h h' : Head) where
  -- the strings of a metadata id's record read alike
  abbrev pub SameRecord : ℕ → Type 0
  SameRecord id = SameTexts f f' h h' h.preamble.count (fields_place h id) (fields_place h' id)

  pub record Likewise (r r' : Row) : Type 0 where
    pub number : r'.id ≡ r.id
    pub box : r'.bounds ≡ r.bounds
    pub id : r'.metadata ≡ r.metadata
    pub border : (fix : Point) (asked : Bool) (least : ℕ) → judge_in f' h' fix asked r'.polygon least ≡ judge_in f h fix asked r.polygon least
    pub strings : SameRecord r.metadata

  pub data AllLike : List Row → List Row → Type 0 where
    none_like : AllLike [] []
    next_like : {r r' : Row} {rows rows' : List Row} → Likewise r r' → AllLike rows rows' → AllLike (r ∷ rows) (r' ∷ rows')

  -- ---- the search
  module _ (fix : Point) (asked : Bool) (last last' room : ℕ) where
    abbrev judge : ℕ → ℕ → Judgement
    judge = judge_in f h fix asked

    abbrev judge' : ℕ → ℕ → Judgement
    judge' = judge_in f' h' fix asked

    abbrev Alike : (ℕ → List Hit → Reply Found) → (ℕ → List Hit → Reply Found) → Type 0
    Alike go' go = (least : ℕ) (hits hits' : List Hit) → bare hits' ≡ bare hits → compared bare_found (go' least hits') ≡ compared bare_found (go least hits)

    module _ (go' go : ℕ → List Hit → Reply Found) (on : Alike go' go) (r r' : Row) (l : Likewise r r') (hits hits' : List Hit) (e : bare hits' ≡ bare hits) where
      same_length : length hits' ≡ length hits
      same_length = sym (length-map hits' bare_hit) ∙ ap length e ∙ length-map hits bare_hit

      appended : (kind : ℕ) → bare (hits' ++ row_hit r' kind ∷ []) ≡ bare (hits ++ row_hit r kind ∷ [])
      appended kind = sym (bare_append hits' (row_hit r' kind ∷ [])) ∙ (λ i. e i ++ (hit_of (l.number i) (l.id i) kind 0 ∷ [])) ∙ bare_append hits (row_hit r kind ∷ [])

      by_room : (kind least : ℕ) (t : Bool) → compared bare_found (if t then go' least (hits' ++ row_hit r' kind ∷ []) else R.refused (plain 17))
          ≡ compared bare_found (if t then go least (hits ++ row_hit r kind ∷ []) else R.refused (plain 17))
      by_room kind least true = on least (hits ++ row_hit r kind ∷ []) (hits' ++ row_hit r' kind ∷ []) (appended kind)
      by_room kind least false = refl

      by_kind : (kind least : ℕ) (t : Bool) → compared bare_found (after_turn (if t then On least else Met (row_hit r' kind) least) hits' room go')
          ≡ compared bare_found (after_turn (if t then On least else Met (row_hit r kind) least) hits room go)
      by_kind kind least true = on least hits hits' e
      by_kind kind least false = rw same_length (by_room kind least (ltb (length hits) room))

      by_judgement : (judgement : Judgement) → compared bare_found (after_turn (judged_turn r' judgement) hits' room go') ≡ compared bare_found (after_turn (judged_turn r judgement) hits room go)
      unfolding judged_turn
      by_judgement (reached verdict least) = by_kind (kind_of verdict) least (eqb (kind_of verdict) 0)
      by_judgement (J.failed least) = λ i. given (record { hits = e i; mark = 0; least = least })
      by_judgement (J.refused n) = refl

      by_row : (least : ℕ) → compared bare_found (after_turn (row_turn judge' fix r' least) hits' room go') ≡ compared bare_found (after_turn (row_turn judge fix r least) hits room go)
      unfolding row_turn
      by_row least =
          ap (λ (b : Bounds). compared bare_found (after_turn (if holds b fix then judged_turn r' (judge' r'.polygon least) else On least) hits' room go')) l.box
          ∙ ap (λ (j : Judgement). compared bare_found (after_turn (if holds r.bounds fix then judged_turn r' j else On least) hits' room go')) (l.border fix asked least)
          ∙ go_on (holds r.bounds fix) where
            go_on : (held : Bool) → compared bare_found (after_turn (if held then judged_turn r' (judge r.polygon least) else On least) hits' room go')
                ≡ compared bare_found (after_turn (if held then judged_turn r (judge r.polygon least) else On least) hits room go)
            go_on true = by_judgement (judge r.polygon least)
            go_on false = on least hits hits' e

    pub seek_like : {rows rows' : List Row} → AllLike rows rows' → Alike (seek judge' fix last' room (as_rows rows')) (seek judge fix last room (as_rows rows))
    unfolding seek as_rows
    seek_like none_like least hits hits' e = λ i. given (record { hits = e i; mark = 0; least = least })
    seek_like (next_like {r = r} {r' = r'} {rows = rows} {rows' = rows'} l later) least hits hits' e =
        ap (λ (b : Bounds). compared bare_found (if is_above b fix then ended hits' (rest_mark last' fix (row r' (as_rows rows'))) least else after_turn
        (row_turn judge' fix r' least) hits' room (seek judge' fix last' room (as_rows rows')))) l.box
        ∙ by_above (is_above r.bounds fix) _ _ (by_row (seek judge' fix last' room (as_rows rows')) (seek judge fix last room (as_rows rows)) (seek_like later) r r' l hits hits' e least) where
          by_above : (above : Bool) (on' on : Reply Found) → compared bare_found on' ≡ compared bare_found on
              → compared bare_found (if above then ended hits' (rest_mark last' fix (row r' (as_rows rows'))) least else on') ≡ compared bare_found (if above then
              ended hits (rest_mark last fix (row r (as_rows rows))) least else on)
          by_above true on' on k = λ i. given (record { hits = e i; mark = 0; least = least })
          by_above false on' on k = k

    -- ---- each hit is a row's, so its strings read alike
    abbrev pub Fielded : Hit → Type 0
    Fielded hit = SameRecord hit.metadata

    abbrev pub EachGiven : Reply Found → Type 0
    EachGiven (given found) = Each Fielded found.hits
    EachGiven (R.refused why) = Unit

    abbrev Stays : (ℕ → List Hit → Reply Found) → Type 0
    Stays go = (least : ℕ) (hits : List Hit) → Each Fielded hits → EachGiven (go least hits)

    turn_each : (go : ℕ → List Hit → Reply Found) → Stays go → (r : Row) → SameRecord r.metadata → (hits : List Hit) → Each Fielded hits → (least : ℕ)
        → EachGiven (after_turn (row_turn judge fix r least) hits room go)
    unfolding row_turn judged_turn
    turn_each go on r same hits each least = by_box (holds r.bounds fix) where
      by_room : (kind closer : ℕ) (t : Bool) → EachGiven (if t then go closer (hits ++ row_hit r kind ∷ []) else R.refused (plain 17))
      by_room kind closer true = on closer (hits ++ row_hit r kind ∷ []) (both each (next same end))
      by_room kind closer false = tt

      by_kind : (kind closer : ℕ) (t : Bool) → EachGiven (after_turn (if t then On closer else Met (row_hit r kind) closer) hits room go)
      by_kind kind closer true = on closer hits each
      by_kind kind closer false = by_room kind closer (ltb (length hits) room)

      by_judgement : (judgement : Judgement) → EachGiven (after_turn (judged_turn r judgement) hits room go)
      by_judgement (reached verdict closer) = by_kind (kind_of verdict) closer (eqb (kind_of verdict) 0)
      by_judgement (J.failed closer) = each
      by_judgement (J.refused n) = tt

      by_box : (held : Bool) → EachGiven (after_turn (if held then judged_turn r (judge r.polygon least) else On least) hits room go)
      by_box true = by_judgement (judge r.polygon least)
      by_box false = on least hits each

    pub seek_each : {rows rows' : List Row} → AllLike rows rows' → Stays (seek judge fix last room (as_rows rows))
    unfolding seek as_rows
    seek_each none_like least hits each = each
    seek_each (next_like {r = r} {rows = rows} l later) least hits each =
        by_above (is_above r.bounds fix) _ (turn_each (seek judge fix last room (as_rows rows)) (seek_each later) r l.strings hits each least) where
          by_above : (above : Bool) (on : Reply Found) → EachGiven on → EachGiven (if above then ended hits (rest_mark last fix (row r (as_rows rows))) least else on)
          by_above true on k = each
          by_above false on k = k
