-- A yard more whose values another yard has, or none: what a search among the records tells. Assumes nothing.
use Rattle.numbers.proofs.Prelude.{ℕ, suc, ◌+◌, ◌*◌, ◌^◌, ◌≤◌, ◌<◌, length, get_or, get_or-take, false, List, map, ◌≡◌, sym, ap, subst, ◌∙◌, arith}
use Rattle.builder.{proofs.grouping.{Meant.{starts_inside}, Walks.{fewer_inside}}, specs.{Grouping.Items.{item_at, starts_from}, Metadata.{records_of, start_of}, Sharing.{firsts, is_in, same_texts}}}
use Rattle.builder.specs.Yards.{Text, Yard}
use Rattle.notes.specs.{Chains.{Chains.{last_with, meets}, Entered.{is_first}}, declared.quick.place.Placing.{Placing}, inner.{Noted.OneMore.{OneMore}, Quick.Placed.{AddsAtMost, Beside, Places}}}
use Rattle.build.{proofs.{entries.Tabled.{begins_are}, recording.Spreading.{numbered_at}}, specs.Metadata.Kept.{begin_of, values_to}}
use Rattle.notes.proofs.{noted.{Noting.{Finds}, OneMore.{shared_more}, Sharing.{found_some, groups_shared}}, quick.Owned.{PlacesOwn}}
use Rattle.std.specs.Prelude.{Option, Some}

module _ (yards : List Yard) (y : Yard) (names count records remote : ℕ) (lengths texts chains groups begins : List ℕ)
    (b : Beside yards y names count records remote lengths (starts_from 0 lengths) texts chains groups begins)
    (found : ℕ) (finds : Finds (starts_from 0 lengths) texts names groups count found) where
  abbrev item : ℕ → List Text
  item yard = item_at (starts_from 0 lengths) texts (yard * names) names

  last_is : found ≡ last_with (meets (starts_from 0 lengths) texts names (is_first names lengths texts) count) count
  last_is = let noted = b.behind.noted in
      finds (is_first names lengths texts) count (fewer_inside (starts_from 0 lengths) texts (length lengths) ((count + 1) * names) (omega (arith, noted.all))
      (starts_inside lengths texts noted.whole)) b.grouped (omega arith)

  -- among the values of the yards or among the items
  in_same : is_in same_texts y.values (map (λ (x : Yard). x.values) yards) ≡ is_in same_texts (item_at (starts_from 0 lengths) texts (count * names) names) (values_to names lengths texts count)
  in_same = ap (λ (vs : List (List Text)). is_in same_texts y.values vs) b.behind.values_are ∙ ap (λ (own : List Text). is_in same_texts own (values_to names lengths texts count)) b.behind.own

  not_found : found ≤ 0 → is_in same_texts y.values (map (λ (x : Yard). x.values) yards) ≡ false
  not_found h = in_same ∙ (groups_shared names lengths texts count found last_is).own (omega arith)

  begin_at : (other : ℕ) → other < count → get_or begins other 0 ≡ start_of (records_of yards) (item_at (starts_from 0 lengths) texts (other * names) names)
  begin_at other h = let begin : ℕ → ℕ = begin_of names lengths texts count in let first : 0 + other ≡ other = omega arith in
      sym (get_or-take count begins other 0 h) ∙ (ap (λ (l : List ℕ). get_or l other 0) (b.begins_are ∙ sym (begins_are yards names lengths texts count b.behind.values_are))
      ∙ (numbered_at begin 0 count other h ∙ (ap begin first ∙ ap (λ (vs : List (List Text)). start_of (firsts same_texts vs) (item other)) (sym b.behind.values_are))))

  is_found : (other : ℕ) → found ≡ suc other → OneMore yards y 0 (get_or begins other 0)
  is_found other e = let two = (groups_shared names lengths texts count found last_is).shared other e in
      let same : start_of (records_of yards) y.values ≡ get_or begins other 0 = ap (start_of (records_of yards)) (b.behind.own ∙ two.1)
      ∙ sym (begin_at other (found_some names lengths texts count found last_is other e).0) in
      subst (OneMore yards y 0) same (shared_more yards y (in_same ∙ two.0))

-- ---- what is answered
module _ (names count records remote : ℕ) (starts texts chains groups begins : List ℕ) (found : ℕ) (finds : Finds starts texts names groups count found) where
  abbrev PlacesIt : Option Placing → Type 0
  PlacesIt r = AddsAtMost (2 ^ 41) r × ((yards : List Yard) (y : Yard) (lengths : List ℕ) → Beside yards y names count records remote lengths starts texts chains groups begins → Places yards y r)

  module _ (yards : List Yard) (y : Yard) (lengths : List ℕ) (b : Beside yards y names count records remote lengths starts texts chains groups begins) where
    plain : Beside yards y names count records remote lengths (starts_from 0 lengths) texts chains groups begins
    plain = subst (λ (s : List ℕ). Beside yards y names count records remote lengths s texts chains groups begins) b.behind.noted.begin b

    finds_plain : Finds (starts_from 0 lengths) texts names groups count found
    finds_plain = subst (λ (s : List ℕ). Finds s texts names groups count found) b.behind.noted.begin finds

  pub shared_at : (other : ℕ) → found ≡ suc other → PlacesIt (Some (record { by = 0; begin = get_or begins other 0 }))
  unfolding AddsAtMost Places
  shared_at other next = (
    omega arith,
    λ yards y lengths b. is_found yards y names count records remote lengths texts chains groups begins (plain yards y lengths b) found (finds_plain yards y lengths b) other next,
  )

  pub own_too : found ≤ 0 → (r : Option Placing) → PlacesOwn names count records remote starts texts chains r → PlacesIt r
  own_too h r own = (
    own.0,
    λ yards y lengths b. own.1 yards y lengths b.behind
        (not_found yards y names count records remote lengths texts chains groups begins (plain yards y lengths b) found (finds_plain yards y lengths b) h),
  )
