-- The hours of the matches, asked one by one. Assumes nothing.
use Rattle.numbers.proofs.Prelude.{ℕ, ◌+◌, ◌≤◌, ◌<◌, ℤ, length, drop, get_or, length-append, drop_of_length-le, drop-cons, Bool, true, ◌&&◌, List, [], ◌∷◌, ◌++◌, append_assoc, append-nil, ◌≡◌, refl}
use Rattle.numbers.{proofs.Prelude.{sym, ap, ◌∙◌, add-one, arith}, specs.{Reply.{Reply, given, refused, ◌>>=◌}, declared.refusal.Refusal.{Refusal}}}
use mathlib.Core.Bool.{and-true, and_assoc}
use Rattle.header.specs.declared.header.Head.{Head}
use Rattle.slip.specs.{Hour.{Hour, hour_of, hours_from}, Slip.{have_offset}, Told.{hour_at, Stands, Seen}, declared.hour.Spot.{Spot}}
use Rattle.table.{proofs.Agreeing.{agree_given}, specs.{Hits.{no_hit}, declared.hits.Hit.{Hit}, inner.Agreeing.{Agrees}}}
use Rattle.verdict.{proofs.Compared.{same_self}, specs.Edge.{same_z}}

-- those that came before the rest
abbrev behind : List Hour → Reply (List Hour) → Reply (List Hour)
behind done rest = rest >>= λ hours. given (done ++ hours)

behind_none : (rest : Reply (List Hour)) → behind [] rest ≡ rest
behind_none (given hours) = refl
behind_none (refused why) = refl

-- one more came
behind_one : (done : List Hour) (hour : Hour) (rest : Reply (List Hour)) → behind done (rest >>= λ hours. given (hour ∷ hours)) ≡ behind (done ++ (hour ∷ [])) rest
behind_one done hour (given hours) = ap given (sym (append_assoc done (hour ∷ []) hours))
behind_one done hour (refused why) = refl

module _ (map : List ℕ) (head : Head) (zones : List ℕ) (instant : ℤ) where
  abbrev hour_there : ℕ → Hit → Reply Hour
  hour_there = hour_of map head zones instant

  abbrev hours_there : ℕ → List Hit → Reply (List Hour)
  hours_there = hours_from map head zones instant

  -- the first i matches said these hours, and what is left of the matches gives the rest
  pub record Asked (matches : List Hit) (i : ℕ) (done : List Hour) : Type 0 where
    pub whole : behind done (hours_there (i + 1) (drop i matches)) ≡ hours_there 1 matches
    pub many : length done ≡ i

  pub asked_none : (matches : List Hit) → Asked matches 0 []
  asked_none matches = record { whole = behind_none (hours_there 1 matches); many = refl }

  module _ (matches : List Hit) (i : ℕ) (done : List Hour) (so_far : Asked matches i done) where
    module _ (more : i < length matches) {hit : Hit} (is : hit ≡ get_or matches i no_hit) where
      opened : hours_there (i + 1) (drop i matches) ≡ (hour_there (i + 1) hit >>= λ hour. hours_there (i + 1 + 1) (drop (i + 1) matches) >>= λ hours. given (hour ∷ hours))
      unfolding hours_from
      opened = let cons : drop i matches ≡ hit ∷ drop (i + 1) matches = drop-cons matches i no_hit more ∙ (λ j. sym is j ∷ drop (sym (add-one i) j) matches) in
          ap (hours_there (i + 1)) cons

      pub asked_one : {hour : Hour} → hour_there (i + 1) hit ≡ given hour → Asked matches (i + 1) (done ++ (hour ∷ []))
      asked_one {hour} e = record {
        whole =
            sym (behind_one done hour (hours_there (i + 1 + 1) (drop (i + 1) matches)))
            ∙ ap (λ (h : Reply Hour). behind done (h >>= λ hour. hours_there (i + 1 + 1) (drop (i + 1) matches) >>= λ hours. given (hour ∷ hours))) (sym e)
            ∙ ap (behind done) (sym opened)
            ∙ so_far.whole;
        many = length-append done (hour ∷ []) ∙ omega (arith, so_far.many);
      }

      pub asked_stop : {why : Refusal} → hour_there (i + 1) hit ≡ refused why → refused why ≡ hours_there 1 matches
      asked_stop {why} e =
          ap (λ (h : Reply Hour). behind done (h >>= λ hour. hours_there (i + 1 + 1) (drop (i + 1) matches) >>= λ hours. given (hour ∷ hours))) (sym e) ∙ ap (behind done) (sym opened) ∙ so_far.whole

    pub asked_all : length matches ≤ i → given done ≡ hours_there 1 matches
    unfolding hours_from
    asked_all h = let none : drop i matches ≡ [] = drop_of_length-le matches {i = i} h in
        ap given (sym (append-nil done)) ∙ ap (λ (rest : List Hit). behind done (hours_there (i + 1) rest)) (sym none) ∙ so_far.whole

-- ---- offsets
-- one more is held against the first
pub offset_one : (offset : ℤ) (done : List Hour) (hour : Hour) → have_offset offset (done ++ (hour ∷ [])) ≡ (have_offset offset done && same_z hour.offset offset)
unfolding have_offset
offset_one offset [] hour = and-true (same_z hour.offset offset)
offset_one offset (one ∷ done) hour =
    ap (λ (t : Bool). same_z one.offset offset && t) (offset_one offset done hour) ∙ sym (and_assoc (same_z one.offset offset) (have_offset offset done) (same_z hour.offset offset))

-- ---- the first match, and whether the others agree with it
module _ (map : List ℕ) (head : Head) (zones : List ℕ) (instant : ℤ) where
  pub record Agreeing (matches : List Hit) (first : Spot) (agree : Bool) (i : ℕ) : Type 0 where
    pub others : List Hour
    pub asked : Asked map head zones instant matches i (hour_at map zones first ∷ others)
    pub agrees : agree ≡ have_offset first.offset (hour_at map zones first ∷ others)
    pub stands : Stands (length map) (length zones) first

  pub agreeing_one : (matches : List Hit) (first : Spot) {hit : Hit} → 0 < length matches → hit ≡ get_or matches 0 no_hit → hour_of map head zones instant 1 hit ≡ given (hour_at map zones first)
      → Stands (length map) (length zones) first → Agreeing matches first true 1
  unfolding have_offset
  agreeing_one matches first {hit} h is e stands = record {
    others = [];
    asked = asked_one map head zones instant matches 0 [] (asked_none map head zones instant matches) h is e;
    agrees = rw (same_self first.offset) refl;
    stands = stands;
  }

  pub agreeing_more : (matches : List Hit) (first spot : Spot) {agree after : Bool} (i : ℕ) {hit : Hit} → Agreeing matches first agree i → i < length matches → hit ≡ get_or matches i no_hit
      → hour_of map head zones instant (i + 1) hit ≡ given (hour_at map zones spot) → after ≡ (agree && same_z spot.offset first.offset) → Agreeing matches first after (i + 1)
  agreeing_more matches first spot i a h is e b = record {
    others = a.others ++ (hour_at map zones spot ∷ []);
    asked = asked_one map head zones instant matches i (hour_at map zones first ∷ a.others) a.asked h is e;
    agrees =
        b
        ∙ ap (λ (t : Bool). t && same_z spot.offset first.offset) a.agrees
        ∙ sym (offset_one first.offset (hour_at map zones first ∷ a.others) (hour_at map zones spot));
    stands = a.stands;
  }

  pub agreeing_stop : (matches : List Hit) (first : Spot) {agree : Bool} (i : ℕ) {hit : Hit} {why : Refusal} → Agreeing matches first agree i → i < length matches → hit ≡ get_or matches i no_hit
      → hour_of map head zones instant (i + 1) hit ≡ refused why → refused why ≡ hours_from map head zones instant 1 matches
  agreeing_stop matches first i a h is e = asked_stop map head zones instant matches i (hour_at map zones first ∷ a.others) a.asked h is e

  pub agreeing_all : (matches : List Hit) (first : Spot) (agree : Bool) (i : ℕ) → Agreeing matches first agree i → length matches ≤ i
      → Agrees (Seen map zones) (hours_from map head zones instant 1 matches) (given (record { first = first; agree = agree }))
  agreeing_all matches first agree i a h =
      agree_given (Seen map zones) (asked_all map head zones instant matches i (hour_at map zones first ∷ a.others) a.asked h)
      (record { others = a.others; are = refl; agree = a.agrees; stands = a.stands })
