-- Which numbers many fixes can be refused with, without an atlas and beside any words. Assumes nothing.
use Rattle.numbers.proofs.Prelude.{ℕ, ◌-◌, Float, length, Bool, true, false, List, [], ◌∷◌, ◌++◌, ◌≡◌, refl, sym, ap, subst, ◌∙◌, arith}
use Rattle.numbers.{proofs.{Refusals.{one_of, Listed, still_listed, listed_so}, Replies.{number_of_lem}, Tests.{differ}}, specs.{Reply.{Reply, plain, demand}, declared.refusal.Refusal.{Refusal}}}
use Rattle.atlas.{proofs.NumberedAtlas.{zones_beside_refusals}, specs.Beside.{matched_beside, zones_beside}}
use Rattle.zones.{proofs.{GivenHead.{looked_with_given}, NumberedLookup.{lookup_numbers, lookup_refusals}}, specs.{Lent.{Outcome, Replied, replied_of}, Lookup.{zones_with, looked_with}}}
use Rattle.zones.specs.declared.lookup.Zones.{Zones}
use Rattle.header.{proofs.Numbered.{header_numbers, head_numbered}, specs.{Header.{head_of}, declared.header.Head.{Head}}}
use Rattle.index.proofs.NumberedThrough.{through_numbers}
use Rattle.table.specs.{Hits.{words}, declared.location.Location.{Location}}
use Rattle.batch.specs.Many.{Batch, given, refused, ◌>>=◌, ◌>>◌, met_at, is_taken, fixes_of, Stamped, nothing, with_one, each_of, left_of, stamped_many, many_beside, looked_up_many}
use Rattle.numbers.specs.Reply as R

-- those of a lookup, and 33
abbrev pub many_numbers : List ℕ
many_numbers = lookup_numbers ++ 33 ∷ []

-- and 36 beside words
abbrev pub many_beside_numbers : List ℕ
many_beside_numbers = many_numbers ++ 36 ∷ []

same_why : {index index' : ℕ} {why why' : Refusal} → ◌≡◌ {A = Batch Stamped} (refused index why) (refused index' why') → why ≡ why'
same_why e = cc

never : {so : Stamped} {index : ℕ} {why : Refusal} → given so ≡ refused index why → ⊥
never e = let z : ◌≡◌ {A = ℕ} 0 1 = cc in omega arith

-- ---- by a list of numbers
module _ (numbers : List ℕ) where
  abbrev Known : Batch Stamped → Type 0
  Known b = (index : ℕ) (why : Refusal) → b ≡ refused index why → Listed numbers why.number

  -- that every lookup has
  abbrev Looks : (Location → ℕ → ℕ → Reply (Outcome Zones)) → Type 0
  Looks look = (fix : Location) (k r : ℕ) (why : Refusal) → look fix k r ≡ R.refused why → Listed numbers why.number

  each_known : (look : Location → ℕ → ℕ → Reply (Outcome Zones)) → Looks look → (n room : ℕ) (fixes : List Location) (so : Stamped) → Known (each_of look n room fixes so)
  unfolding each_of
  each_known look one n room [] so index why is = absurd (never is)
  each_known look one n room (fix ∷ fixes) so index why is =
      go (look fix (n - length (words so.matches)) (room - length so.text)) refl (each_known look one n room fixes) is where
        go : (z : Reply (Outcome Zones)) → look fix (n - length (words so.matches)) (room - length so.text) ≡ z → ((so : Stamped) → Known (each_of look n room fixes so))
            → (met_at (length so.answers) z >>= λ o. each_of look n room fixes (with_one so o)) ≡ refused index why → Listed numbers why.number
        go (R.given o) at_fix rest is = rest (with_one so o) index why is
        go (R.refused w) at_fix rest is = subst (λ (x : Refusal). Listed numbers x.number) (same_why is) (one fix _ _ w at_fix)

  module _ (file atlas : List ℕ) (lats lons : List Float) (asked : Bool) (n room third : ℕ) where
    abbrev from : Reply Head → Batch Stamped
    from opened = met_at 0 opened >>= λ head. each_of (λ fix. zones_beside file head atlas fix asked) n room (fixes_of lats lons) nothing

    -- they have 33, and those of opening
    stamped_known : Listed numbers 33 → ((m : ℕ) → Listed header_numbers m → Listed numbers m) → ((head : Head) → head_of file ≡ R.given head → Looks (λ fix. zones_beside file head atlas fix asked))
        → Known (stamped_many file atlas lats lons asked n room third)
    unfolding stamped_many
    stamped_known taken opening one index why = by_lists (is_taken (length lats) (length lons) third) where
      by_head : (r : Reply Head) → head_of file ≡ r → from r ≡ refused index why → Listed numbers why.number
      by_head (R.given head) opens is = each_known (λ fix. zones_beside file head atlas fix asked) (one head opens) n room (fixes_of lats lons) nothing index why is
      by_head (R.refused w) opens is = subst (λ (x : Refusal). Listed numbers x.number) (same_why is) (number_of_lem (head_numbered opening false differ file) opens)

      by_lists : (test : Bool) → (met_at 0 (demand test (plain 33)) >> from (head_of file)) ≡ refused index why → Listed numbers why.number
      by_lists true is = by_head (head_of file) refl is
      by_lists false is = subst (λ (x : Refusal). Listed numbers x.number) (same_why is) taken

    left_known : Known (stamped_many file atlas lats lons asked n room third) → (index : ℕ) (why : Refusal) → (many_beside file atlas lats lons asked n room third).reply ≡ refused index why
        → Listed numbers why.number
    unfolding many_beside left_of
    left_known known index why is = go (stamped_many file atlas lats lons asked n room third) known is where
      go : (b : Batch Stamped) → Known b → (left_of n room third b).reply ≡ refused index why → Listed numbers why.number
      go (given so) known is = let z : ◌≡◌ {A = ℕ} 0 1 = cc in absurd (omega arith)
      go (refused i w) known is = known index why (cc)

-- ---- without an atlas
one_known : (file : List ℕ) (asked : Bool) (head : Head) → head_of file ≡ R.given head → Looks many_numbers (λ fix. zones_beside file head [] fix asked)
unfolding looked_with zones_with zones_beside matched_beside replied_of
one_known file asked head e fix k r why is =
    still_listed lookup_numbers (33 ∷ []) why.number (lookup_refusals file fix asked k r why
    (ap (λ (x : Replied Zones). x.reply) (sym (looked_with_given file fix k r (sym e) asked)) ∙ ap (λ (z : Reply (Outcome Zones)). (replied_of k r z).reply) is))

opening_known : (m : ℕ) → Listed header_numbers m → Listed many_numbers m
opening_known m h = still_listed lookup_numbers (33 ∷ []) m (still_listed header_numbers (15 ∷ 16 ∷ 17 ∷ 18 ∷ []) m h)

module _ (file : List ℕ) (lats lons : List Float) (asked : Bool) (n room third : ℕ) where
  -- many fixes that are not answered are refused with one of these
  pub many_refusals : (index : ℕ) (why : Refusal) → (looked_up_many file lats lons asked n room third).reply ≡ refused index why → Listed many_numbers why.number
  unfolding looked_up_many
  many_refusals = left_known many_numbers file [] lats lons asked n room third (stamped_known many_numbers file [] lats lons asked n room third refl opening_known (one_known file asked))

-- ---- beside any words
-- Many fixes beside any words that are not answered are refused with the numbers of many fixes, or 36.
pub many_beside_refusals : (file words : List ℕ) (lats lons : List Float) (asked : Bool) (n room third : ℕ) (index : ℕ) (why : Refusal)
    → (many_beside file words lats lons asked n room third).reply ≡ refused index why → Listed many_beside_numbers why.number
many_beside_refusals file words lats lons asked n room third =
    left_known many_beside_numbers file words lats lons asked n room third (stamped_known many_beside_numbers file words lats lons asked n room third refl
    (λ m h. still_listed many_numbers (36 ∷ []) m (opening_known m h)) (λ head e fix k r why is. listed_so (one_of many_beside_numbers) through_numbers why.number refl
    (zones_beside_refusals file e words fix asked k r why is)))
