-- The two strict functions (request Q-6): refused 31 exactly where the plain walk meets a number that the file's end cuts, which is where they say something
-- else than the plain ones. Assumes nothing.
use Rattle.numbers.proofs.Prelude.{ℕ, ◌-◌, ◌<◌, length, get_or, Bool, true, false, List, ◌⊎◌, inl, inr, ◌↔◌, ◌≡◌, refl, sym, ap, ◌∙◌, arith}
use Rattle.numbers.{proofs.Refusals.{Listed}, specs.{Answer.{if◌then◌else◌}, Reply.{refused, plain}}}
use Rattle.header.{proofs.{Numbered.{opening_numbers, opening_refusals}, StrictHead.{strict_open_or_plain}}, specs.Opening.{opened_of, opened_strictly}}
use Rattle.table.specs.declared.location.Location.{Location}
use Rattle.zones.proofs.{CutLookup.{strict_lookup_cut, lookup_cut_ends}, CutOpening.{strict_open_cut, opening_cut_ends}, NumberedLookup.{lookup_numbers, lookup_refusals}}
use Rattle.zones.proofs.StrictLookup.{strict_or_plain}
use Rattle.zones.specs.{Cut.{EndsCut, opening_cut, lookup_cut}, Lent.{Replied, replied_of}, Lookup.{looked_up, looked_strictly}, declared.lookup.Zones.{Zones}}
use Rattle.header.specs.Opening as O

-- 31 is no number of the list
never : (numbers : List ℕ) → (Listed numbers 31 → false ≡ true) → Listed numbers 31 → ⊥
never numbers without listed = let no = without listed in let z : ◌≡◌ {A = ℕ} 0 1 = cc in omega arith

-- a file whose last byte is below 128 meets none
none_met : (file : List ℕ) (met : Bool) → (met ≡ true → EndsCut file) → get_or file (length file - 1) 0 < 128 → met ≡ false
none_met file true ends low = absurd (omega (arith, ends refl))
none_met file false ends low = refl

-- ---- `uskelzar_open_strict`
module _ (file : List ℕ) (room : ℕ) where
  plain_open : (opened_of file room).reply ≡ refused (plain 31) → ⊥
  plain_open e = never opening_numbers (λ z. z) (opening_refusals file room (plain 31) e)

  -- Refused 31 exactly where the plain opening meets a number that is not complete, before it is refused or ends.
  pub strict_open_exactly : ((opened_strictly file room).reply ≡ refused (plain 31)) ↔ (opening_cut file ≡ true)
  strict_open_exactly = (forth (opening_cut file) refl, back) where
    forth : (met : Bool) → opening_cut file ≡ met → (opened_strictly file room).reply ≡ refused (plain 31) → opening_cut file ≡ true
    forth true is e = is
    forth false is e =
        let same : opened_strictly file room ≡ opened_of file room = strict_open_cut file room ∙ ap (λ (met : Bool). if met then O.replied_of room (refused (plain 31)) else opened_of file room) is in
        absurd (plain_open (sym (ap (λ (r : O.Replied). r.reply) same) ∙ e))

    back : opening_cut file ≡ true → (opened_strictly file room).reply ≡ refused (plain 31)
    back is = ap (λ (r : O.Replied). r.reply) (strict_open_cut file room ∙ ap (λ (met : Bool). if met then O.replied_of room (refused (plain 31)) else opened_of file room) is)

  -- That is where it says something else than the plain opening.
  pub strict_open_differs : ((opened_strictly file room).reply ≡ refused (plain 31)) ↔ (opened_strictly file room ≡ opened_of file room → ⊥)
  strict_open_differs = (forth, back (strict_open_or_plain file room)) where
    forth : (opened_strictly file room).reply ≡ refused (plain 31) → opened_strictly file room ≡ opened_of file room → ⊥
    forth e same = plain_open (sym (ap (λ (r : O.Replied). r.reply) same) ∙ e)

    back : (opened_strictly file room ≡ O.replied_of room (refused (plain 31))) ⊎ (opened_strictly file room ≡ opened_of file room)
        → (opened_strictly file room ≡ opened_of file room → ⊥) → (opened_strictly file room).reply ≡ refused (plain 31)
    back (inl e) differ = ap (λ (r : O.Replied). r.reply) e
    back (inr e) differ = absurd (differ e)

  -- Where the file's last byte is below 128 it is the plain opening.
  pub whole_open : get_or file (length file - 1) 0 < 128 → opened_strictly file room ≡ opened_of file room
  whole_open low =
      strict_open_cut file room ∙ ap (λ (met : Bool). if met then O.replied_of room (refused (plain 31)) else opened_of file room) (none_met file (opening_cut file) (opening_cut_ends file) low)

-- ---- `uskelzar_lookup_strict`
module _ (file : List ℕ) (location : Location) (asked : Bool) (n room : ℕ) where
  plain_lookup : (looked_up file location asked n room).reply ≡ refused (plain 31) → ⊥
  plain_lookup e = never lookup_numbers (λ z. z) (lookup_refusals file location asked n room (plain 31) e)

  abbrev chosen : Bool → Replied Zones
  chosen met = if met then replied_of n room (refused (plain 31)) else looked_up file location asked n room

  -- Refused 31 exactly where the plain lookup meets a number that is not complete, before it is refused or ends. Behind an early stop it meets none: there a cut number is mark 2.
  pub strict_lookup_exactly : ((looked_strictly file location asked n room).reply ≡ refused (plain 31)) ↔ (lookup_cut file location asked n room ≡ true)
  unfolding replied_of
  strict_lookup_exactly = (forth (lookup_cut file location asked n room) refl, back) where
    forth : (met : Bool) → lookup_cut file location asked n room ≡ met → (looked_strictly file location asked n room).reply ≡ refused (plain 31) → lookup_cut file location asked n room ≡ true
    forth true is e = is
    forth false is e =
        let same : looked_strictly file location asked n room ≡ looked_up file location asked n room = strict_lookup_cut file location asked n room ∙ ap chosen is in
        absurd (plain_lookup (sym (ap (λ (r : Replied Zones). r.reply) same) ∙ e))

    back : lookup_cut file location asked n room ≡ true → (looked_strictly file location asked n room).reply ≡ refused (plain 31)
    back is = ap (λ (r : Replied Zones). r.reply) (strict_lookup_cut file location asked n room ∙ ap chosen is)

  -- That is where it says something else than the plain lookup.
  pub strict_lookup_differs : ((looked_strictly file location asked n room).reply ≡ refused (plain 31)) ↔ (looked_strictly file location asked n room ≡ looked_up file location asked n room → ⊥)
  unfolding replied_of
  strict_lookup_differs = (forth, back (strict_or_plain file location asked n room)) where
    forth : (looked_strictly file location asked n room).reply ≡ refused (plain 31) → looked_strictly file location asked n room ≡ looked_up file location asked n room → ⊥
    forth e same = plain_lookup (sym (ap (λ (r : Replied Zones). r.reply) same) ∙ e)

    back : (looked_strictly file location asked n room ≡ replied_of n room (refused (plain 31))) ⊎ (looked_strictly file location asked n room ≡ looked_up file location asked n room)
        → (looked_strictly file location asked n room ≡ looked_up file location asked n room → ⊥) → (looked_strictly file location asked n room).reply ≡ refused (plain 31)
    back (inl e) differ = ap (λ (r : Replied Zones). r.reply) e
    back (inr e) differ = absurd (differ e)

  -- Where the file's last byte is below 128 it is the plain lookup.
  pub whole_lookup : get_or file (length file - 1) 0 < 128 → looked_strictly file location asked n room ≡ looked_up file location asked n room
  whole_lookup low = strict_lookup_cut file location asked n room ∙ ap chosen (none_met file (lookup_cut file location asked n room) (lookup_cut_ends file location asked n room) low)
