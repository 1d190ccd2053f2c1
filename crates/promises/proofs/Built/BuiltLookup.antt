-- The lookups in a file that was built from lent lists: reply and both lent buffers. Assumes nothing.
use Rattle.numbers.{proofs.Prelude.{ℕ, Bool, List, ◌⊎◌, inl, inr, ◌≡◌, refl, sym, ap, subst, ◌∙◌, arith}, specs.{Reply.{Reply, given, plain}, declared.refusal.Refusal.{Refusal}}}
use Rattle.builder.specs.{File.{Room, built_of}, Yards.{Lent, plan_of}}
use Rattle.promises.proofs.Built.{BuiltFinds.{built_finds}, LentPlans.{lent_valued}, OnlyRoom.{NoRoom, only_room}, Parts.{built_from}}
use Rattle.promises.specs.Built.Finds.{Valued, FindsInto}
use Rattle.table.specs.declared.location.Location.{Location}
use Rattle.zones.{proofs.StrictLookup.{strict_or_plain}, specs.{Lent.{Outcome, Replied, replied_of}, Lookup.{zones_in, looked_up, looked_strictly}, declared.lookup.Zones.{Zones}}}
use Rattle.numbers.specs.Reply as R

no_answer : {A : Type 0} {why : Refusal} {a : A} → ◌≡◌ {A = Reply A} (R.refused why) (given a) → ⊥
no_answer e = let z : ◌≡◌ {A = ℕ} 0 1 = cc in omega arith

module _ (lists : Lent) (room : Room) (file : List ℕ) (built : built_of (plan_of lists) room ≡ given file) (location : Location) (asked : Bool) (n space : ℕ) where
  valued : Valued (plan_of lists)
  valued = lent_valued lists (built_from (plan_of lists) room file built).counts

  -- Every lookup in it that is not refused finds each yard where its border alone says, with the yard's values.
  pub lookup_finds : (zones : Zones) → (looked_up file location asked n space).reply ≡ given zones → FindsInto (plan_of lists) room location asked n space (looked_up file location asked n space) zones
  unfolding looked_up replied_of
  lookup_finds zones e = go (zones_in file location asked n space) refl e where
    go : (r : Reply (Outcome Zones)) → zones_in file location asked n space ≡ r → (replied_of n space r).reply ≡ given zones
        → FindsInto (plan_of lists) room location asked n space (replied_of n space (zones_in file location asked n space)) zones
    go (given o) is said = record { outcome = o; finds = built_finds (plan_of lists) room file built valued location asked n space o is; answer = cc; into = ap (replied_of n space) is }
    go (R.refused why) is said = absurd (no_answer said)

  -- So does every strict one.
  pub strict_lookup_finds : (zones : Zones) → (looked_strictly file location asked n space).reply ≡ given zones
      → FindsInto (plan_of lists) room location asked n space (looked_strictly file location asked n space) zones
  unfolding replied_of
  strict_lookup_finds zones e = go (strict_or_plain file location asked n space) where
    go : (looked_strictly file location asked n space ≡ replied_of n space (R.refused (plain 31))) ⊎ (looked_strictly file location asked n space ≡ looked_up file location asked n space)
        → FindsInto (plan_of lists) room location asked n space (looked_strictly file location asked n space) zones
    go (inl is) = absurd (no_answer (sym (ap (λ (r : Replied Zones). r.reply) is) ∙ e))
    go (inr is) = rw is (lookup_finds zones (sym (ap (λ (r : Replied Zones). r.reply) is) ∙ e))

  -- Only 17 and 18 refuse a lookup in it.
  pub lookup_refused : (why : Refusal) → (looked_up file location asked n space).reply ≡ R.refused why → NoRoom why.number
  unfolding looked_up replied_of
  lookup_refused why e = go (zones_in file location asked n space) refl e where
    go : (r : Reply (Outcome Zones)) → zones_in file location asked n space ≡ r → (replied_of n space r).reply ≡ R.refused why → NoRoom why.number
    go (given o) is said = absurd (no_answer (sym said))
    go (R.refused why') is said = let same : why' ≡ why = cc in
        subst (λ (w : Refusal). NoRoom w.number) same (only_room (plan_of lists) room file built valued location asked n space why' is)
