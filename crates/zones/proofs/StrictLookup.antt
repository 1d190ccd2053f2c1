-- Lookup read strictly (request Q-6): refused 31, or the plain lookup's reply and lent output. Assumes nothing.
use Rattle.numbers.{proofs.Prelude.{ℕ, Bool, true, false, List, ◌⊎◌, inl, inr, ◌≡◌}, specs.{Answer.{if◌then◌else◌}, Reply.{refused, plain}}}
use Rattle.table.specs.declared.location.Location.{Location}
use Rattle.zones.proofs.CutLookup.{strict_lookup_cut}
use Rattle.zones.specs.{Cut.{lookup_cut}, Lent.{Replied, replied_of}, Lookup.{looked_up, looked_strictly}, declared.lookup.Zones.{Zones}}

-- `strict_or_plain` of lookup: refused 31 with all lent output zero, or the plain lookup's reply and every lent word and byte
pub strict_or_plain : (file : List ℕ) (location : Location) (asked : Bool) (n room : ℕ)
    → (looked_strictly file location asked n room ≡ replied_of n room (refused (plain 31))) ⊎ (looked_strictly file location asked n room ≡ looked_up file location asked n room)
strict_or_plain file location asked n room = go (lookup_cut file location asked n room) (strict_lookup_cut file location asked n room) where
  go : {r s t : Replied Zones} (met : Bool) → r ≡ (if met then s else t) → (r ≡ s) ⊎ (r ≡ t)
  go true e = inl e
  go false e = inr e
