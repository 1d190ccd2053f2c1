-- The numbers that a lookup through any words can be refused with, by ranges. Assumes nothing.
use Rattle.numbers.{proofs.{Prelude.{ℕ, eqb, Bool, true, ◌||◌, List, ◌≡◌, refl}, Refusals.{listed_so}}, specs.{Reply.{refused}, declared.refusal.Refusal.{Refusal}}}
use Rattle.atlas.{proofs.NumberedAtlas.{atlas_refusals}, specs.Looked.{looked_atlas}}
use Rattle.index.proofs.NumberedThrough.{through_numbers}
use Rattle.slip.specs.Says.{from}
use Rattle.table.specs.declared.location.Location.{Location}

pub by_ranges : (file words : List ℕ) (location : Location) (asked : Bool) (n room : ℕ) (why : Refusal) → (looked_atlas file words location asked n room).reply ≡ refused why
    → (from 1 18 why.number || eqb why.number 36) ≡ true
by_ranges file words location asked n room why e =
    listed_so (λ m. from 1 18 m || eqb m 36) through_numbers why.number refl (atlas_refusals file words location asked n room why e)
