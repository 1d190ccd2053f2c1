-- What the promise fixes: two replies that it permits are equal, with both lent outputs; and a refusal leaves both zero. Assumes nothing.
use Rattle.numbers.{proofs.Prelude.{ℕ, List, ◌≡◌, refl, sym, ap, ◌∙◌, arith}, specs.{Lists.{zeros}, Reply.{Reply, given, refused}, declared.refusal.Refusal.{Refusal}}}
use Rattle.salvage.specs.{Salvage.{Salvaged, Counts, Replied, replied_of, salvaged_of, salvaged}, inner.Rescue.Told.{replied}}

module _ (file : List ℕ) (words room : ℕ) where
  pub same_salvage : (r r' : Reply Counts) (list list' out out' : List ℕ) → replied r list out ≡ salvaged file words room → replied r' list' out' ≡ salvaged file words room
      → (r ≡ r') × (list ≡ list') × (out ≡ out')
  same_salvage r r' list list' out out' e e' = let same = e ∙ sym e' in
      (ap (λ (x : Replied). x.reply) same, ap (λ (x : Replied). x.list) same, ap (λ (x : Replied). x.out) same)

  all_zero : (answer : Reply Salvaged) (why : Refusal) → (replied_of words room answer).reply ≡ refused why →
      ((replied_of words room answer).list ≡ zeros words) × ((replied_of words room answer).out ≡ zeros room)
  all_zero (given s) why e = let z : ◌≡◌ {A = ℕ} 0 1 = cc in absurd (omega arith)
  all_zero (refused w) why e = (refl, refl)

  -- A refused salvage leaves every word of the list and every byte of the output zero.
  pub salvage_refusal_zeroes : (why : Refusal) → (salvaged file words room).reply ≡ refused why → ((salvaged file words room).list ≡ zeros words) × ((salvaged file words room).out ≡ zeros room)
  unfolding salvaged
  salvage_refusal_zeroes = all_zero (salvaged_of file words room)
