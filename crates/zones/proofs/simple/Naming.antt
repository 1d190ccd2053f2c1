-- What a match is called, by how far the code came. Assumes nothing.
use Rattle.numbers.{proofs.{Prelude.{ℕ, length, List, ◌≡◌, refl, sym, ap, ◌∙◌}, Replies.{carried, onward}}, specs.{Reply.{Reply, given, refused, ◌>>=◌}, declared.refusal.Refusal.{Refusal}}}
use Rattle.header.specs.declared.{header.Head.{Head}, text.Text.{Text}}
use Rattle.zones.specs.{Fields.{fields_place}, Simple.{begun, picked_from, joined, description_at, told_named, LiesNamed}, declared.simple.{Parts.{Parts}, Picked.{Picked}}}
use Rattle.std.specs.Prelude.{Option, Some, None}
use Rattle.zones.proofs.simple.Picking.{picked_lies, lies_at}

module _ (file : List ℕ) (head : Head) (metadata : ℕ) {place : ℕ} (picks : Reply Picked) (p : place ≡ fields_place head metadata)
    (e : picks ≡ picked_from file head head.preamble.count 0 7 place (begun head.preamble.kind)) where
  abbrev Says : Reply (Option Parts) → Type 0
  Says named = (told_named file named ≡ description_at file head metadata) × LiesNamed (length file) named

  whole : (picks >>= λ picked. given (joined file picked.one picked.two)) ≡ description_at file head metadata
  whole = rw (e, p) refl

  pub not_picked : {why : Refusal} → picks ≡ refused why → Says (refused why)
  unfolding LiesNamed
  not_picked is = (carried (sym is) _ ∙ whole, tt)

  module _ {picked : Picked} (is : picks ≡ given picked) where
    so : given (joined file picked.one picked.two) ≡ description_at file head metadata
    so = onward (sym is) _ ∙ whole

    pub no_one : picked.one ≡ None → Says (given None)
    unfolding LiesNamed
    no_one m = (ap (λ (v : Option Text). given (joined file v picked.two)) (sym m) ∙ so, tt)

    module _ {one : Text} (first : picked.one ≡ Some one) where
      pub no_two : picked.two ≡ None → Says (given None)
      unfolding LiesNamed
      no_two m = (sym (λ i. given (joined file (first i) (m i))) ∙ so, tt)

      pub both_picked : {two : Text} → picked.two ≡ Some two → Says (given (Some (record { one = one; two = two })))
      unfolding LiesNamed
      both_picked second = let lies = picked_lies file head place (sym is ∙ e) in
          (sym (λ i. given (joined file (first i) (second i))) ∙ so, record { one = lies_at file _ first lies.one; two = lies_at file _ second lies.two })
