-- What the promise of `build` permits: one reply and one output, zero on a refusal, and a file that the theorems on built files are about. Assumes nothing.
use Rattle.numbers.proofs.Prelude.{ℕ, length, take, take_at, List, ◌≡◌, refl, sym, ap, ◌∙◌}
use Rattle.numbers.{proofs.Refusals.{Listed}, specs.{Lists.{zeros}, Reply.{Reply, given, refused}, declared.refusal.Refusal.{Refusal}}}
use Rattle.builder.{proofs.drawing.Lending.{never_given}, specs.{File.{Room, Replied, fitted, built_of}, Yards.{Lent, plan_of}}}
use Rattle.build.proofs.Numbered.{build_numbers, build_refusals}
use Rattle.build.specs.Whole.{Builds}

module _ (lent : Lent) (room : Room) where
  -- Two replies that the promise permits are equal, with all of the output.
  pub same_built : (r r' : Reply ℕ) (out out' : List ℕ) → Builds lent room out r → Builds lent room out' r' → (r ≡ r') × (out ≡ out')
  unfolding Builds
  same_built r r' out out' b b' = let e = b ∙ sym b' in
      (ap (λ (x : Replied). x.reply) e, ap (λ (x : Replied). x.out) e)

  module _ (out : List ℕ) (why : Refusal) (b : Builds lent room out (refused why)) where
    -- what was refused, and what is left of the output
    settled : (built_of (plan_of lent) room ≡ refused why) × (out ≡ zeros room.file)
    unfolding Builds fitted
    settled = go (built_of (plan_of lent) room) b where
      go : (reply : Reply (List ℕ)) → record { reply = refused why; out = out } ≡ fitted room.file reply → (reply ≡ refused why) × (out ≡ zeros room.file)
      go (given file) e = absurd (never_given _ _ (ap (λ (x : Replied). x.reply) e))
      go (refused why') e = let same = ap (λ (x : Replied). x.reply) e in (cc, ap (λ (x : Replied). x.out) e)

    -- A refusal leaves the output zero, and has one of the builder's numbers.
    pub build_refusal_zeroes : out ≡ zeros room.file
    build_refusal_zeroes = settled.1

    pub build_numbered : Listed build_numbers why.number
    build_numbered = build_refusals (plan_of lent) room why settled.0

  -- Where the build answers, the front of the output, as long as it says, is the file of the definition.
  pub wrote : (out : List ℕ) (n : ℕ) → Builds lent room out (given n) → built_of (plan_of lent) room ≡ given (take n out)
  unfolding Builds fitted
  wrote out n b = go (built_of (plan_of lent) room) b where
    go : (reply : Reply (List ℕ)) → record { reply = given n; out = out } ≡ fitted room.file reply → reply ≡ given (take n out)
    go (given file) e = let same : given n ≡ given (length file) = ap (λ (x : Replied). x.reply) e in let size : n ≡ length file = cc in
        ap given (sym (ap (take n) (ap (λ (x : Replied). x.out) e) ∙ take_at file _ n (sym size)))
    go (refused why) e = absurd (never_given _ _ (sym (ap (λ (x : Replied). x.reply) e)))
