-- The first match's description, by how far the code came. Assumes nothing.
use Rattle.numbers.proofs.Prelude.{ℕ, ◌<◌, le-leb, leb, length, drop, get_or, drop-cons, Bool, true, false, List, [], ◌∷◌, ◌++◌, ◌≡◌, refl, sym, ap, subst, ◌∙◌, sub-zero, arith}
use Rattle.numbers.{proofs.Replies.{carried, onward, met}, specs.{Lists.{zeros, padded}, Reply.{Reply, given, refused, plain, demand, ◌>>=◌, ◌>>◌}, declared.refusal.Refusal.{Refusal}}}
use Rattle.std.specs.Prelude.{Option, Some, None}
use Rattle.header.specs.{Text.{bytes_of}, declared.header.Head.{Head}}
use Rattle.table.{proofs.Agreeing.{agree_given, agree_refused, gave, refused_so}, specs.{Hits.{no_hit}, declared.hits.Hit.{Hit}, inner.Agreeing.{Agrees}}}
use Rattle.zones.specs.{Fields.{Wrote}, Simple.{description_at, description_of, bytes_in, fitting, worded_of, Worded, told_named, LiesNamed, LiesParts}, declared.simple.Parts.{Parts}}

-- a name's parts lie where it is said
pub parts_lie : (size : ℕ) {named : Reply (Option Parts)} {parts : Parts} → named ≡ given (Some parts) → LiesNamed size named → LiesParts size parts
unfolding LiesNamed
parts_lie size is h = subst (LiesNamed size) is h

abbrev both : List ℕ → Parts → List ℕ
both file parts = bytes_of file parts.one ++ bytes_of file parts.two

-- what fits is what was to fit
fitted : (room : ℕ) (all : List ℕ) {bytes : List ℕ} → given bytes ≡ fitting room all → bytes ≡ all
fitted room all {bytes} e = go (leb (length all) room) e where
  go : (test : Bool) → given bytes ≡ (demand test (plain 18) >> given all) → bytes ≡ all
  go true e = cc
  go false e = let z : ◌≡◌ {A = ℕ} 0 1 = cc in absurd (omega arith)

-- what the first match is called describes it
pub described : (file : List ℕ) (head : Head) (all : List Hit) (named : Reply (Option Parts)) {got : Hit} → 0 < length all → got ≡ get_or all 0 no_hit → told_named file named ≡ description_at file head got.metadata
    → told_named file named ≡ description_of file head all
unfolding description_of
described file head all named {got} some-match is e =
    let cons : all ≡ got ∷ drop 1 all = drop-cons all 0 no_hit some-match ∙ ap (λ (h : Hit). h ∷ drop 1 all) (sym is) in
    e ∙ sym (ap (description_of file head) cons)

module _ (file : List ℕ) (head : Head) (room : ℕ) (all : List Hit) where
  -- from a description to what goes out
  worded : (d : Option (List ℕ)) → given d ≡ description_of file head all → (fitting room (bytes_in d) >>= λ bytes. given d) ≡ worded_of file head room all
  unfolding worded_of
  worded d e = onward e (λ x. fitting room (bytes_in x) >>= λ bytes. given x)

  nothing : {text : List ℕ} → text ≡ zeros room → given None ≡ description_of file head all → Agrees (Worded room text) (worded_of file head room all) (given None)
  nothing z e = let empty : given [] ≡ fitting room [] = met (le-leb 0 room (omega arith)) (plain 18) (given []) in
      agree_given (Worded room _) (onward empty (λ bytes. given None) ∙ worded None e) (record { said = refl; kept = simp sub-zero z })

  pub no_matches : {text : List ℕ} → text ≡ zeros room → all ≡ [] → Agrees (Worded room text) (worded_of file head room all) (given None)
  unfolding description_of
  no_matches z e = nothing z (ap (description_of file head) (sym e))

  module _ (named : Reply (Option Parts)) (so : told_named file named ≡ description_of file head all) where
    pub not_named : {why : Refusal} (text : List ℕ) → named ≡ refused why → Agrees (Worded room text) (worded_of file head room all) (refused why)
    unfolding worded_of
    not_named text is = agree_refused (Worded room text) (carried (sym (ap (told_named file) is) ∙ so) _)

    pub no_name : {text : List ℕ} → text ≡ zeros room → named ≡ given None → Agrees (Worded room text) (worded_of file head room all) (given None)
    no_name z is = nothing z (sym (ap (told_named file) is) ∙ so)

    module _ {parts : Parts} (is : named ≡ given (Some parts)) where
      goes_out : (fitting room (both file parts) >>= λ bytes. given (Some (both file parts))) ≡ worded_of file head room all
      goes_out = worded (Some (both file parts)) (sym (ap (told_named file) is) ∙ so)

      module _ (last : List ℕ) {reply : Reply ℕ} (agrees : Agrees (Wrote room last) (fitting room (both file parts)) reply) where
        pub no_room : {why : Refusal} (text : List ℕ) → reply ≡ refused why → Agrees (Worded room text) (worded_of file head room all) (refused why)
        no_room text r =
            agree_refused (Worded room text) (carried (refused_so (Wrote room last) (fitting room (both file parts)) agrees r) (λ bytes. given (Some (both file parts))) ∙ goes_out)

        pub written : {size : ℕ} → reply ≡ given size → Agrees (Worded room last) (worded_of file head room all) (given (Some size))
        written r = let o = gave (Wrote room last) (fitting room (both file parts)) agrees r in let same = fitted room (both file parts) o.is in
            agree_given (Worded room last) (onward o.is (λ bytes. given (Some (both file parts))) ∙ goes_out)
            (record { said = ap Some (o.fits.said ∙ ap length same); kept = o.fits.kept ∙ ap (padded room) same })
