-- Through an atlas or without one, by whether there are words. Assumes nothing.
use Rattle.numbers.proofs.Prelude.{ℕ, ◌/◌, length, drop, Bool, List, [], ◌∷◌, ◌≡◌, refl, ap, subst, ◌∙◌, arith}
use Rattle.numbers.{proofs.Replies.{carried, onward}, specs.{Lists.{zeros}, Reply.{Reply, given, refused}, declared.refusal.Refusal.{Refusal}}}
use Rattle.header.specs.{Header.{head_of}, declared.header.Head.{Head}}
use Rattle.index.specs.Index.{records_at}
use Rattle.table.{proofs.{Agreeing.{agree_refused}, Matches.{found_agrees, marked_agrees}}, specs.{Find.{Matched, matched_with, finding, found_with, Matching}, Hits.{width}}}
use Rattle.table.specs.{MarkedRows.{matched_marked, found_marked}, declared.{find.Matches.{Matches}, location.Location.{Location}}, inner.Agreeing.{Agrees}}
use Rattle.zones.{proofs.GivenHead.{refused_zero}, specs.{Lent.{replied, replied_of}, Lookup.{zones_from, zones_with, looked_with}}}
use Rattle.atlas.specs.{Beside.{matched_beside, zones_beside, described_beside, simply_beside}, Looked.{parts_of, part_in, matched_atlas, zones_atlas}, declared.parts.Parts.{Parts}}

-- there are none, or some
pub none_found : (file : List ℕ) (head : Head) (words : List ℕ) (location : Location) (asked : Bool) (room : ℕ) → length words ≡ 0
    → matched_with file head location asked room ≡ matched_beside file head words location asked room
unfolding matched_beside
none_found file head [] location asked room none = refl
none_found file head (word ∷ words) location asked room none = absurd (omega (arith, none))

pub some_found : (file : List ℕ) (head : Head) (words : List ℕ) (location : Location) (asked : Bool) (room : ℕ) → (length words ≡ 0 → ⊥)
    → matched_atlas file head words location asked room ≡ matched_beside file head words location asked room
unfolding matched_beside
some_found file head [] location asked room some = absurd (some refl)
some_found file head (word ∷ words) location asked room some = refl

module _ (file : List ℕ) (head : Head) (words : List ℕ) (location : Location) (asked : Bool) (n : ℕ) where
  -- ---- the search through an atlas, by whether its parts stand
  module _ (hs : List ℕ) where
    abbrev By : Reply Matched → Reply Matches → Type 0
    By matched reply = Agrees (Matching n hs) matched reply

    pub find_nowhere : {why : Refusal} → refused why ≡ parts_of (length file) head words location → By (matched_atlas file head words location asked (n / width)) (refused why)
    unfolding matched_atlas
    find_nowhere e = agree_refused (Matching n hs) (carried e _)

    pub find_there : {parts : Parts} → given parts ≡ parts_of (length file) head words location → (records numbers marks : List ℕ)
        → records ≡ part_in words records_at parts.behind → numbers ≡ part_in words parts.from parts.end → marks ≡ drop parts.beside words
        → (reply : Reply Matches) → finding reply hs ≡ found_marked file head location asked records numbers marks n → By (matched_atlas file head words location asked (n / width)) reply
    unfolding matched_atlas
    find_there e records numbers marks r k m reply f =
        subst (λ (matched : Reply Matched). By matched reply) ((λ i. matched_marked file head location asked (r i) (k i) (m i) (n / width))
        ∙ onward e (λ (p : Parts). matched_marked file head location asked (part_in words records_at p.behind) (part_in words p.from p.end) (drop p.beside words) (n / width)))
        (marked_agrees file head location asked records numbers marks n reply hs f)

    -- ---- the search, by whether there are words
    pub find_none : (reply : Reply Matches) → length words ≡ 0 → finding reply hs ≡ found_with file head location asked n → By (matched_beside file head words location asked (n / width)) reply
    find_none reply none f =
        subst (λ (matched : Reply Matched). By matched reply) (none_found file head words location asked (n / width) none) (found_agrees file head location asked n reply hs f)

    pub find_some : (reply : Reply Matches) → (length words ≡ 0 → ⊥) → By (matched_atlas file head words location asked (n / width)) reply
        → By (matched_beside file head words location asked (n / width)) reply
    find_some reply some a = subst (λ (matched : Reply Matched). By matched reply) (some_found file head words location asked (n / width) some) a

  -- ---- the lookup
  pub look_none : (room : ℕ) → length words ≡ 0 → looked_with file head location asked n room ≡ replied_of n room (zones_beside file head words location asked n room)
  unfolding looked_with zones_with zones_beside
  look_none room none = ap (λ (matched : Reply Matched). replied_of n room (zones_from file head asked room matched)) (none_found file head words location asked (n / width) none)

  pub look_some : (room : ℕ) → (length words ≡ 0 → ⊥) → replied_of n room (zones_atlas file head words location asked n room) ≡ replied_of n room (zones_beside file head words location asked n room)
  unfolding zones_atlas zones_beside
  look_some room some = ap (λ (matched : Reply Matched). replied_of n room (zones_from file head asked room matched)) (some_found file head words location asked (n / width) some)

-- ---- simple lookup, by whether the file opens
module _ (file words : List ℕ) (location : Location) (n room : ℕ) where
  pub simply_unopened : {why : Refusal} {hs ts : List ℕ} → refused why ≡ head_of file → hs ≡ zeros n → ts ≡ zeros room → replied (refused why) hs ts ≡ simply_beside file words location n room
  unfolding simply_beside
  simply_unopened e zh zt = refused_zero n room (carried e (λ (head : Head). described_beside file head words location n room)) zh zt

  pub simply_opened : {head : Head} → given head ≡ head_of file → replied_of n room (described_beside file head words location n room) ≡ simply_beside file words location n room
  unfolding simply_beside
  simply_opened e = ap (replied_of n room) (onward e (λ (head : Head). described_beside file head words location n room))
