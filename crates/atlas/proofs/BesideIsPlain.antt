-- Without an atlas, and through words that are the file's atlas, a search is the plain one, and so are the lookups over it. Assumes nothing.
use Rattle.numbers.{proofs.Prelude.{ℕ, ◌/◌, Bool, false, List, [], ◌∷◌, inl, inr, ◌≡◌, refl, ap}, specs.Reply.{given}}
use Rattle.header.specs.{Header.{head_of}, declared.header.Head.{Head}}
use Rattle.table.specs.{Find.{matched_with}, Hits.{width}, declared.location.Location.{Location}}
use Rattle.zones.specs.{Lent.{replied_of}, Lookup.{zones_from, zones_with}, Simple.{described_from, described_with, described_in, simply_looked}}
use Rattle.atlas.proofs.AtlasIsPlain.{found_is_plain, alike_from}
use Rattle.atlas.specs.{Atlas.{is_atlas_of}, Beside.{NoneOrAtlas, matched_beside, zones_beside, described_beside, simply_beside}}

-- Where there are no words, or `is_atlas` says 0 of them, the search beside them is the plain one, in the file's own header.
pub beside_is_plain : (file words : List ℕ) → NoneOrAtlas file words → {head : Head} → given head ≡ head_of file → (location : Location) (asked : Bool) (room : ℕ)
    → matched_beside file head words location asked room ≡ matched_with file head location asked room
unfolding matched_beside
beside_is_plain file words (inl none) {head} opened location asked room = ap (λ (w : List ℕ). matched_beside file head w location asked room) none
beside_is_plain file [] (inr is) opened location asked room = refl
beside_is_plain file (word ∷ words) (inr is) opened location asked room = found_is_plain file (word ∷ words) is opened location asked room

-- and so is a lookup over it,
pub zones_beside_is_plain : (file words : List ℕ) → NoneOrAtlas file words → {head : Head} → given head ≡ head_of file → (location : Location) (asked : Bool) (n room : ℕ)
    → zones_beside file head words location asked n room ≡ zones_with file head location asked n room
unfolding zones_beside zones_with
zones_beside_is_plain file words so {head} opened location asked n room = ap (zones_from file head asked room) (beside_is_plain file words so opened location asked (n / width))

-- and a simple lookup.
pub simple_beside_is_plain : (file words : List ℕ) → NoneOrAtlas file words → (location : Location) (n room : ℕ) → simply_beside file words location n room ≡ simply_looked file location n room
unfolding simply_beside described_beside simply_looked described_in described_with
simple_beside_is_plain file words so location n room =
    ap (replied_of n room) (alike_from (head_of file) (λ head opened. ap (described_from file head room) (beside_is_plain file words so opened location false (n / width))))

-- Where `is_atlas` says 0 of file and words, whoever wrote them, a simple lookup through them is the plain one: description, mark, refusals and all lent output.
pub simple_atlas_is_plain : (file words : List ℕ) → is_atlas_of file words ≡ given tt → (location : Location) (n room : ℕ)
    → simply_beside file words location n room ≡ simply_looked file location n room
simple_atlas_is_plain file words is = simple_beside_is_plain file words (inr is)
