-- What document 04's A-3 asks, over what the functions write; `atlas_is_plain` and `atlas_refusals` stand in their own files. Assumes nothing.
use Rattle.numbers.proofs.Prelude.{ℕ, ◌-◌, leb-true, ltb, leb, length, length-append, length-replicate, Bool, true, false, List, [], ◌∷◌, ◌≡◌, sym, ap, ◌∙◌, arith}
use Rattle.numbers.{proofs.{Refusals.{Listed, still_listed}, Replies.{then_reply, number_of_lem}, Tests.{both, differ}}, specs.Lists.{zeros}}
use Rattle.numbers.specs.{Reply.{Reply, given, refused, plain, demand, ◌>>=◌}, declared.refusal.Refusal.{Refusal}}
use Rattle.header.{proofs.Numbered.{header_numbers, head_numbered}, specs.Header.{head_of}}
use Rattle.index.{proofs.{Refusing.{building_numbers, words_numbered, replied_numbered, no_words}, Same.{same_built, same_tie}}, specs.Index.{indexed, built_in}}
use Rattle.table.specs.declared.location.Location.{Location}
use Rattle.zones.{proofs.{NumberedLookup.{lookup_numbers, lookup_refusals}, RefusalZeroes.{both_zero}, SameLookup.{same_looked}}, specs.Lent.{Replied, replied}}
use Rattle.zones.specs.declared.lookup.Zones.{Zones}
use Rattle.atlas.proofs.AtlasIsPlain.{made_from, is_atlas_exactly, atlas_is_plain}
use Rattle.atlas.specs.{Atlas.{atlas_of, atlas_in, atlas_made, is_made, is_atlas_of}, Looked.{zones_atlas, looked_atlas}}

-- ---- is_atlas is exact
made_long : (file : List ℕ) (n : ℕ) {used : ℕ} → (atlas_made file n).reply ≡ given used → length (atlas_made file n).words ≡ n
made_long file n e = let m = made_from file n e in let atlas = atlas_of file m.head m.rows in
    let fits = leb-true (length atlas) n (both (leb (length atlas) n) (ltb (length atlas) _) m.room).0 in
    ap length m.whole ∙ omega (arith, fits, length-append atlas (zeros (n - length atlas)), length-replicate {A = ℕ} (n - length atlas) 0)

-- What `build_atlas` gave is an atlas of the file,
pub built_is_atlas : (file : List ℕ) (n : ℕ) {used : ℕ} → (atlas_made file n).reply ≡ given used → is_atlas_of file (atlas_made file n).words ≡ given tt
built_is_atlas file n {used} e =
    (is_atlas_exactly file (atlas_made file n).words).1 (used, ap (atlas_made file) (made_long file n e) ∙ (λ i. indexed (e i) (atlas_made file n).words))

-- and nothing else is: words of which `is_atlas` says 0 are those that `build_atlas`, lent as many, gives and leaves.
pub atlas_is_built : (file words : List ℕ) → is_atlas_of file words ≡ given tt → (used : ℕ) × (atlas_made file (length words) ≡ indexed (given used) words)
atlas_is_built file words = (is_atlas_exactly file words).0

-- All other words are 36.
pub else_36 : (file words : List ℕ) (why : Refusal) → is_atlas_of file words ≡ refused why → why ≡ plain 36
unfolding is_atlas_of
else_36 file words why = go (is_made words (atlas_made file (length words)).reply (atlas_made file (length words)).words) where
  number_of : Reply (Unit {0}) → Refusal
  number_of (given u) = plain 36
  number_of (refused w) = w

  go : (b : Bool) → demand b (plain 36) ≡ refused why → why ≡ plain 36
  go true e = sym (ap number_of e)
  go false e = sym (ap number_of e)

-- ---- which numbers, and zeros
-- A building that is not answered is refused with one of the index's numbers,
pub building_refusals : (file : List ℕ) (n : ℕ) (why : Refusal) → (atlas_made file n).reply ≡ refused why → Listed building_numbers why.number
unfolding atlas_made built_in
building_refusals file n why =
    number_of_lem (replied_numbered n (then_reply (head_numbered (still_listed header_numbers (16 ∷ 34 ∷ 35 ∷ [])) false differ file) (λ head. words_numbered atlas_of file head n)))

-- and leaves every word zero.
pub building_refusal_zeroes : (file : List ℕ) (n : ℕ) (why : Refusal) → (atlas_made file n).reply ≡ refused why → (atlas_made file n).words ≡ zeros n
unfolding atlas_made
building_refusal_zeroes file n = no_words n (atlas_in file n)

module _ (file words : List ℕ) (location : Location) (asked : Bool) (n room : ℕ) where
  -- A refused lookup leaves every word of the hit list and every byte of the text zero, whatever the words are.
  pub atlas_refusal_zeroes : (why : Refusal) → (looked_atlas file words location asked n room).reply ≡ refused why
      → ((looked_atlas file words location asked n room).hits ≡ zeros n) × ((looked_atlas file words location asked n room).text ≡ zeros room)
  unfolding looked_atlas
  atlas_refusal_zeroes why = both_zero n room (head_of file >>= λ head. zones_atlas file head words location asked n room) why

  -- Through an atlas of the file it is refused with the numbers of the plain lookup alone.
  pub own_atlas_refusals : is_atlas_of file words ≡ given tt → (why : Refusal) → (looked_atlas file words location asked n room).reply ≡ refused why → Listed lookup_numbers why.number
  own_atlas_refusals e why r = lookup_refusals file location asked n room why (ap (λ (x : Replied Zones). x.reply) (sym (atlas_is_plain file words e location asked n room)) ∙ r)

  -- With any words at all the reply and all lent output are fixed; `lookup_atlas` has no `requires`, so that it ends and stays inside what it was lent.
  pub atlas_safe : (r r' : Reply Zones) (hs hs' ts ts' : List ℕ) → replied r hs ts ≡ looked_atlas file words location asked n room
      → replied r' hs' ts' ≡ looked_atlas file words location asked n room → (r ≡ r') × (hs ≡ hs') × (ts ≡ ts')
  atlas_safe = same_looked {promised = looked_atlas file words location asked n room}

-- ---- what the promises fix
-- Two replies that a promise permits are equal, with all lent output: of `lookup_atlas`,
pub atlas_one_reply : (file words : List ℕ) (location : Location) (asked : Bool) (n room : ℕ) (r r' : Reply Zones) (hs hs' ts ts' : List ℕ)
    → replied r hs ts ≡ looked_atlas file words location asked n room → replied r' hs' ts' ≡ looked_atlas file words location asked n room
    → (r ≡ r') × (hs ≡ hs') × (ts ≡ ts')
atlas_one_reply = atlas_safe

-- of `build_atlas`,
pub same_atlas_built : (file : List ℕ) (n : ℕ) (r r' : Reply ℕ) (ws ws' : List ℕ) → indexed r ws ≡ atlas_made file n → indexed r' ws' ≡ atlas_made file n
    → (r ≡ r') × (ws ≡ ws')
same_atlas_built file n = same_built {promised = atlas_made file n}

-- and of `is_atlas`.
pub same_atlas_held : (file words : List ℕ) (r r' : Reply (Unit {0})) → r ≡ is_atlas_of file words → r' ≡ is_atlas_of file words → r ≡ r'
same_atlas_held file words = same_tie {promised = is_atlas_of file words}
