-- From the matches to the outcome, by how far the code came, whatever was searched. Assumes nothing.
use Rattle.numbers.{proofs.{Prelude.{ℕ, length, take, Bool, List, [], ◌≡◌, refl, ◌∙◌}, Replies.{carried, onward}}, specs.{Reply.{Reply, given, refused}, declared.refusal.Refusal.{Refusal}}}
use Rattle.header.specs.declared.header.Head.{Head}
use Rattle.table.{proofs.{Agreeing.{Gave, agree_given, agree_refused, gave, refused_so}, Matches.{count_is, matches_are}}, specs.{Find.{Matched, Matching}, Hits.{slots}}}
use Rattle.table.specs.{declared.find.Matches.{Matches}, inner.Agreeing.{Agrees}}
use Rattle.zones.specs.{Fields.{fields_of, Wrote}, Lent.{replied, replied_of, Filled}, Lookup.{safezone_bits, zones_from, Told}, declared.lookup.Zones.{Zones}}

-- ---- after the search
module _ (asked : Bool) (precision room : ℕ) (found : Matches) (whole : Reply (List ℕ)) (ts : List ℕ) {reply : Reply ℕ} (a : Agrees (Wrote room ts) whole reply) where
  pub no_fields : {why : Refusal} (ts' : List ℕ) → reply ≡ refused why → Agrees (Told room ts' asked precision found) whole (refused why)
  no_fields ts' e = agree_refused (Told room ts' asked precision found) (refused_so (Wrote room ts) whole a e)

  pub told : {used zone : ℕ} → reply ≡ given used → zone ≡ safezone_bits asked found.least precision
      → Agrees (Told room ts asked precision found) whole (given (record { matches = found.count; mark = found.mark; safezone = zone; used = used }))
  told e z = let text = gave (Wrote room ts) whole a e in
      agree_given (Told room ts asked precision found) text.is
      (record { said = λ i. record { matches = found.count; mark = found.mark; safezone = z i; used = text.fits.said i }; kept = text.fits.kept })

-- ---- from the search on
module _ (file : List ℕ) (head : Head) (asked : Bool) (n room : ℕ) (matched : Reply Matched) where
  pub no_match : {why : Refusal} (hs ts : List ℕ) → refused why ≡ matched → Agrees (Filled n room hs ts) (zones_from file head asked room matched) (refused why)
  no_match hs ts e = agree_refused (Filled n room hs ts) (carried e _)

  module _ {ws : List ℕ} {matches : Matches} (g : Gave (Matching n ws) matched matches) (ts : List ℕ) where
    -- the fields, in the code's words
    fields_so : fields_of file head room (take matches.count (slots ws)) [] ≡ fields_of file head room g.it.matches []
    fields_so = λ i. fields_of file head room (matches_are g.fits i) []

    abbrev Says : Reply Zones → Type 0
    Says reply = Agrees (Told room ts asked head.preamble.precision matches) (fields_of file head room (take matches.count (slots ws)) []) reply

    pub looked : (reply : Reply Zones) → Says reply → Agrees (Filled n room ws ts) (zones_from file head asked room matched) reply
    unfolding replied_of
    looked (given zones) a = let text = gave (Told room ts asked head.preamble.precision matches) _ a refl in
        agree_given (Filled n room ws ts) (onward (text.is ∙ fields_so) _ ∙ onward g.is _) (λ i. replied (given (answer text.it text.fits.said i)) (g.fits.kept i) (text.fits.kept i))
      where
        answer : {zones : Zones} → (out : List ℕ)
            → zones ≡ record { matches = matches.count; mark = matches.mark; safezone = safezone_bits asked matches.least head.preamble.precision; used = length out }
            → zones ≡ record { matches = length g.it.matches; mark = g.it.mark; safezone = safezone_bits asked g.it.least head.preamble.precision; used = length out }
        answer out e =
            e ∙ (λ i. record { matches = count_is g.fits i; mark = (g.fits.said i).mark; safezone = safezone_bits asked (g.fits.said i).least head.preamble.precision; used = length out })
    looked (refused why) a = agree_refused (Filled n room ws ts) (carried (refused_so (Told room ts asked head.preamble.precision matches) _ a refl ∙ fields_so) _ ∙ onward g.is _)
