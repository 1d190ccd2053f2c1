-- From the matches to the outcome, by how far the code came, whatever was searched. Assumes nothing.
use Rattle.numbers.proofs.Prelude.{ℕ, length, take, List, ◌≡◌, refl, ap, ◌∙◌}
use Rattle.numbers.{proofs.Replies.{carried, onward}, specs.{Reply.{Reply, given, refused, ◌>>◌, ◌>>=◌}, declared.refusal.Refusal.{Refusal}}}
use Rattle.std.specs.Prelude.{Option}
use Rattle.table.{proofs.{Agreeing.{Gave, agree_given, agree_refused, gave, refused_so}, Matches.{count_is, matches_are}}, specs.{Find.{Matched, Matching}, Hits.{slots}}}
use Rattle.table.specs.{declared.{find.Matches.{Matches}, hits.Hit.{Hit}}, inner.Agreeing.{Agrees}}
use Rattle.zones.specs.{Lent.{Outcome, replied, replied_of, Filled}, Simple.{bytes_in, length_in, checked, worded_of, describing, Worded, ToldSimply, described_from}}
use Rattle.zones.specs.declared.simple.{Described.{Described}}
use Rattle.header.specs.declared.header.Head.{Head}

-- a step that gives nothing but that it was passed
module _ {B : Type 0} {step : Reply (Unit {0})} where
  stopped_at : {why : Refusal} → refused why ≡ step → (next : Reply B) → refused why ≡ (step >> next)
  stopped_at e next = ap (λ (r : Reply (Unit {0})). r >> next) e

  passed : given tt ≡ step → (next : Reply B) → next ≡ (step >> next)
  passed e next = ap (λ (r : Reply (Unit {0})). r >> next) e

-- ---- after the search
module _ (file : List ℕ) (head : Head) (room : ℕ) (matches : List Hit) (found : Matches) where
  abbrev Says : List ℕ → Reply Described → Type 0
  Says text reply = Agrees (ToldSimply room text found) (describing file head room matches) reply

  pub not_checked : {why : Refusal} (text : List ℕ) → refused why ≡ checked file head matches → Says text (refused why)
  not_checked text e = agree_refused (ToldSimply room text found) (stopped_at e _)

  module _ (good : given tt ≡ checked file head matches) (text : List ℕ) {reply : Reply (Option ℕ)} (a : Agrees (Worded room text) (worded_of file head room matches) reply) where
    pub not_described : {why : Refusal} (text' : List ℕ) → reply ≡ refused why → Says text' (refused why)
    not_described text' e = agree_refused (ToldSimply room text' found) (refused_so (Worded room text) _ a e ∙ passed good _)

    pub described : {d : Option ℕ} → reply ≡ given d → Says text (given (record { matches = found.count; mark = found.mark; description = d }))
    described e = let words = gave (Worded room text) _ a e in
        agree_given (ToldSimply room text found) (words.is ∙ passed good _)
        (record { said = λ i. record { matches = found.count; mark = found.mark; description = words.fits.said i }; kept = words.fits.kept })

-- ---- from the search on
module _ (file : List ℕ) (head : Head) (n room : ℕ) (matched : Reply Matched) where
  pub no_match : {why : Refusal} (hs ts : List ℕ) → refused why ≡ matched → Agrees (Filled n room hs ts) (described_from file head room matched) (refused why)
  no_match hs ts e = agree_refused (Filled n room hs ts) (carried e _)

  module _ {ws : List ℕ} {matches : Matches} (g : Gave (Matching n ws) matched matches) (ts : List ℕ) where
    -- the outcome with a description
    abbrev outcome : Option (List ℕ) → Outcome Described
    outcome description = record {
      answer = record { matches = length g.it.matches; mark = g.it.mark; description = length_in description };
      matches = g.it.matches;
      text = bytes_in description;
    }

    abbrev Told : Reply Described → Type 0
    Told reply = Agrees (ToldSimply room ts matches) (describing file head room (take matches.count (slots ws))) reply

    -- what was described of them is the outcome
    whole : (said : Reply (Option (List ℕ))) → said ≡ describing file head room (take matches.count (slots ws)) → (said >>= λ d. given (outcome d)) ≡ described_from file head room matched
    whole said e =
        ap (λ (r : Reply (Option (List ℕ))). r >>= λ d. given (outcome d)) (e ∙ (λ i. describing file head room (matches_are g.fits i)))
        ∙ joined (checked file head g.it.matches) (worded_of file head room g.it.matches) ∙ onward g.is _ where
          joined : (step : Reply (Unit {0})) (said : Reply (Option (List ℕ))) → ((step >> said) >>= λ d. given (outcome d)) ≡ (step >> (said >>= λ d. given (outcome d)))
          joined (given u) said = refl
          joined (refused why) said = refl

    pub looked : (reply : Reply Described) → Told reply → Agrees (Filled n room ws ts) (described_from file head room matched) reply
    unfolding replied_of
    looked (given d) a = let t = gave (ToldSimply room ts matches) _ a refl in
        agree_given (Filled n room ws ts) (whole (given t.it) t.is)
        (λ i. replied (given ((t.fits.said ∙ (λ j. record { matches = count_is g.fits j; mark = (g.fits.said j).mark; description = length_in t.it })) i)) (g.fits.kept i) (t.fits.kept i))
    looked (refused why) a = agree_refused (Filled n room ws ts) (whole (refused why) (refused_so (ToldSimply room ts matches) _ a refl))
