-- What the reply of a lookup in a file with a given header says of the buffers that it was lent, whatever was searched. Assumes nothing.
use Rattle.numbers.{proofs.{Prelude.{ℕ, ◌/◌, ◌≤◌, length, take, Bool, List, ◌≡◌, refl, ap, ◌∙◌}, Replies.{given_one}}, specs.{Lists.{padded}, Reply.{Reply, given}}}
use Rattle.header.specs.declared.header.Head.{Head}
use Rattle.table.{proofs.{Agreeing.{gave}, Words.{padded_slots, padded_room}}, specs.{Find.{Matched}, Hits.{width, words, slots}}}
use Rattle.zones.proofs.{Counts.{counts}, Replying.{agrees_of}}
use Rattle.zones.specs.{Lent.{Outcome, Replied, replied, replied_of, Filled}, Lookup.{zones_from}, declared.lookup.Zones.{Zones}}

-- the outcome behind an answered lookup, and how it stands in the lent words and the lent text
pub record Lent (n room : ℕ) (whole : Reply (Outcome Zones)) (zones : Zones) (hits text : List ℕ) : Type 0 where
  pub outcome : Outcome Zones
  pub is : given outcome ≡ whole
  pub answered : zones ≡ outcome.answer
  pub counted : zones.matches ≡ length outcome.matches
  pub lent_hits : hits ≡ padded n (words outcome.matches)
  pub lent_text : text ≡ padded room outcome.text
  -- the first slots of the lent words are the matches
  pub held : take zones.matches (slots hits) ≡ outcome.matches
  pub fits : length hits ≡ n → zones.matches ≤ length hits / width

-- from the promise of a lookup, where it answers
pub lent : (file : List ℕ) (head : Head) (asked : Bool) (n room : ℕ) (matched : Reply Matched) (zones : Zones) (hits text : List ℕ)
    → replied (given zones) hits text ≡ replied_of n room (zones_from file head asked room matched) → Lent n room (zones_from file head asked room matched) zones hits text
unfolding replied_of
lent file head asked n room matched zones hits text e = let whole = zones_from file head asked room matched in
    let g = gave (Filled n room hits text) whole (agrees_of n room whole (given zones) hits text e) refl in let o = g.it in
    let kept = ap (λ (r : Replied Zones). r.hits) g.fits in let same : zones ≡ o.answer = given_one (ap (λ (r : Replied Zones). r.reply) g.fits) in
    let count : zones.matches ≡ length o.matches = ap (λ (z : Zones). z.matches) same ∙ (counts file head asked room matched g.is).matches in record {
      outcome = o;
      is = g.is;
      answered = same;
      counted = count;
      lent_hits = kept;
      lent_text = ap (λ (r : Replied Zones). r.text) g.fits;
      held = ap (λ (k : ℕ). take k (slots hits)) count ∙ padded_slots n o.matches kept;
      fits = λ l. rw count (padded_room n o.matches kept l);
    }
