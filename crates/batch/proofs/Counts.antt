-- What an answered lookup counts, through an atlas or without one: its matches and its text. Assumes nothing.
use Rattle.numbers.{proofs.Prelude.{ℕ, ◌/◌, ◌^◌, ◌<◌, length, Bool, List, ◌≡◌}, specs.Reply.{given}}
use Rattle.atlas.specs.Beside.{matched_beside, zones_beside}
use Rattle.batch.proofs.Few.{Words32, beside_few}
use Rattle.header.specs.declared.header.Head.{Head}
use Rattle.table.specs.{Hits.{width}, declared.location.Location.{Location}}
use Rattle.zones.specs.{Lent.{Outcome}, declared.lookup.Zones.{Zones}}
use Rattle.zones.proofs.Counts as Z

module _ (file : List ℕ) (head : Head) (words : List ℕ) (location : Location) (asked : Bool) (n room : ℕ) where
  pub counts : {o : Outcome Zones} → given o ≡ zones_beside file head words location asked n room → (o.answer.matches ≡ length o.matches) × (o.answer.used ≡ length o.text)
  unfolding zones_beside
  counts e = let c = Z.counts file head asked room (matched_beside file head words location asked (n / width)) e in (c.matches, c.used)

  -- they fit a word
  pub few : Words32 words → head.sections.metadata < 2 ^ 32 → {o : Outcome Zones} → given o ≡ zones_beside file head words location asked n room → length o.matches < 2 ^ 32
  unfolding zones_beside
  few small table e = let c = Z.counts file head asked room (matched_beside file head words location asked (n / width)) e in
      rw c.same (beside_few file head words location asked (n / width) small table c.is)
