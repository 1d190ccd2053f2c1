-- What an answered lookup counts, whatever was searched: its matches and its text. Assumes nothing.
use Rattle.numbers.{proofs.{Prelude.{ℕ, length, Bool, List, [], ◌≡◌, sym, ap, ◌∙◌}, Replies.{given_from, given_one}}, specs.Reply.{Reply, given}}
use Rattle.zones.specs.{Fields.{fields_of}, Lent.{Outcome}, Lookup.{zones_from}, declared.lookup.Zones.{Zones}}
use Rattle.table.specs.Find.{Matched}
use Rattle.header.specs.declared.header.Head.{Head}

pub record Counted (matched : Reply Matched) (o : Outcome Zones) : Type 0 where
  pub found : Matched
  pub is : given found ≡ matched
  pub same : o.matches ≡ found.matches
  pub matches : o.answer.matches ≡ length o.matches
  pub used : o.answer.used ≡ length o.text

pub counts : (file : List ℕ) (head : Head) (asked : Bool) (room : ℕ) (matched : Reply Matched) {o : Outcome Zones} → given o ≡ zones_from file head asked room matched → Counted matched o
counts file head asked room matched e = let found = given_from matched _ e in
    let text = given_from (fields_of file head room found.it.matches []) _ found.onto in let same = given_one text.onto in record {
      found = found.it;
      is = found.is;
      same = ap (λ (x : Outcome Zones). x.matches) same;
      matches = ap (λ (x : Outcome Zones). x.answer.matches) same ∙ sym (ap (λ (x : Outcome Zones). length x.matches) same);
      used = ap (λ (x : Outcome Zones). x.answer.used) same ∙ sym (ap (λ (x : Outcome Zones). length x.text) same);
    }
