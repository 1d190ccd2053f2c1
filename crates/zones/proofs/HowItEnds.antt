-- An answered lookup comes from a search that went through every row up to where it ended, and its mark says why it ended there. Assumes nothing.
use Rattle.numbers.proofs.Prelude.{ℕ, ◌/◌, length, Bool, false, List, [], ◌≡◌, refl, sym, ap, subst, ◌∙◌, arith}
use Rattle.numbers.{proofs.{Refusals.{Listed}, Replies.{given_from, given_one}}, specs.{Lists.{padded}, Reply.{Reply, given, ◌>>=◌}}}
use Rattle.header.specs.{Header.{head_of}, declared.header.Head.{Head}}
use Rattle.table.{proofs.SearchEnds.{end_marks, met_check, behind_marks, matched_ends}, specs.{Ending.{Behind, Answered}, Find.{Matched, matched_with}, Hits.{width, words}, declared.hits.Hit.{Hit}}}
use Rattle.table.specs.declared.location.Location.{Location}
use Rattle.zones.specs.{Fields.{fields_of}, Lent.{Outcome, replied_of}, Lookup.{zones_from, zones_with, zones_in, looked_up}}
use Rattle.zones.specs.{Simple.{checked, worded_of, described_from, described_with, described_in, simply_looked}, declared.{lookup.Zones.{Zones}, simple.Described.{Described}}}
use Rattle.numbers.specs.Reply as R

-- what a reply with its lent words was made of
pub record Outcame {A : Type 0} (n room : ℕ) (reply : Reply (Outcome A)) (answer : A) : Type 0 where
  pub outcome : Outcome A
  pub is : given outcome ≡ reply
  pub said : answer ≡ outcome.answer
  pub kept : (replied_of n room reply).hits ≡ padded n (words outcome.matches)

pub outcame : {A : Type 0} (n room : ℕ) (reply : Reply (Outcome A)) (answer : A) → (replied_of n room reply).reply ≡ given answer → Outcame n room reply answer
unfolding replied_of
outcame n room (given o) answer e = record { outcome = o; is = refl; said = cc; kept = refl }
outcame n room (R.refused why) answer e = let z : ◌≡◌ {A = ℕ} 0 1 = cc in absurd (omega arith)

-- an outcome tells of the matches that it was made of
pub record Tells {A : Type 0} (marked counted : A → ℕ) (m : Matched) (o : Outcome A) : Type 0 where
  pub mark : marked o.answer ≡ m.mark
  pub count : counted o.answer ≡ length m.matches
  pub matches : o.matches ≡ m.matches

module _ {A : Type 0} (marked counted : A → ℕ) (file : List ℕ) (location : Location) (asked : Bool) (n room : ℕ) (next : Head → Matched → Reply (Outcome A))
    (tells : (head : Head) (m : Matched) (o : Outcome A) → given o ≡ next head m → Tells marked counted m o) where
  abbrev whole : Reply (Outcome A)
  whole = head_of file >>= λ head. (matched_with file head location asked (n / width) >>= next head)

  answer_ends : (answer : A) → (replied_of n room whole).reply ≡ given answer → Answered file location asked n (counted answer) (marked answer) (replied_of n room whole).hits
  answer_ends answer e = let o = outcame n room whole answer e in let h = given_from (head_of file) _ o.is in
      let m = given_from (matched_with file h.it location asked (n / width)) (next h.it) h.onto in
      let t = tells h.it m.it o.outcome m.onto in record {
        list = m.it.matches;
        behind = subst (Behind file location asked m.it.matches) (sym (ap marked o.said ∙ t.mark)) (matched_ends file h.it location asked (n / width) m.it h.is m.is);
        counted = ap counted o.said ∙ t.count;
        kept = o.kept ∙ ap (λ (l : List Hit). padded n (words l)) t.matches;
      }

-- what both lookups make of the matches
pub lookup_tells : (file : List ℕ) (room : ℕ) (asked : Bool) (head : Head) (m : Matched) (o : Outcome Zones) → given o ≡ zones_from file head asked room (given m)
    → Tells (λ (z : Zones). z.mark) (λ (z : Zones). z.matches) m o
lookup_tells file room asked head m o e = let is = given_one (given_from (fields_of file head room m.matches []) _ e).onto in
    record { mark = ap (λ (x : Outcome Zones). x.answer.mark) is; count = ap (λ (x : Outcome Zones). x.answer.matches) is; matches = ap (λ (x : Outcome Zones). x.matches) is }

pub simple_tells : (file : List ℕ) (room : ℕ) (head : Head) (m : Matched) (o : Outcome Described) → given o ≡ described_from file head room (given m)
    → Tells (λ (d : Described). d.mark) (λ (d : Described). d.matches) m o
simple_tells file room head m o e =
    let is = given_one (given_from (worded_of file head room m.matches) _ (met_check (checked file head m.matches) _ e)).onto in record {
      mark = ap (λ (x : Outcome Described). x.answer.mark) is;
      count = ap (λ (x : Outcome Described). x.answer.matches) is;
      matches = ap (λ (x : Outcome Described). x.matches) is;
    }

-- An answered lookup comes from a search that went through every row up to where it ended, and its mark says why it ended there.
pub lookup_ends : (file : List ℕ) (location : Location) (asked : Bool) (n room : ℕ) (zones : Zones) → (looked_up file location asked n room).reply ≡ given zones
    → Answered file location asked n zones.matches zones.mark (looked_up file location asked n room).hits
unfolding looked_up zones_in zones_with
lookup_ends file location asked n room =
    answer_ends (λ (z : Zones). z.mark) (λ (z : Zones). z.matches) file location asked n room _ (lookup_tells file room asked)

-- The same of a simple lookup, which does not ask for the distance.
pub simple_lookup_ends : (file : List ℕ) (location : Location) (n room : ℕ) (described : Described) → (simply_looked file location n room).reply ≡ given described
    → Answered file location false n described.matches described.mark (simply_looked file location n room).hits
unfolding simply_looked described_in described_with
simple_lookup_ends file location n room =
    answer_ends (λ (d : Described). d.mark) (λ (d : Described). d.matches) file location false n room _ (simple_tells file room)

-- So a lookup's mark is 1, 2, 3 or 4,
pub lookup_marks : (file : List ℕ) (location : Location) (asked : Bool) (n room : ℕ) (zones : Zones) → (looked_up file location asked n room).reply ≡ given zones → Listed end_marks zones.mark
lookup_marks file location asked n room zones e = behind_marks (lookup_ends file location asked n room zones e).behind

-- and a simple lookup's too.
pub simple_lookup_marks : (file : List ℕ) (location : Location) (n room : ℕ) (described : Described) → (simply_looked file location n room).reply ≡ given described → Listed end_marks described.mark
simple_lookup_marks file location n room described e = behind_marks (simple_lookup_ends file location n room described e).behind
