-- Mark 1 means that the whole reply is that of a search which never stops early. Mark 4 means that a row behind the stop holds the location. Assumes nothing.
use Rattle.numbers.{proofs.{Prelude.{ℕ, ◌/◌, Bool, false, List, ◌≡◌, sym, ap, subst, ◌∙◌}, Replies.{given_from, onward}}, specs.Reply.{Reply, given, ◌>>=◌}}
use Rattle.header.specs.{Header.{head_of}, declared.header.Head.{Head}}
use Rattle.table.{proofs.Unstopped.{matched_whole, passed_over}, specs.{Ending.{Through, Behind}, Find.{fix_of, Matched, matched_with}, Hits.{width}, Rows.{Rows, rows_in}, Search.{judge_in, farthest}}}
use Rattle.table.specs.{Unstopped.{matched_all}, declared.{hits.Hit.{Hit}, location.Location.{Location}}}
use Rattle.zones.proofs.HowItEnds.{outcame, Tells, lookup_tells, simple_tells, lookup_ends, simple_lookup_ends}
use Rattle.zones.specs.{Lent.{Outcome, replied_of}, Lookup.{zones_with, zones_in, looked_up}, Simple.{described_with, described_in, simply_looked}}
use Rattle.zones.specs.{Unstopped.{looked_through_all, simply_looked_through_all, StoppedShort}, declared.{lookup.Zones.{Zones}, simple.Described.{Described}}}

module _ {A : Type 0} (marked counted : A → ℕ) (file : List ℕ) (location : Location) (asked : Bool) (n room : ℕ) (next : Head → Matched → Reply (Outcome A))
    (tells : (head : Head) (m : Matched) (o : Outcome A) → given o ≡ next head m → Tells marked counted m o) where
  abbrev found_by : (Head → Reply Matched) → Head → Reply (Outcome A)
  found_by matched head = matched head >>= next head

  abbrev stopping : Head → Reply Matched
  stopping head = matched_with file head location asked (n / width)

  abbrev going_on : Head → Reply Matched
  going_on head = matched_all file head location asked (n / width)

  answer_whole : (answer : A) → (replied_of n room (head_of file >>= found_by stopping)).reply ≡ given answer → marked answer ≡ 1
      → replied_of n room (head_of file >>= found_by stopping) ≡ replied_of n room (head_of file >>= found_by going_on)
  answer_whole answer e one = let o = outcame n room (head_of file >>= found_by stopping) answer e in
      let h = given_from (head_of file) (found_by stopping) o.is in let m = given_from (stopping h.it) (next h.it) h.onto in
      let t = tells h.it m.it o.outcome m.onto in let mark : m.it.mark ≡ 1 = sym (ap marked o.said ∙ t.mark) ∙ one in
      ap (replied_of n room) (sym (onward h.is (found_by stopping)) ∙ ap (λ (x : Reply Matched). x >>= next h.it) (matched_whole file h.it location
      asked (n / width) m.it m.is mark) ∙ onward h.is (found_by going_on))

-- A lookup that answers with mark 1 replies, and leaves in both lent buffers, what one does whose search never stops early,
pub whole_means_whole : (file : List ℕ) (location : Location) (asked : Bool) (n room : ℕ) (zones : Zones) → (looked_up file location asked n room).reply ≡ given zones → zones.mark ≡ 1
    → looked_up file location asked n room ≡ looked_through_all file location asked n room
unfolding looked_up zones_in zones_with looked_through_all
whole_means_whole file location asked n room = answer_whole (λ (z : Zones). z.mark) (λ (z : Zones). z.matches) file location asked n room _ (lookup_tells file room asked)

-- and a simple lookup too.
pub simple_whole_means_whole : (file : List ℕ) (location : Location) (n room : ℕ) (described : Described) → (simply_looked file location n room).reply ≡ given described → described.mark ≡ 1
    → simply_looked file location n room ≡ simply_looked_through_all file location n room
unfolding simply_looked described_in described_with simply_looked_through_all
simple_whole_means_whole file location n room = answer_whole (λ (d : Described). d.mark) (λ (d : Described). d.matches) file location false n room _ (simple_tells file room)

-- ---- mark 4
short : {file : List ℕ} {location : Location} {asked : Bool} {matches : List Hit} {mark : ℕ} → Behind file location asked matches mark → mark ≡ 4 → StoppedShort file location asked
short {file} {location} {asked} b four = let fix = fix_of location b.head.preamble.precision in
    let p = passed_over b.ending.ends (sym b.marked ∙ four) in record {
      head = b.head;
      opened = b.opened;
      hits = b.found.hits;
      stop = p.stop;
      rest = p.rest;
      last = b.ending.last;
      through =
          subst (λ (left : Rows). Through (judge_in file b.head fix asked) fix (rows_in file b.head) farthest b.found.hits left b.ending.last) p.is b.ending.through;
      stops = p.stops;
      held = p.held;
    }

-- Under mark 4 the search stopped at a row above the location, and a row behind that one holds the location,
pub mark_four : (file : List ℕ) (location : Location) (asked : Bool) (n room : ℕ) (zones : Zones) → (looked_up file location asked n room).reply ≡ given zones → zones.mark ≡ 4
    → StoppedShort file location asked
mark_four file location asked n room zones e four = short (lookup_ends file location asked n room zones e).behind four

-- in a simple lookup too, which does not ask for the distance.
pub simple_mark_four : (file : List ℕ) (location : Location) (n room : ℕ) (described : Described) → (simply_looked file location n room).reply ≡ given described → described.mark ≡ 4
    → StoppedShort file location false
simple_mark_four file location n room described e four = short (simple_lookup_ends file location n room described e).behind four
