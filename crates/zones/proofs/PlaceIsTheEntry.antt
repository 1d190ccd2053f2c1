-- The fourth word of a match leads to its entry: the place of the table's row with the match's number and metadata id, whose box, read there, holds the location. Assumes nothing.
use Rattle.numbers.proofs.{Answers.{All}, Laws.{Read, forward_read}, Prelude.{ℕ, ◌%◌, ◌^◌, ◌≤◌, ◌<◌, leb-true, eqb, leb, length, Bool, true, false, List, [], ◌∷◌, ◌≡◌, refl, sym, ap, subst, ◌∙◌}}
use Rattle.numbers.{proofs.{Prelude.{arith}, Replies.{given_from, demanded}}, specs.{Answer.{Answer, found, ◌>>=◌}, Reply.{given, plain}, Varint.{Numeral, forward_at, reading_of}}}
use Rattle.verdict.specs.Verdict.{Judgement}
use Rattle.border.specs.declared.place.Point.{Point}
use Rattle.zones.proofs.{HowItEnds.{lookup_ends, simple_lookup_ends}, MatchKinds.{answered_each}}
use Rattle.table.{proofs.{Beside.{entry_plain}, Merged.{Each, end, next, both, either, merged_each}, TableRows.{rows_so}}, specs.{Ending.{Through, here, outside, judged, Answered}, Find.{fix_of}}}
use Rattle.table.specs.{Hits.{hit_of, hit_at}, Merge.{summary, seen, merged_after, merged}, Rows.{Rows, row, table_end, unreadable, row_of, row_by, rows_in}, Search.{kind_of}, Table.{entry_by, holds}}
use Rattle.table.specs.declared.{hits.Hit.{Hit}, location.Location.{Location}, rows.{Cursor.{Cursor}, Row.{Row}}, table.{Bounds.{Bounds}, Entry.{Entry}}}
use Rattle.header.specs.{Header.{preamble_of, contents_by, head_by, head_of}, declared.header.Head.{Head}}
use Rattle.zones.specs.{Lookup.{looked_up}, Places.{Listed, later, EntryOf}, Simple.{simply_looked}, declared.{lookup.Zones.{Zones}, simple.Described.{Described}}}
use Rattle.numbers.specs.Answer as A
use Rattle.zones.specs.Places as P
use Rattle.table.specs.Rows as T

-- ---- a row of the table was read at its place
unfoldable pub Begins : Rows → Type 0
Begins (row r rows) = Unit
Begins table_end = ⊥
Begins unreadable = ⊥
Begins (T.refused n) = ⊥

pub begins : {r : Row} {rows : Rows} → Listed r rows → Begins rows
unfolding Begins
begins P.here = tt
begins (later l) = tt

record ReadAt (file : List ℕ) (r : Row) : Type 0 where
  entry : Entry
  reads : entry_by (forward_at file) r.place ≡ found entry
  box : r.bounds ≡ entry.bounds

module _ (file : List ℕ) where
  row_read : (strict : Bool) (at : Cursor) (r : Row) → found r ≡ row_by (reading_of strict file) at → ReadAt file r
  unfolding row_by
  row_read strict at r e = go (entry_by (reading_of strict file) at.place) refl e where
    go : (answer : Answer Entry) → entry_by (reading_of strict file) at.place ≡ answer → found r ≡ (answer >>= λ entry. found (row_of at entry)) → ReadAt file r
    go (found entry) a e = let is : r ≡ row_of at entry = cc in subst (ReadAt file) (sym is) (record { entry = entry; reads = entry_plain file strict at.place a; box = refl })
    go A.failed a e = let z : ◌≡◌ {A = ℕ} 0 1 = cc in absurd (omega arith)
    go (A.refused n) a e = let z : ◌≡◌ {A = ℕ} 0 1 = cc in absurd (omega arith)

  abbrev EachRead : Rows → Type 0
  EachRead rows = (r : Row) → Listed r rows → ReadAt file r

  rows_read : (head : Head) → EachRead (rows_in file head)
  unfolding rows_in Begins
  rows_read head = rows_so (reading_of head.strict file) EachRead (λ r l. absurd (begins l)) (λ r l. absurd (begins l)) goes (λ at n e r l. absurd (begins l)) _ _ where
    goes : (at : Cursor) (s : Row) (rest : Rows) → found s ≡ row_by (reading_of head.strict file) at → EachRead rest → EachRead (row s rest)
    goes at s rest e k _ P.here = row_read head.strict at s e
    goes at s rest e k r (later l) = k r l

  -- inside the file, which has at most 2 ^ 30 bytes
  inside_file : (place : ℕ) (entry : Entry) → entry_by (forward_at file) place ≡ found entry → place < length file
  unfolding entry_by
  inside_file place entry e = go (forward_at file place) _ (forward_read file place) e where
    go : (answer : Answer Numeral) (on : Numeral → Answer Entry) → All (λ (number : Numeral). Read file place number.value number.place) answer → (answer >>= on) ≡ found entry
        → place < length file
    go (found number) on read e = read.inside
    go A.failed on read e = let z : ◌≡◌ {A = ℕ} 0 1 = cc in absurd (omega arith)
    go (A.refused n) on read e = let z : ◌≡◌ {A = ℕ} 0 1 = cc in absurd (omega arith)

  small_file : (head : Head) → head_of file ≡ given head → length file ≤ 2 ^ 30
  unfolding head_by contents_by preamble_of
  small_file head e = let contents = given_from (contents_by false file) _ (sym e) in
      leb-true (length file) (2 ^ 30) (demanded (leb (length file) (2 ^ 30)) (plain 1) (given_from (preamble_of file) _ contents.is).is).0

-- ---- the hits of a search, each from a row that holds the location
record From (fix : Point) (rows : Rows) (hit : Hit) : Type 0 where
  table_row : Row
  listed : Listed table_row rows
  numbered : table_row.id ≡ hit.polygon
  same_id : table_row.metadata ≡ hit.metadata
  placed : table_row.place % 2 ^ 32 ≡ hit.place
  held : holds table_row.bounds fix ≡ true

through_from : {judge : ℕ → ℕ → Judgement} {fix : Point} {rows left : Rows} {least last : ℕ} {hits : List Hit} (all : Rows) → Through judge fix rows least hits left last
    → ((r : Row) → Listed r rows → Listed r all) → Each (From fix all) hits
through_from all here within = end
through_from all (outside a h t) within = through_from all t (λ r l. within r (later l))
through_from {fix = fix} all (judged {r = r} {verdict = verdict} a h j t) within =
    both (either (Each (From fix all)) (eqb (kind_of verdict) 0) (λ e. end) (λ e. next (record { table_row = r; listed = within r P.here; numbered = refl; same_id = refl; placed = refl; held = h })
    end)) (through_from all t (λ r l. within r (later l)))

-- a match has all but the kind from a hit
merged_from : (fix : Point) (all : Rows) {hits : List Hit} → Each (From fix all) hits → Each (From fix all) (merged_after [] hits)
merged_from fix all =
    merged_each {P = From fix all} {Q = From fix all} (λ hit hits h hs f.
    record { table_row = h.table_row; listed = h.listed; numbered = h.numbered; same_id = h.same_id; placed = h.placed; held = h.held }) []

-- ---- in the lent words
entry_of : (file : List ℕ) (location : Location) (head : Head) → head_of file ≡ given head → (match : Hit) → From (fix_of location head.preamble.precision)
    (rows_in file head) match → EntryOf file location match
entry_of file location head opened match f = let read = rows_read file head f.table_row f.listed in let small = small_file file head opened in
    let inside = inside_file file f.table_row.place read.entry read.reads in
    let place : f.table_row.place ≡ match.place = omega (arith, f.placed) in record {
      head = head;
      opened = opened;
      table_row = f.table_row;
      listed = f.listed;
      numbered = f.numbered;
      same_id = f.same_id;
      placed = place;
      entry = read.entry;
      reads = ap (entry_by (forward_at file)) (sym place) ∙ read.reads;
      box = read.box;
      held = ap (λ (bounds : Bounds). holds bounds (fix_of location head.preamble.precision)) (sym read.box) ∙ f.held;
    }

answered_entry : {file : List ℕ} {location : Location} {asked : Bool} {n matches mark : ℕ} {hits : List ℕ} → Answered file location asked n matches mark hits
    → (i : ℕ) → i < matches → EntryOf file location (hit_at hits i)
unfolding merged
answered_entry {file} {location} {hits = hits} a i h = let b = a.behind in let fix = fix_of location b.head.preamble.precision in
    let all = rows_in file b.head in
    let each : Each (From fix all) a.list = subst (Each (From fix all)) (sym b.merges) (merged_from fix all (through_from all b.ending.through (λ r l. l))) in
    entry_of file location b.head b.opened (hit_at hits i) (answered_each {P = From fix all} a each i h)

-- At the place of each match of an answered lookup stands the entry of the row with the match's number and metadata id, whose box holds the location,
pub place_is_the_entry : (file : List ℕ) (location : Location) (asked : Bool) (n room : ℕ) (zones : Zones) → (looked_up file location asked n room).reply ≡ given zones
    → (i : ℕ) → i < zones.matches → EntryOf file location (hit_at (looked_up file location asked n room).hits i)
place_is_the_entry file location asked n room zones e = answered_entry (lookup_ends file location asked n room zones e)

-- and at that of each match of an answered simple lookup.
pub simple_place_is_the_entry : (file : List ℕ) (location : Location) (n room : ℕ) (described : Described) → (simply_looked file location n room).reply ≡ given described
    → (i : ℕ) → i < described.matches → EntryOf file location (hit_at (simply_looked file location n room).hits i)
simple_place_is_the_entry file location n room described e = answered_entry (simple_lookup_ends file location n room described e)

-- The place is the first hit's, also where that hit is excluded and a later one decides the kind.
pub first_hit_place : merged (hit_of 0 7 2 16 ∷ hit_of 1 7 3 22 ∷ hit_of 2 7 1 28 ∷ []) ≡ hit_of 0 7 3 16 ∷ []
unfolding merged merged_after seen summary
first_hit_place = refl
