-- What is compared of lookups in two files: everything but the end mark, and the place of a match's entry (document 02, Q-7 and Q-13).
use Rattle.std.specs.Prelude.{◌≡◌}
use Rattle.numbers.specs.{Prelude.{ℕ, Bool, List, map}, Reply.{Reply, given, ◌>>=◌}}
use Rattle.header.specs.Header.{head_by}
use Rattle.table.specs.{Hits.{hit_of}, declared.{hits.Hit.{Hit}, location.Location.{Location}}}
use Rattle.zones.specs.{Lent.{Outcome}, Lookup.{zones_by}, Simple.{described_in}, declared.{lookup.Zones.{Zones}, simple.Described.{Described}}}

-- a match without its place
abbrev pub unplaced : Hit → Hit
unplaced hit = hit_of hit.polygon hit.metadata hit.kind 0

-- an answer without its mark, its matches without their places, and all of the text
abbrev pub unmarked : Outcome Zones → Outcome Zones
unmarked o = record {
  answer = record { matches = o.answer.matches; mark = 0; safezone = o.answer.safezone; used = o.answer.used };
  matches = map unplaced o.matches;
  text = o.text;
}

-- what is compared of an answered or refused lookup, with the file opened plainly or strictly
unfoldable pub compared_by : Bool → List ℕ → Location → Bool → ℕ → ℕ → Reply (Outcome Zones)
compared_by strict file location asked n room = zones_by (head_by strict file) file location asked n room >>= λ o. given (unmarked o)

-- the same of a simple lookup
abbrev pub unmarked_simple : Outcome Described → Outcome Described
unmarked_simple o = record {
  answer = record { matches = o.answer.matches; mark = 0; description = o.answer.description };
  matches = map unplaced o.matches;
  text = o.text;
}

unfoldable pub simply_compared : List ℕ → Location → ℕ → ℕ → Reply (Outcome Described)
simply_compared file location n room = described_in file location n room >>= λ o. given (unmarked_simple o)

-- For every location, with the safezone or without, and whatever room is lent, lookups in two files give the same matches, texts and safezone, or the same refusal.
abbrev pub SameAnswers : Bool → List ℕ → Bool → List ℕ → Type 0
SameAnswers strict file strict' file' = (location : Location) (asked : Bool) (n room : ℕ) → compared_by strict file location asked n room ≡ compared_by strict' file' location asked n room

-- simple lookups too: the same matches and description, or the same refusal
abbrev pub SameSimply : List ℕ → List ℕ → Type 0
SameSimply file file' = (location : Location) (n room : ℕ) → simply_compared file location n room ≡ simply_compared file' location n room
