-- Each match of a built file is numbered by a yard of its table, and has the yard's record. Assumes nothing.
use Rattle.numbers.{proofs.Prelude.{ℕ, ◌+◌, ◌≤◌, eq-eqb, ne_eqb, eqb, Bool, true, false, List, [], ◌∷◌, ◌≡◌, refl, sym, arith}, specs.Answer.{if◌then◌else◌}}
use Rattle.border.specs.declared.place.Point.{Point}
use Rattle.layout.proofs.Everyone.{Every}
use Rattle.promises.specs.Built.{Finds.{Alone, no_more, next, values_at}, Seats.{Entered, Seat, seats_from}}
use Rattle.table.{proofs.Merged.{Each, both, each_so, merged_each}, specs.{Merge.{merged}, Search.{kind_of, row_hit}, declared.hits.Hit.{Hit}}}
use Rattle.table.proofs.Merged as M

-- ---- which yard
-- a yard of the table has this number and this record
pub data Sat (number metadata : ℕ) : List Seat → Type 0 where
  here : {s : Seat} {seats : List Seat} → number ≡ s.at.id → metadata ≡ s.at.metadata → Sat number metadata (s ∷ seats)
  later : {s : Seat} {seats : List Seat} → Sat number metadata seats → Sat number metadata (s ∷ seats)

abbrev pub SatOf : List Seat → Hit → Type 0
SatOf seats hit = Sat hit.polygon hit.metadata seats

pub alone_sat : {fix : Point} {seats : List Seat} {hits : List Hit} → Alone fix seats hits → Each (SatOf seats) hits
alone_sat no_more = M.end
alone_sat (next {s = s} {seats = seats} {hits = hits} verdict e rest) = both (own (eqb (kind_of verdict) 0)) (each_so (λ hit h. later h) (alone_sat rest)) where
  own : (t : Bool) → Each (SatOf (s ∷ seats)) (if t then [] else (row_hit s.at (kind_of verdict) ∷ []))
  own true = M.end
  own false = M.next (here refl refl) M.end

-- a match has the number and the metadata id of a hit
pub merged_sat : (seats : List Seat) {hits : List Hit} → Each (SatOf seats) hits → Each (SatOf seats) (merged hits)
unfolding merged
merged_sat seats = merged_each {P = SatOf seats} {Q = SatOf seats} (λ hit hits h hs f. h) []

-- the yard that a number means, with what is known of it
pub record Means (P : Entered → Type 0) (seats : List Seat) (number metadata : ℕ) : Type 0 where
  pub entered : Entered
  pub so : P entered
  pub record_is : metadata ≡ entered.entry.record'
  pub values_are : values_at seats number ≡ entered.yard.values

module _ (P : Entered → Type 0) (number metadata : ℕ) where
  at_least : (es : List Entered) (place id r b : ℕ) → Sat number metadata (seats_from place id r b es) → id ≤ number
  unfolding seats_from
  at_least [] place id r b sat = elim sat [ ]
  at_least (e ∷ es) place id r b (here n m) = omega arith
  at_least (e ∷ es) place id r b (later s) = omega (arith, at_least es _ (id + 1) e.entry.record' e.entry.border s)

  pub sat_means : (es : List Entered) → Every P es → (place id r b : ℕ) → Sat number metadata (seats_from place id r b es) → Means P (seats_from place id r b es) number metadata
  unfolding Every seats_from values_at
  sat_means [] h place id r b sat = elim sat [ ]
  sat_means (e ∷ es) h place id r b (here n m) = record { entered = e; so = h.0; record_is = m; values_are = rw (eq-eqb id number (sym n)) }
  sat_means (e ∷ es) h place id r b (later s) = let more = sat_means es h.1 _ (id + 1) e.entry.record' e.entry.border s in
      let past = at_least es _ (id + 1) e.entry.record' e.entry.border s in
      record { entered = more.entered; so = more.so; record_is = more.record_is; values_are = rw (ne_eqb id number (λ z. omega (arith, past, z))) more.values_are }
