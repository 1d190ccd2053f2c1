-- What a turn takes and writes. Assumes nothing.
use Rattle.numbers.proofs.Prelude.{ℕ, Bool, true, false, take, List, [], ◌∷◌, append-nil, ◌≡◌, refl, sym, ◌∙◌, arith}
use Rattle.shell.specs.{Answer.{slip_for, line_for, fault_for, Rooms, Answers}, Turn.{Took, Gathered, Turned, done_of, rest_of}, Written.{lines_of, worst}, declared.answer.Answered.{Answered}}
use Rattle.shell.specs.declared.gather.Step.{Step}

as_plain : {chunk line l : List ℕ} {from next : ℕ} (ended : Bool) → ended ≡ false → Took chunk from line (done_of ended l) next (rest_of ended l) → Took chunk from line [] next l
unfolding done_of rest_of
as_plain false e t = t
as_plain true e t = let z : ◌≡◌ {A = ℕ} 0 1 = cc in absurd (omega arith)

as_ended : {chunk line l : List ℕ} {from next : ℕ} (ended : Bool) → ended ≡ true → Took chunk from line (done_of ended l) next (rest_of ended l) → Took chunk from line (l ∷ []) next []
unfolding done_of rest_of
as_ended false e t = let z : ◌≡◌ {A = ℕ} 0 1 = cc in absurd (omega arith)
as_ended true e t = t

pub turned_none : {chunk line space : List ℕ} {from : ℕ} (map zones : List ℕ) {hits text out : List ℕ} (step : Step) → Gathered chunk from line space step → step.ended ≡ false → Rooms hits text out
    → Turned chunk from line space map zones hits text out (record { next = step.next; used = step.used; size = 0; fault = 0 })
unfolding lines_of worst
turned_none map zones step g e rooms =
    record {
      done = [];
      within = g.within;
      onward = g.onward;
      fits = g.fits;
      kept = g.kept;
      rooms = rooms;
      takes = omega arith;
      took = as_plain step.ended e g.took;
      lines = refl;
      faults = refl;
    }

pub lines_one : (map zones request : List ℕ) → line_for (slip_for request map zones) ≡ lines_of map zones (request ∷ [])
unfolding lines_of
lines_one map zones request = sym (append-nil (line_for (slip_for request map zones)))

worst_one : (map zones request : List ℕ) → fault_for (slip_for request map zones) ≡ worst map zones (request ∷ [])
unfolding worst
worst_one map zones request = omega arith

pub turned_one : {chunk line space : List ℕ} {from : ℕ} (map zones : List ℕ) {hits text out : List ℕ} (step : Step) (answered : Answered) → Gathered chunk from line space step → step.ended ≡ true
    → Answers (slip_for (take step.used space) map zones) hits text out answered
    → Turned chunk from line space map zones hits text out (record { next = step.next; used = 0; size = answered.size; fault = answered.fault })
turned_one {chunk} {line} {space} {from} map zones step answered g n a = let request = take step.used space in record {
  done = request ∷ [];
  within = g.within;
  onward = g.onward;
  fits = omega arith;
  kept = g.kept;
  rooms = a.rooms;
  takes = a.fits;
  took = as_ended step.ended n g.took;
  lines = a.line ∙ lines_one map zones request;
  faults = a.fault ∙ worst_one map zones request;
}
