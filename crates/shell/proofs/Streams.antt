-- What stands between the turns of a piece, and at the input's end. Assumes nothing.
use Rattle.numbers.proofs.Prelude.{ℕ, ◌≤◌, length, take, drop, drop_of_length-le, List, [], ◌∷◌, ◌++◌, append-nil, ◌≡◌, refl, sym, ap, ◌∙◌, arith}
use Prim.Native.Nat.{max}
use Rattle.shell.proofs.Pieces.{took_none, took_then}
use Rattle.shell.specs.{Answer.{slip_for, Rooms, Answers}, Kept.{most, ended, left}, Requests.{last}, Stream.{Served, Ready, Finished}, Turn.{Took, Turned}, Written.{worst}}
use Rattle.shell.specs.declared.{answer.Answered.{Answered}, turn.Turn.{Turn}}

pub record Sofar (chunk line : List ℕ) (status : ℕ) (map zones : List ℕ) (at used : ℕ) (space hits text out : List ℕ) (status' : ℕ) : Type 0 where
  pub done : List (List ℕ)
  pub within : at ≤ length chunk
  pub ready : Ready space hits text out used
  pub took : Took chunk 0 line done at (take used space)
  pub faults : status' ≡ max status (worst map zones done)

pub worst_both : (map zones : List ℕ) (xs ys : List (List ℕ)) → worst map zones (xs ++ ys) ≡ max (worst map zones xs) (worst map zones ys)
unfolding worst
worst_both map zones [] ys = omega arith
worst_both map zones (x ∷ xs) ys = omega (arith, worst_both map zones xs ys)

pub status_none : (map zones : List ℕ) (status : ℕ) → status ≡ max status (worst map zones [])
unfolding worst
status_none map zones status = omega arith

unfoldable pub sofar_none : (chunk map zones : List ℕ) {space hits text out : List ℕ} (status used : ℕ) → Ready space hits text out used
    → Sofar chunk (take used space) status map zones 0 used space hits text out status
sofar_none chunk map zones status used ready = record { done = []; within = omega arith; ready = ready; took = took_none _ _ _; faults = status_none map zones status }

unfoldable pub sofar_turn : {chunk line map zones space hits text out space' hits' text' out' : List ℕ} {status at used w : ℕ} (turn : Turn) (w' : ℕ)
    → Sofar chunk line status map zones at used space hits text out w
    → Turned chunk at (take used space) space' map zones hits' text' out' turn → w' ≡ max w turn.fault → Sofar chunk line status map zones turn.next turn.used space' hits' text' out' w'
sofar_turn {map = map} {zones = zones} turn w' s t e =
    record {
      done = s.done ++ t.done;
      within = t.within;
      ready = record { fits = t.fits; kept = t.kept; rooms = t.rooms };
      took = took_then s.done t.done s.took t.took;
      faults = omega (arith, e, s.faults, t.faults, worst_both map zones s.done t.done);
    }

pub ended_none : (line : List ℕ) → ended line [] ≡ []
unfolding ended
ended_none line = refl

pub left_none : (line : List ℕ) → left line [] ≡ line
unfolding left
left_none line = refl

pub sofar_served : {chunk line map zones space hits text out : List ℕ} {status at used w : ℕ} → Sofar chunk line status map zones at used space hits text out w → length chunk ≤ at
    → Served chunk line status map zones space hits text out (record { used = used; status = w })
sofar_served {chunk} {line} {map} {zones} {space} {status = status} {at = at} {used = used} s h = let l = take used space in
    let past : drop at chunk ≡ [] = drop_of_length-le chunk h in
    let all : ended line chunk ≡ s.done = s.took.requests ∙ ap (λ (r : List (List ℕ)). s.done ++ r) (ap (ended l) past ∙ ended_none l) ∙ append-nil s.done in record {
      fits = s.ready.fits;
      kept = s.ready.kept;
      rooms = s.ready.rooms;
      rest = λ n. sym (s.took.rest ∙ ap (left l) past ∙ left_none l);
      faults = λ n. s.faults ∙ ap (λ (d : List (List ℕ)). max status (worst map zones d)) (sym all);
    }

pub served_broken : (chunk line map zones : List ℕ) {space hits text out : List ℕ} (status : ℕ) → length space ≡ most → Rooms hits text out
    → Served chunk line status map zones space hits text out (record { used = 0; status = 2 })
served_broken chunk line map zones status kept rooms = record { fits = omega arith; kept = kept; rooms = rooms; rest = λ n. absurd (n refl); faults = λ n. absurd (n refl) }

-- ---- the input's end
pub finished_none : (request map zones : List ℕ) (status : ℕ) → length request ≡ 0 → Finished request status map zones status
unfolding last
finished_none [] map zones status h = record { faults = λ n. status_none map zones status }
finished_none (x ∷ request) map zones status h = absurd (omega arith)

pub finished_one : (request map zones : List ℕ) {hits text out : List ℕ} (answered : Answered) (status r : ℕ) → (length request ≡ 0 → ⊥) → Answers (slip_for request map zones) hits text out answered
    → r ≡ max status answered.fault → Finished request status map zones r
unfolding last worst
finished_one [] map zones answered status r n a e = absurd (n refl)
finished_one (x ∷ request) map zones answered status r n a e = record { faults = λ m. omega (arith, e, a.fault) }
