-- A whole input: what a run writes is the lines of its requests, and its status is theirs, however the input comes in pieces. Assumes nothing.
use Rattle.numbers.proofs.Prelude.{ℕ, zero, suc, ◌+◌, ◌-◌, ◌≤◌, ◌<◌, leb-true, lt-leb, leb-false, eqb, leb, length, take, drop, get_or, drop_of_length-le, length-take-le, take_all, Bool, true, false}
use Rattle.numbers.{proofs.Prelude.{List, [], ◌∷◌, ◌++◌, append_assoc, ◌≡◌, refl, sym, ap, ◌∙◌, arith}, specs.{Answer.{if◌then◌else◌}, Reply.{refused, refusal}}}
use Prim.Native.Nat.{max}
use mathlib.Core.List.{flatten}
use Rattle.request.specs.{Request.{request_of, spelt_of}, Text.{unended, line_of}}
use Rattle.shell.proofs.{Pieces.{ended_pieces, left_pieces}, Streams.{worst_both, ended_none, left_none}, Turns.{lines_one}}
use Rattle.shell.specs.{Answer.{slip_for, line_for, fault_for}, Kept.{most, push, ended, left}, Requests.{last, requests_from, requests}}
use Rattle.shell.specs.{Run.{Turns, Run, Exit, over, turn, ends, ends_line, piece, finished, served}, Written.{lines_of, worst, written, status_of}}
use Rattle.slip.specs.Slip.{slip_of}

-- ---- the front of a request that is too long is too long
unended_if : (text : List ℕ) (t : Bool) → length text ≤ length (if t then take (length text - 1) text else text) + 1
unended_if text true = omega (arith, length-take-le (length text - 1) text (omega arith))
unended_if text false = omega arith

unended_long : (byte : ℕ) (text : List ℕ) → length text ≤ length (unended byte text) + 1
unended_long byte text = unended_if text (eqb (get_or text (length text - 1) 0) byte)

too_long : (text : List ℕ) → 257 < length text → request_of text ≡ refused (refusal 80 0 255)
unfolding request_of spelt_of
too_long text h = rw (lt-leb (length (line_of text)) 255 (omega (arith, unended_long 10 text, unended_long 13 (unended 10 text)))) refl

request_front : (text : List ℕ) → request_of (take most text) ≡ request_of text
request_front text = go (leb (length text) most) refl where
  go : (t : Bool) → leb (length text) most ≡ t → request_of (take most text) ≡ request_of text
  go true e = ap request_of (take_all most text (leb-true (length text) most e))
  go false e = let h = leb-false (length text) most e in
      too_long (take most text) (omega (arith, h, length-take-le most text (omega (arith, h)))) ∙ sym (too_long text (omega (arith, h)))

slip_front : (request map zones : List ℕ) → slip_for (take most request) map zones ≡ slip_for request map zones
unfolding slip_for slip_of
slip_front request map zones = rw (request_front request) refl

-- ---- the requests as they are kept
fronts : List (List ℕ) → List (List ℕ)
fronts [] = []
fronts (request ∷ more) = take most request ∷ fronts more

take_again : (n : ℕ) (a b : List ℕ) → take n (take n a ++ b) ≡ take n (a ++ b)
take_again zero a b = refl
take_again (suc n) [] b = refl
take_again (suc n) (x ∷ a) b = ap (λ (r : List ℕ). x ∷ r) (take_again n a b)

push_on : (line : List ℕ) (byte : ℕ) → push (take most line) byte ≡ take most (line ++ (byte ∷ []))
unfolding push
push_on line byte = take_again most line (byte ∷ [])

last_front : (line : List ℕ) → last (take most line) ≡ fronts (last line)
unfolding last fronts
last_front [] = refl
last_front (byte ∷ line) = refl

-- what ends in the bytes, and what then is left
unfoldable pub kept : List ℕ → List ℕ → List (List ℕ)
kept line bytes = ended line bytes ++ last (left line bytes)

kept_if : (line bytes : List ℕ) (byte : ℕ) (t : Bool) → kept [] bytes ≡ fronts (requests_from [] bytes) → kept (push (take most line) byte) bytes ≡ fronts (requests_from (line ++ (byte ∷ [])) bytes)
    → (if t then (take most line ∷ ended [] bytes) else ended (push (take most line) byte) bytes) ++ last (if t then left [] bytes else left (push (take most line) byte) bytes)
    ≡ fronts (if t then (line ∷ requests_from [] bytes) else requests_from (line ++ (byte ∷ [])) bytes)
unfolding kept fronts
kept_if line bytes byte true p q = ap (λ (r : List (List ℕ)). take most line ∷ r) p
kept_if line bytes byte false p q = q

kept_requests : (line bytes : List ℕ) → kept (take most line) bytes ≡ fronts (requests_from line bytes)
unfolding kept ended left requests_from
kept_requests line [] = last_front line
kept_requests line (byte ∷ bytes) =
    kept_if line bytes byte (eqb byte 10) (kept_requests [] bytes) (ap (λ (l : List ℕ). kept l bytes) (push_on line byte) ∙ kept_requests (line ++ (byte ∷ [])) bytes)

module _ (map zones : List ℕ) where
  lines_fronts : (rs : List (List ℕ)) → lines_of map zones (fronts rs) ≡ lines_of map zones rs
  unfolding lines_of fronts
  lines_fronts [] = refl
  lines_fronts (r ∷ rs) = λ i. line_for (slip_front r map zones i) ++ lines_fronts rs i

  worst_fronts : (rs : List (List ℕ)) → worst map zones (fronts rs) ≡ worst map zones rs
  unfolding worst fronts
  worst_fronts [] = refl
  worst_fronts (r ∷ rs) = λ i. max (fault_for (slip_front r map zones i)) (worst_fronts rs i)

  pub kept_lines : (input : List ℕ) → lines_of map zones (kept [] input) ≡ written map zones input
  unfolding written requests
  kept_lines input = ap (lines_of map zones) (kept_requests [] input) ∙ lines_fronts (requests_from [] input)

  pub kept_worst : (input : List ℕ) → worst map zones (kept [] input) ≡ status_of map zones input
  unfolding status_of requests
  kept_worst input = ap (worst map zones) (kept_requests [] input) ∙ worst_fronts (requests_from [] input)

  -- ---- in two parts
  pub lines_both : (xs ys : List (List ℕ)) → lines_of map zones (xs ++ ys) ≡ lines_of map zones xs ++ lines_of map zones ys
  unfolding lines_of
  lines_both [] ys = refl
  lines_both (x ∷ xs) ys =
      ap (λ (r : List ℕ). line_for (slip_for x map zones) ++ r) (lines_both xs ys) ∙ sym (append_assoc (line_for (slip_for x map zones)) (lines_of map zones xs) (lines_of map zones ys))

  kept_pieces : (line a b : List ℕ) → kept line (a ++ b) ≡ ended line a ++ kept (left line a) b
  unfolding kept
  kept_pieces line a b =
      (λ i. ended_pieces a b line i ++ last (left_pieces a b line i)) ∙ append_assoc (ended line a) (ended (left line a) b) (last (left (left line a) b))

  -- ---- the turns of a piece
  pub record Wrote (line rest_of : List ℕ) (bytes rest : List ℕ) : Type 0 where
    pub lines : bytes ≡ lines_of map zones (ended line rest_of)
    pub leaves : rest ≡ left line rest_of

  wrote_none : (line : List ℕ) → Wrote line [] [] line
  unfolding lines_of
  wrote_none line = record { lines = sym (ap (lines_of map zones) (ended_none line)); leaves = sym (left_none line) }

  wrote_turns : {chunk : List ℕ} {at : ℕ} {line bytes rest : List ℕ} → Turns map zones chunk at line bytes rest → Wrote line (drop at chunk) bytes rest
  wrote_turns {chunk} {at} {line} (over h) = rw (drop_of_length-le chunk {i = at} h) (wrote_none line)
  wrote_turns {chunk} {at} {line} (turn turned t more) = let after = wrote_turns more in record {
    lines = (λ i. t.lines i ++ after.lines i) ∙ sym (lines_both t.done _) ∙ ap (lines_of map zones) (sym t.took.requests);
    leaves = after.leaves ∙ sym t.took.rest;
  }

  -- ---- the run
  kept_end : (line : List ℕ) → kept line [] ≡ last line
  unfolding kept ended left
  kept_end line = refl

  run_end : [] ≡ lines_of map zones (kept [] [])
  unfolding lines_of last
  run_end = sym (ap (lines_of map zones) (kept_end []))

  run_line : (byte : ℕ) (line : List ℕ) → line_for (slip_for (byte ∷ line) map zones) ≡ lines_of map zones (kept (byte ∷ line) [])
  unfolding last
  run_line byte line = lines_one map zones (byte ∷ line) ∙ sym (ap (lines_of map zones) (kept_end (byte ∷ line)))

  run_piece : (line chunk pieces : List ℕ) {bytes rest more : List ℕ} → Wrote line chunk bytes rest → more ≡ lines_of map zones (kept rest pieces)
      → bytes ++ more ≡ lines_of map zones (kept line (chunk ++ pieces))
  run_piece line chunk pieces {bytes} {rest} {more} w e =
      (λ i. w.lines i ++ e i) ∙ sym (lines_both (ended line chunk) (kept rest pieces)) ∙ ap (lines_of map zones) (ap (λ (l : List ℕ). ended line chunk ++ kept l pieces)
      w.leaves ∙ sym (kept_pieces line chunk pieces))

  pub run_lines : {pieces : List (List ℕ)} {line bytes : List ℕ} → Run map zones pieces line bytes → bytes ≡ lines_of map zones (kept line (flatten pieces))
  unfolding flatten
  run_lines ends = run_end
  run_lines (ends_line {byte} {line} answered a) = a.line ∙ run_line byte line
  run_lines (piece {chunk} {line} {pieces = pieces} turns run) = run_piece line chunk (flatten pieces) (wrote_turns turns) (run_lines run)

  -- ---- the status
  exit_piece : (line chunk pieces : List ℕ) (status now answer : ℕ) {rest : List ℕ} → now ≡ max status (worst map zones (ended line chunk)) → rest ≡ left line chunk
      → answer ≡ max now (worst map zones (kept rest pieces)) → answer ≡ max status (worst map zones (kept line (chunk ++ pieces)))
  exit_piece line chunk pieces status now answer {rest} f r e =
      let all = ap (worst map zones) (kept_pieces line chunk pieces) ∙ worst_both map zones (ended line chunk) (kept (left line chunk) pieces) in
      let left_as = ap (λ (l : List ℕ). worst map zones (kept l pieces)) r in omega (arith, f, e, all, left_as)

  pub exit_status : {pieces : List (List ℕ)} {line : List ℕ} {status answer : ℕ} → Exit map zones pieces line status answer → answer ≡ max status (worst map zones (kept line (flatten pieces)))
  unfolding flatten
  exit_status (finished {line} {status} f n) = f.faults n ∙ ap (λ (rs : List (List ℕ)). max status (worst map zones rs)) (sym (kept_end line))
  exit_status (served {chunk} {line} {pieces = pieces} {status} {answer} state s n more) =
      exit_piece line chunk (flatten pieces) status state.status answer (s.faults n) (s.rest n) (exit_status more)
