-- What a piece leaves when it is through, and what the input's end adds. Assumes nothing.
use Rattle.numbers.proofs.Prelude.{ℕ, ◌≤◌, length, take, drop, drop_of_length-le, List, [], ◌∷◌, ◌++◌, append-nil, ◌≡◌, refl, sym, ap, ◌∙◌, arith}
use Prim.Native.Nat.{max}
use Rattle.shell.proofs.{Streams.{Sofar, ended_none, left_none}, Turns.{lines_one}}
use Rattle.shell.specs.{Answer.{slip_for, Answers}, Kept.{ended, left}, Requests.{last}, Written.{lines_of, worst}, declared.answer.Answered.{Answered}}

pub record Through (chunk line : List ℕ) (status : ℕ) (map zones : List ℕ) (used : ℕ) (space : List ℕ) (status' : ℕ) (done : List (List ℕ)) : Type 0 where
  pub requests : done ≡ ended line chunk
  pub rest : take used space ≡ left line chunk
  pub faults : status' ≡ max status (worst map zones (ended line chunk))

pub sofar_through : {chunk line map zones space hits text out : List ℕ} {status at used w : ℕ} (s : Sofar chunk line status map zones at used space hits text out w) → length chunk ≤ at
    → Through chunk line status map zones used space w s.done
sofar_through {chunk} {line} {map} {zones} {space} {status = status} {at = at} {used = used} s h = let l = take used space in
    let past : drop at chunk ≡ [] = drop_of_length-le chunk h in
    let all : ended line chunk ≡ s.done = s.took.requests ∙ ap (λ (r : List (List ℕ)). s.done ++ r) (ap (ended l) past ∙ ended_none l) ∙ append-nil s.done in record {
      requests = sym all;
      rest = sym (s.took.rest ∙ ap (left l) past ∙ left_none l);
      faults = s.faults ∙ ap (λ (d : List (List ℕ)). max status (worst map zones d)) (sym all);
    }

pub end_none : (request map zones : List ℕ) (status : ℕ) → length request ≡ 0 → (status ≡ max status (worst map zones (last request))) × (lines_of map zones (last request) ≡ [])
unfolding last worst lines_of
end_none [] map zones status h = (omega arith, refl)
end_none (x ∷ request) map zones status h = absurd (omega arith)

pub end_one : (request map zones : List ℕ) {hits text out : List ℕ} (answered : Answered) (status r : ℕ) → (length request ≡ 0 → ⊥) → Answers (slip_for request map zones) hits text out answered
    → r ≡ max status answered.fault → (r ≡ max status (worst map zones (last request))) × (take answered.size out ≡ lines_of map zones (last request))
unfolding last worst
end_one [] map zones answered status r n a e = absurd (n refl)
end_one (x ∷ request) map zones answered status r n a e = (omega (arith, e, a.fault), a.line ∙ lines_one map zones (x ∷ request))

pub lines_none : (map zones : List ℕ) → [] ≡ lines_of map zones []
unfolding lines_of
lines_none map zones = refl
