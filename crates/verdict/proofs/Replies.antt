-- A promise permits one reply: what an answer says determines it. Assumes nothing.
use Rattle.numbers.{proofs.{Faults.{one_fault}, Prelude.{ℕ, ◌≡◌, refl, sym, ap, ◌∙◌, arith}}, specs.{Fault.{number_of}, declared.fault.Fault.{Fault}}}
use Rattle.std.specs.Prelude.{Option, Some, None, Result, Ok, Err}
use Rattle.verdict.specs.{Verdict.{Judgement, reached}, declared.{judge.Judged.{Judged}, step.Verdict.{Verdict}}}
use Rattle.verdict.specs.Verdict as Judge

-- what a judgement is, with the number of a refusal
data Said : Type 0 where
  says : Option Verdict → ℕ → Said
  refuses : ℕ → Said

said : Judgement → Said
said (reached verdict least) = says (Some verdict) least
said (Judge.failed least) = says None least
said (Judge.refused n) = refuses n

said_of : Result Judged Fault → Said
said_of (Ok j) = says j.verdict j.least
said_of (Err fault) = refuses (number_of fault)

said_told : (j : Result Judged Fault) → said (Judge.told j) ≡ said_of j
unfolding said said_of
said_told (Ok j) = go j.verdict where
  go : (verdict : Option Verdict) → said (Judge.judged_by j.least verdict) ≡ says verdict j.least
  go (Some verdict) = refl
  go None = refl
said_told (Err fault) = refl

one_said : (a b : Result Judged Fault) → said_of a ≡ said_of b → a ≡ b
unfolding said_of
one_said (Ok i) (Ok j) e = let v : i.verdict ≡ j.verdict = cc in let l : i.least ≡ j.least = cc in (λ k. Ok (record { verdict = v k; least = l k }))
one_said (Ok i) (Err g) e = let z : ◌≡◌ {A = ℕ} 0 1 = cc in absurd (omega arith)
one_said (Err f) (Ok j) e = let z : ◌≡◌ {A = ℕ} 0 1 = cc in absurd (omega arith)
one_said (Err f) (Err g) e = let n : number_of f ≡ number_of g = cc in ap Err (one_fault f g n)

-- `point_in_polygon`
pub same_judgement : {judgement : Judgement} (a b : Result Judged Fault) → Judge.told a ≡ judgement → Judge.told b ≡ judgement → a ≡ b
same_judgement a b e g = one_said a b (sym (said_told a) ∙ ap said (e ∙ sym g) ∙ said_told b)
