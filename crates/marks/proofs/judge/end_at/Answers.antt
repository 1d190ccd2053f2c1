-- `marks::judge::end_at` meets its contract, by whether a stretch is behind.
use Rattle.numbers.proofs.Prelude.{ℕ, zero, suc, ◌+◌, ◌<◌, List, ◌≡◌, ◌∙◌, arith}
use Rattle.border.specs.declared.place.Point.{Point}
use Rattle.marks.specs.{Judging.{end_in}, Words.{start_in}}
use Rattle.marks.proofs.judge.end_at.Goals as goal

last_one : (words : List ℕ) (first : Point) (behind at : ℕ) → behind ≡ 0 → first ≡ end_in words first behind at
unfolding end_in
last_one words first zero at e = λ i. first
last_one words first (suc n) at e = absurd (omega (arith, e))

not_last : (words : List ℕ) (first : Point) (behind at : ℕ) → (behind ≡ 0 → ⊥) → start_in words (at + 11) ≡ end_in words first behind at
unfolding end_in
not_last words first zero at e = absurd (e (λ i. zero))
not_last words first (suc n) at e = λ i. start_in words (at + 11)

pub returns-then-behind-eq0 : goal.returns-then-behind-eq0
returns-then-behind-eq0 c =
    last_one c.args.words.now c.args.last c.args.behind c.args.at c.if-behind-eq0.true

pub returns : goal.returns
returns c =
    c.point_at.ensures ∙ not_last c.args.words.now c.args.last c.args.behind c.args.at c.if-behind-eq0.false
