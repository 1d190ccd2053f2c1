-- A promise permits one reply: what an answer says determines it. Assumes nothing.
use Rattle.numbers.{proofs.Prelude.{ℕ, List, ◌≡◌, sym, ap, ◌∙◌}, specs.Reply.{Reply}}
use Rattle.writer.specs.Writer.{Replied, replied}

-- `write_border` and `write_border_words`: the reply and the whole output
pub same_written : {answer : Replied} (a b : Reply ℕ) {out out' : List ℕ} → replied a out ≡ answer → replied b out' ≡ answer → (a ≡ b) × (out ≡ out')
same_written a b e g = (ap (λ (x : Replied). x.reply) (e ∙ sym g), ap (λ (x : Replied). x.out) (e ∙ sym g))
