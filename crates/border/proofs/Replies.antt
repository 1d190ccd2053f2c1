-- A promise permits one reply: what an answer says determines it. Assumes nothing.
use Rattle.numbers.{proofs.{Laws.{told_one}, Prelude.{◌≡◌, sym, ◌∙◌}}, specs.{Answer.{Answer}, Varint.{told}, declared.varint.Stop.{Stop}}}
use Rattle.std.specs.Prelude.{Option, Result}
use Rattle.border.specs.{Trace.{Given}, inner.Told.{shown_of, left_by}, declared.{place.Point.{Point}, reader.Reader.{Reader}}}

-- `next_point`
pub same_reply : {answer : Answer Given} (a b : Result Given Stop) → told a ≡ answer → told b ≡ answer → a ≡ b
same_reply a b e g = told_one a b (e ∙ sym g)

-- `reader_get_point`: the reply and the state that is left
pub same_step : (s : Reader) (answer : Answer Given) {a b : Result (Option Point) Stop} {t u : Reader} → (told a ≡ shown_of answer) × (t ≡ left_by s answer)
    → (told b ≡ shown_of answer) × (u ≡ left_by s answer) → (a ≡ b) × (t ≡ u)
same_step s answer {a} {b} e g = (told_one a b (e.0 ∙ sym g.0), e.1 ∙ sym g.1)
