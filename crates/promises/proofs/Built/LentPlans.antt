-- A plan that was lent and not refused 25 has a value for each name in every yard. Assumes nothing.
use Rattle.numbers.proofs.Prelude.{ℕ, ◌+◌, ◌*◌, ◌≤◌, eq-eqb, leb-true, eqb-true, eqb, ltb, leb, ℤ, length, take, drop, length-drop, length-take, true, List, [], ◌∷◌, ◌≡◌, refl, ◌∙◌, mul-suc, arith}
use Rattle.numbers.proofs.Tests.{both}
use Rattle.writer.specs.Writer.{every}
use Rattle.builder.{proofs.Counting.{cut_many}, specs.{File.{counted}, Yards.{Text, Yard, Lent, cut_by, yards_from, values_from, counted_lengths, plan_of}}}
use Rattle.promises.specs.Built.Finds.{Valued}

valued_from : (names : ℕ) (words : List ℕ) (ys xs : List ℤ) (pieces : List ℕ) (texts : List Text) → every (eqb names) (values_from words) ≡ true → names * length (values_from words) ≤ length texts
    → every (λ (y : Yard). eqb (length y.values) names) (yards_from words ys xs pieces texts) ≡ true
unfolding every values_from yards_from
valued_from names (a ∷ b ∷ p ∷ v ∷ rest) ys xs pieces texts good room = let now = both (eqb names v) (every (eqb names) (values_from rest)) good in
    let same : names ≡ v = eqb-true names v now.0 in let more = mul-suc names (length (values_from rest)) in
    let size : length (take v texts) ≡ names = length-take v texts ∙ omega arith in
    rw (eq-eqb (length (take v texts)) names size) (valued_from names rest (drop a ys) (drop b xs) (drop (5 * p) pieces) (drop v texts) now.1 (omega (arith, length-drop v texts)))
valued_from names (a ∷ b ∷ p ∷ []) ys xs pieces texts good room = refl
valued_from names (a ∷ b ∷ []) ys xs pieces texts good room = refl
valued_from names (a ∷ []) ys xs pieces texts good room = refl
valued_from names [] ys xs pieces texts good room = refl

pub lent_valued : (lent : Lent) → counted (plan_of lent) ≡ true → Valued (plan_of lent)
unfolding counted plan_of counted_lengths
lent_valued lent good = let texts = cut_by lent.lengths lent.texts in let first = both (ltb 0 (length (plan_of lent).yards)) _ good in
    let second = both (leb (length (plan_of lent).yards) 4096) _ first.1 in let third = both (leb (length (plan_of lent).names) 255) _ second.1 in
    let fourth = both (every (eqb lent.names) (values_from lent.yards)) _ third.1 in
    let enough = leb-true (lent.names + 1 + lent.names * length (values_from lent.yards)) (length lent.lengths) fourth.1 in
    let many = cut_many lent.lengths lent.texts in
    let names : length (take lent.names texts) ≡ lent.names = length-take lent.names texts ∙ omega arith in
    rw names (valued_from lent.names lent.yards lent.lats lent.lons lent.pieces (drop (lent.names + 1) texts) fourth.0 (omega (arith, length-drop (lent.names + 1) texts)))
