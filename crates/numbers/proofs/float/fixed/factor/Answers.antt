-- `numbers::float::fixed::factor` meets its contract.
use Rattle.numbers.proofs.Prelude.{ℕ, ◌+◌, ◌-◌, ◌%◌, ◌^◌, rules, eq-eqb, ne_eqb, binary32, of_int, neg, pos, ◌≡◌, sym, ap, ◌∙◌}
use Rattle.numbers.proofs.float.{Rounding.{of_int_neg}}
use Rattle.numbers.specs.Float.{to_f32, one_shifted}
-- the definition's two cases
use Rattle.numbers.proofs.float.fixed.factor.Goals as goal

sign_bit : (p : ℕ) → (p + 31) % 32 ≡ 31 → to_f32 (one_shifted p) ≡ neg (to_f32 (pos (2 ^ 31)))
unfolding one_shifted
sign_bit p e = simp (eq-eqb _ _ e) (sym (of_int_neg binary32 (2 ^ 31 - 1)))

other_bit : (p : ℕ) → ((p + 31) % 32 ≡ 31 → ⊥) → to_f32 (one_shifted p) ≡ to_f32 (pos (2 ^ ((p + 31) % 32)))
unfolding one_shifted
other_bit p e = simp (ne_eqb _ _ e)

pub returns-then-place-eq31 : goal.returns-then-place-eq31
returns-then-place-eq31 c =
    ap neg c.of_u64-size.ensures ∙ ap (λ (k : ℕ). neg (of_int binary32 (pos k))) (c.power_of_two.ensures ∙ ap (λ (j : ℕ). 2 ^ j) c.if-place-eq31.true) ∙ sym (sign_bit c.args.precision c.if-place-eq31.true)

pub returns-else-place-eq31 : goal.returns-else-place-eq31
returns-else-place-eq31 c =
    c.of_u64-size.ensures ∙ ap (λ (k : ℕ). of_int binary32 (pos k)) c.power_of_two.ensures ∙ sym (other_bit c.args.precision c.if-place-eq31.false)
