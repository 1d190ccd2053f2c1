-- Stepping towards the least length that fits: each step rises, and stays at or below every length that fits. Assumes nothing.
use Rattle.std.specs.Prelude.{Some, None}
use Rattle.numbers.proofs.Prelude.{ℕ, ◌^◌, ◌≤◌, ◌<◌, List, ◌≡◌, le_refl, arith}
use Rattle.layout.proofs.Steps.{next_rises, next_under, inline_first, inline_under}
use Rattle.layout.specs.{inner.{Answers.{LaidOut}, Layout.{next, Fits}}}

-- the loop's invariant
pub record Rising (inline : ℕ) (words : List ℕ) (records : ℕ) : Type 0 where
  pub from : inline ≤ records
  pub rises : records ≤ next inline words records
  pub under : (other : ℕ) → Fits inline words other → records ≤ other

pub starts : (inline : ℕ) (words : List ℕ) → Rising inline words inline
starts inline words = record { from = le_refl inline; rises = inline_first inline words inline; under = inline_under inline words }

module _ (inline : ℕ) (words : List ℕ) (records : ℕ) (r : Rising inline words records) where
  pub goes_on : (step : ℕ) → step ≡ next inline words records → Rising inline words step
  goes_on step e = rw e (record {
    from = inline_first inline words records;
    rises = next_rises inline words _ _ r.rises;
    under = λ other fits. next_under inline words records other fits (r.under other fits);
  })

  -- a step that does not stay grows
  pub grows : (step : ℕ) → step ≡ next inline words records → (step ≡ records → ⊥) → records < step
  grows step e other = omega (arith, r.rises)

  -- the two ways out
  pub fits : (step : ℕ) → step ≡ next inline words records → step ≡ records → records < 2 ^ 32 → LaidOut inline words (Some records)
  unfolding LaidOut Fits
  fits step e same h = (record { fits = omega arith; least = r.under }, h)

  pub too_long : 2 ^ 32 ≤ records → LaidOut inline words None
  unfolding LaidOut
  too_long h other f = omega (arith, r.under other f)
