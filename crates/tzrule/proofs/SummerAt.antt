-- It is summer exactly if the instant lies in the summer of some year. Assumes nothing.
use Rattle.numbers.proofs.Prelude.{ℕ, zero, suc, ◌<◌, lt-ltb, le-leb, leb-true, ltb-true, ltb, leb, Bool, true, false, ◌≡◌, refl, sym, ap, ◌∙◌, arith}
use Rattle.numbers.{proofs.Tests.{differ}, specs.Answer.{if◌then◌else◌}}
use Rattle.tzrule.proofs.Guess.{start_low}
use Rattle.tzrule.specs.{Summer.{start_of, close_of, in_summer, summer_among, is_summer, InSummer, IsSummer, IsRule, Says}, declared.rule.Rule.{Rule}}

module _ (rule : Rule) (instant : ℕ) where
  in_if : (year : ℕ) (test : Bool) → leb (start_of rule year) instant ≡ test → (if test then ltb instant (close_of rule year) else false) ≡ true → InSummer rule year instant
  in_if year true e t = record { from = leb-true _ _ e; to = ltb-true _ _ t }
  in_if year false e t = differ t

  in_true : (year : ℕ) → in_summer rule year instant ≡ true → InSummer rule year instant
  unfolding in_summer
  in_true year t = in_if year (leb (start_of rule year) instant) refl t

  true_in : (year : ℕ) → InSummer rule year instant → in_summer rule year instant ≡ true
  unfolding in_summer
  true_in year s = simp (le-leb (start_of rule year) instant s.from, lt-ltb instant (close_of rule year) s.to)

  -- one of the first so many years
  some_if : (n : ℕ) (test : Bool) → in_summer rule n instant ≡ test → (summer_among n rule instant ≡ true → IsSummer rule instant) →
      (if test then true else summer_among n rule instant) ≡ true → IsSummer rule instant
  some_if n true e rest t = record { year = n; inside = in_true n e }
  some_if n false e rest t = rest t

  among_some : (n : ℕ) → summer_among n rule instant ≡ true → IsSummer rule instant
  unfolding summer_among
  among_some zero t = differ t
  among_some (suc n) t = some_if n (in_summer rule n instant) refl (among_some n) t

  has_if : (n year : ℕ) (test : Bool) → in_summer rule n instant ≡ test → year < suc n → in_summer rule year instant ≡ true → (year < n → summer_among n rule instant ≡ true) →
      (if test then true else summer_among n rule instant) ≡ true
  has_if n year true e h s rest = refl
  has_if n year false e h s rest = let other : year ≡ n → ⊥ = λ x. differ (sym e ∙ ap (λ (y : ℕ). in_summer rule y instant) (sym x) ∙ s) in rest (omega arith)

  among_has : (n year : ℕ) → year < n → in_summer rule year instant ≡ true → summer_among n rule instant ≡ true
  unfolding summer_among
  among_has zero year h s = absurd (omega arith)
  among_has (suc n) year h s = has_if n year (in_summer rule n instant) refl h s (λ k. among_has n year k s)

  -- no year that has begun has a number above the instant
  module _ (good : IsRule rule) where
    pub summer_some : (is_summer rule instant ≡ true → IsSummer rule instant) × (IsSummer rule instant → is_summer rule instant ≡ true)
    unfolding is_summer
    summer_some = (among_some (suc instant), λ s. among_has (suc instant) s.year (omega (arith, start_low rule good s.year, s.inside.from)) (true_in s.year s.inside))

    says_if : (test : Bool) → is_summer rule instant ≡ test → (IsSummer rule instant → ⊥) → false ≡ test
    says_if true e n = absurd (n (summer_some.0 e))
    says_if false e n = refl

    -- an answer to the one is an answer to the other
    pub says_is : (answer : Bool) → Says (IsSummer rule instant) answer → answer ≡ is_summer rule instant
    unfolding Says
    says_is true s = sym (summer_some.1 s)
    says_is false n = says_if (is_summer rule instant) refl n
