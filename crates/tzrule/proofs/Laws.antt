-- What callers of this crate go by. Assumes nothing.
use Rattle.numbers.{proofs.Prelude.{ℕ, Bool, true, false, List, ◌≡◌, sym, ◌∙◌, arith}, specs.Answer.{if◌then◌else◌}}
use Rattle.tzrule.specs.{Ask.{Ruled, in_years, since, clock_at, ask}, String.{string_of}, Summer.{is_summer}}
use Rattle.std.specs.Prelude.{Some, None, Result, Ok, Err}
use Rattle.tzrule.specs.declared.{ask.Time.{Time}, fault.Fault.{Fault}, rule.Tz.{Tz, TheVariants.{Fixed, Changing}}, string.StringAt.{StringAt}}
use Rattle.tzrule.specs.inner.String.{told_string, IsClock, IsTz}

-- what was read can be asked
pub tz_is_ruled : (end : ℕ) (tz : Tz) → IsTz end tz → Ruled tz
unfolding IsTz Ruled
tz_is_ruled end (Fixed clock) g = tt
tz_is_ruled end (Changing rule) g = g.good

-- the clock that holds is one of the string's
clock_held : (end : ℕ) (tz : Tz) (u : ℕ) → IsTz end tz → IsClock end (clock_at tz u).clock
unfolding IsTz clock_at
clock_held end (Fixed clock) u g = g
clock_held end (Changing rule) u g = go (is_summer rule (since u)) where
  go : (t : Bool) → IsClock end (if◌then◌else◌ {A = Time} t (record { clock = rule.daylight; daylight = 1 }) (record { clock = rule.standard; daylight = 0 })).clock
  go true = g.daylight
  go false = g.standard

pub asked_clock : (end : ℕ) (tz : Tz) (u : ℕ) {time : Time} → IsTz end tz → ask tz u ≡ Some time → IsClock end time.clock
unfolding ask
asked_clock end tz u {time} g = go (in_years u) where
  go : (t : Bool) → (if t then Some (clock_at tz u) else None) ≡ Some time → IsClock end time.clock
  go true e = let same : clock_at tz u ≡ time = cc in rw (← same) (clock_held end tz u g)
  go false e = let z : ◌≡◌ {A = ℕ} 0 1 = cc in absurd (omega arith)

-- two answers that the promise of `string_at` permits are equal
pub same_string : (wide : Bool) (text : List ℕ) (at : ℕ) (r q : Result StringAt Fault) → told_string r ≡ string_of wide text at → told_string q ≡ string_of wide text at → r ≡ q
unfolding told_string
same_string wide text at r q e f = go r q (e ∙ sym f) where
  go : (r q : Result StringAt Fault) → told_string r ≡ told_string q → r ≡ q
  go (Ok a) (Ok b) h = let tz : a.tz ≡ b.tz = cc in let next : a.next ≡ b.next = cc in λ i. Ok (record { tz = tz i; next = next i })
  go (Ok a) (Err b) h = let z : ◌≡◌ {A = ℕ} 0 1 = cc in absurd (omega arith)
  go (Err a) (Ok b) h = let z : ◌≡◌ {A = ℕ} 0 1 = cc in absurd (omega arith)
  go (Err a) (Err b) h = let place : a.place ≡ b.place = cc in λ i. Err (record { place = place i })
