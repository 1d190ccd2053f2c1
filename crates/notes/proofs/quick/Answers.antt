-- What a step answers. Assumes nothing.
use Rattle.numbers.proofs.Prelude.{ℕ, ◌-◌, ◌^◌, ◌≤◌, ℤ, List, ◌≡◌, subst}
use Rattle.builder.specs.{Borders.{Drawn}, Yards.{Yard}}
use Rattle.notes.specs.{declared.quick.{place.Placing.{Placing}, step.{Numbers.{Numbers}, Stepped.{Stepped}}}, inner.{Noted.OneMore.{OneMore}, Quick.Placed.{AddsAtMost, Beside, Places}}}
use Rattle.notes.specs.inner.Quick.Steps.{Grown, Stepping, Steps}
use Rattle.notes.proofs.quick.Beginning.{beside}
use Rattle.std.specs.Prelude.{Option, Some, None}

pub adds-few : (r : Option Placing) → AddsAtMost (2 ^ 41) r → (p : Placing) → r ≡ Some p → p.by ≤ 2 ^ 41
unfolding AddsAtMost
adds-few r few p is = subst (AddsAtMost (2 ^ 41)) is few

pub steps-unsure : (yards : List Yard) (y : Yard) (drawn' : Drawn) → Steps yards y drawn' None
unfolding Steps
steps-unsure yards y drawn' = tt

-- ---- in lists that lie so
module _ (names count : ℕ) (numbers : Numbers) (boxes : List ℤ) (borders starts texts chains groups begins : List ℕ) where
  pub steps-sure : (r : Option Placing) → ((yards : List Yard) (y : Yard) (lengths : List ℕ) → Beside yards y names count numbers.records
      (numbers.metadata - numbers.records) lengths starts texts chains groups begins → Places yards y r) → (p : Placing) → r ≡ Some p
      → (stepped : Stepped) → ((yards : List Yard) (y : Yard) (drawn drawn' : Drawn) (names : ℕ) (lengths starts texts chains groups : List ℕ)
      → Stepping yards y drawn drawn' names count numbers boxes borders lengths starts texts chains groups begins → OneMore yards y p.by p.begin
      → Grown yards y drawn' stepped) → (yards : List Yard) (y : Yard) (drawn drawn' : Drawn) (lengths : List ℕ) → Stepping yards y drawn drawn' names count
      numbers boxes borders lengths starts texts chains groups begins → Steps yards y drawn' (Some stepped)
  unfolding Places Steps
  steps-sure r places p is stepped grown yards y drawn drawn' lengths s =
      grown yards y drawn drawn' names lengths starts texts chains groups s
      (subst (Places yards y) is (places yards y lengths (beside yards y drawn drawn' names count numbers boxes borders lengths starts texts chains groups begins s)))
