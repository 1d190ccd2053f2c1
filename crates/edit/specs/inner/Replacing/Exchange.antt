-- One text of many in the place of another.
use Rattle.std.specs.Prelude.{◌+◌, ◌-◌, ◌^◌, ◌≤◌, ◌++◌, ◌≡◌}
use Rattle.numbers.specs.Prelude.{ℕ, length, List}
use Rattle.draft.specs.Held.State.{Front}

-- the old text ends at `from`, all texts at `strings`; what lies between is put aside
pub record Exchanging (place from strings size texts out : ℕ) : Type 0 where
  pub ordered : place ≤ from
  pub inside : from ≤ strings
  pub old_fits : strings ≤ texts
  pub new_fits : place + size + (strings - from) ≤ texts
  pub aside : strings - from ≤ out
  pub few : size ≤ 255
  pub short : strings ≤ 2 ^ 41

-- in texts that are zero behind their front, the new text stands where the old one stood
pub record Exchanged (place from strings : ℕ) (text texts texts' : List ℕ) (end : ℕ) : Type 0 where
  pub end_is : end ≡ place + length text + (strings - from)
  pub stands : (before old behind : List ℕ) → length before ≡ place → place + length old ≡ from → from + length behind ≡ strings
      → Front 0 (before ++ (old ++ behind)) texts → Front 0 (before ++ (text ++ behind)) texts'
