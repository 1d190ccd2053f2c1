-- Merging, as document 01 has it: hits are grouped by metadata id in first-hit order, with the first hit's polygon id and place.
use Rattle.std.specs.Prelude.{if◌then◌else◌, ◌+ℤ◌, ◌-ℤ◌, ◌∷◌, ◌++◌}
use Rattle.numbers.specs.Prelude.{ℕ, zero, suc, eqb, ℤ, pos, negsuc, Bool, true, false, List, [], map}
use Rattle.table.specs.{Hits.{hit_of, no_hit}, declared.{hits.Hit.{Hit}, merge.Tally.{Tally}}}

-- what a group comes to: its inside count less its excluded count, and its last border verdict, 0 if there is none
pub record Summary : Type 0 where
  pub balance : ℤ
  pub border : ℕ

abbrev pub summed : ℤ → ℕ → Summary
summed balance border = record { balance = balance; border = border }

-- the later of two border verdicts, if there is one
abbrev pub later : ℕ → ℕ → ℕ
later first second = if eqb second 0 then first else second

-- one after the other: the balances add up, and the last border verdict is the later one's if it has one
abbrev pub ◌⊕◌ : Summary → Summary → Summary
s ⊕ t = summed (s.balance +ℤ t.balance) (later s.border t.border)

infixl 20 ◌⊕◌
-- of no hit
abbrev pub empty : Summary
empty = summed (pos 0) 0

-- of one hit, by its kind: 1 is inside, 2 excluded, 3 and 4 on the border
abbrev pub single : ℕ → Summary
single kind = if eqb kind 1 then summed (pos 1) 0 else (if eqb kind 2 then summed (negsuc 0) 0 else summed (pos 0) kind)

-- of the hits with a metadata id
unfoldable pub summary : ℕ → List Hit → Summary
summary id [] = empty
summary id (hit ∷ hits) = if eqb hit.metadata id then single hit.kind ⊕ summary id hits else summary id hits

abbrev pub differs : ℤ → Bool
differs (pos zero) = false
differs (pos (suc n)) = true
differs (negsuc n) = true

-- a group's kind is its last border verdict; with none, InZone if the counts differ; else it is dropped, as kind 0
abbrev pub group_kind : Summary → ℕ
group_kind s = if eqb s.border 0 then (if differs s.balance then 1 else 0) else s.border

-- some hit has the metadata id
unfoldable pub seen : ℕ → List Hit → Bool
seen id [] = false
seen id (hit ∷ hits) = if eqb hit.metadata id then true else seen id hits

-- the match of a group, by its first hit and its kind
abbrev pub match_of : Hit → ℕ → List Hit
match_of first kind = if eqb kind 0 then [] else (hit_of first.polygon first.metadata kind first.place ∷ [])

-- a hit begins a group if no hit before it has its metadata id
unfoldable pub merged_after : List Hit → List Hit → List Hit
merged_after before [] = []
merged_after before (hit ∷ hits) =
    (if seen hit.metadata before then [] else match_of hit (group_kind (summary hit.metadata (hit ∷ hits)))) ++ merged_after (before ++ hit ∷ []) hits

unfoldable pub merged : List Hit → List Hit
merged hits = merged_after [] hits

-- ---- in the code's words
-- the summary that a tally stands for
abbrev pub tallied : Tally → Summary
tallied t = summed (pos t.inside -ℤ pos t.excluded) t.border

-- a metadata id's hits taken out of their slots
abbrev pub clear : ℕ → Hit → Hit
clear id hit = if eqb hit.metadata id then no_hit else hit

abbrev pub cleared : ℕ → List Hit → List Hit
cleared id = map (clear id)
