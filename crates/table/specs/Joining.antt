-- Two boards each search half of a table: what a board has of each metadata id, and how the two are joined (request Q-12).
use Rattle.std.specs.Prelude.{if◌then◌else◌, ◌∷◌, ◌++◌}
use Rattle.numbers.specs.Prelude.{ℕ, eqb, Bool, true, false, List, [], map}
use Rattle.table.specs.{Merge.{Summary, empty, ◌⊕◌, summary, group_kind, seen, match_of}, Rows.{Rows, row, table_end, unreadable, refused}, declared.hits.Hit.{Hit}}

-- the rows of one half, and behind its end those of the other; behind an entry that can't be read there are none
unfoldable pub ◌⧺◌ : Rows → Rows → Rows
row r rows ⧺ second = row r (rows ⧺ second)
table_end ⧺ second = second
unreadable ⧺ second = unreadable
refused n ⧺ second = refused n

infixl 20 ◌⧺◌
-- a group on a board: the first hit that it has there, and its summary
pub record Group : Type 0 where
  pub first : Hit
  pub sum : Summary

abbrev pub group_of : Hit → Summary → Group
group_of first sum = record { first = first; sum = sum }

-- a board's groups, in first-hit order
unfoldable pub groups_after : List Hit → List Hit → List Group
groups_after before [] = []
groups_after before (hit ∷ hits) =
    (if seen hit.metadata before then [] else group_of hit (summary hit.metadata (hit ∷ hits)) ∷ []) ++ groups_after (before ++ hit ∷ []) hits

abbrev pub groups_of : List Hit → List Group
groups_of hits = groups_after [] hits

-- what a board's group of the id says; where it has no such group, `none`
unfoldable pub group_for : {A : Type 0} → A → (Group → A) → ℕ → List Group → A
group_for none say id [] = none
group_for none say id (group ∷ groups) = if eqb group.first.metadata id then say group else group_for none say id groups

-- a board has a group of the id: one whose hits cancel is there too
abbrev pub among : ℕ → List Group → Bool
among = group_for false (λ group. true)

-- what a board has of the id: where it has no such group, the empty summary
abbrev pub sum_for : ℕ → List Group → Summary
sum_for = group_for empty (λ group. group.sum)

-- a group of the left board takes in what the right board has of its id, and keeps its own first hit
abbrev pub takes_in : List Group → Group → Group
takes_in right group = group_of group.first (group.sum ⊕ sum_for group.first.metadata right)

-- the groups of the right board that the left board has not
unfoldable pub only_right : List Group → List Group → List Group
only_right left [] = []
only_right left (group ∷ groups) = (if among group.first.metadata left then [] else group ∷ []) ++ only_right left groups

-- the two boards' groups as one: the left board's first
abbrev pub ◌⋈◌ : List Group → List Group → List Group
left ⋈ right = map (takes_in right) left ++ only_right left right

infixl 20 ◌⋈◌
-- the matches that groups come to; a group whose hits cancel comes to none
unfoldable pub matches_of : List Group → List Hit
matches_of [] = []
matches_of (group ∷ groups) = match_of group.first (group_kind group.sum) ++ matches_of groups
