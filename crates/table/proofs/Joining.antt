-- Joining what two boards found, each in its half of a table (request Q-12). Assumes nothing.
use Rattle.numbers.{proofs.Prelude.{ℕ, eqb-true, eqb, Bool, true, false, List, [], ◌∷◌, ◌++◌, map, append_assoc, append-nil, ◌≡◌, refl, sym, ap, ◌∙◌}, specs.Answer.{if◌then◌else◌}}
use lib.IntN.{+ℤ_comm}
use Rattle.table.proofs.merge.Summaries.{join_associative, join_empty_left, seen_joined}
use Rattle.table.specs.{Hits.{hit_of}, Joining.{Group, group_of, groups_after, groups_of, group_for, among, sum_for, takes_in, only_right, ◌⋈◌, matches_of}}
use Rattle.table.specs.{Merge.{Summary, empty, ◌⊕◌, single, summary, group_kind, seen, match_of, merged_after, merged}, declared.hits.Hit.{Hit}}

-- ---- summaries
-- the summary of two hit lists, one behind the other, is the join of their summaries
pub summary_joined : (id : ℕ) (xs ys : List Hit) → summary id (xs ++ ys) ≡ summary id xs ⊕ summary id ys
unfolding summary
summary_joined id [] ys = sym (join_empty_left (summary id ys))
summary_joined id (x ∷ xs) ys = go (eqb x.metadata id) (summary_joined id xs ys) where
  go : (b : Bool) → summary id (xs ++ ys) ≡ summary id xs ⊕ summary id ys
      → (if b then single x.kind ⊕ summary id (xs ++ ys) else summary id (xs ++ ys)) ≡ (if b then single x.kind ⊕ summary id xs else summary id xs) ⊕ summary id ys
  go true e = ap (λ (s : Summary). single x.kind ⊕ s) e ∙ sym (join_associative (single x.kind) (summary id xs) (summary id ys))
  go false e = e

-- the sum part does not depend on which half comes first
pub balance_commutes : (s t : Summary) → (s ⊕ t).balance ≡ (t ⊕ s).balance
balance_commutes s t = +ℤ_comm s.balance t.balance

-- the border part does: vertex then segment is a segment, segment then vertex a vertex
pub border_does_not : ((single 3 ⊕ single 4).border ≡ 4) × ((single 4 ⊕ single 3).border ≡ 3)
border_does_not = (refl, refl)

-- ---- which ids have a group
-- a hit of another id makes no difference to an id
other_hit : {A : Type 0} (id : ℕ) (before : List Hit) (x : Hit) → eqb x.metadata id ≡ false → (f : Bool → A) → f (seen id (before ++ x ∷ [])) ≡ f (seen id before)
unfolding seen
other_hit id before x n f = ap f (seen_joined id before (x ∷ []) ∙ rw n (kept (seen id before))) where
  kept : (b : Bool) → (if b then true else false) ≡ b
  kept true = refl
  kept false = refl

-- the group that a hit begins
abbrev begun : Hit → List Hit → Group
begun x xs = group_of x (summary x.metadata (x ∷ xs))

-- what a board's group of an id says is what the id's hits say, if their first one says it as the group that it begins
module _ {A : Type 0} (none : A) (say : Group → A) (id : ℕ) (said : List Hit → A) (nothing : said [] ≡ none) (here : (x : Hit) (xs : List Hit)
    → eqb x.metadata id ≡ true → said (x ∷ xs) ≡ say (begun x xs)) (past : (x : Hit) (xs : List Hit) → eqb x.metadata id ≡ false → said (x ∷ xs) ≡ said xs) where
  group_says : (before hits : List Hit) → group_for none say id (groups_after before hits) ≡ (if seen id before then none else said hits)
  unfolding groups_after group_for seen
  group_says before [] = rw nothing (same (seen id before)) where
    same : (b : Bool) → none ≡ (if b then none else none)
    same true = refl
    same false = refl
  group_says before (x ∷ xs) = go (seen x.metadata before) refl (eqb x.metadata id) refl (group_says (before ++ x ∷ []) xs) where
    go : (s : Bool) → seen x.metadata before ≡ s → (b : Bool) → eqb x.metadata id ≡ b → group_for none say id (groups_after (before ++ x ∷ []) xs) ≡
        (if seen id (before ++ x ∷ []) then none else said xs) → group_for none say id (groups_after before (x ∷ xs)) ≡ (if seen id before then none else said (x ∷ xs))
    go true e true f rest = let known : seen id before ≡ true = ap (λ (n : ℕ). seen n before) (sym (eqb-true _ _ f)) ∙ e in
        rw (e, known) (rest ∙ (rw (seen_joined id before (x ∷ []), known) refl))
    go true e false f rest = rw (e, past x xs f) (rest ∙ other_hit id before x f (λ (t : Bool). if t then none else said xs))
    go false e true f rest = let new : seen id before ≡ false = ap (λ (n : ℕ). seen n before) (sym (eqb-true _ _ f)) ∙ e in rw (e, new, f) (sym (here x xs f))
    go false e false f rest = rw (e, f, past x xs f) (rest ∙ other_hit id before x f (λ (t : Bool). if t then none else said xs))

-- a board's group of an id has the summary of the id's hits
sum_of_group : (id : ℕ) (hits : List Hit) → sum_for id (groups_of hits) ≡ summary id hits
unfolding summary seen
sum_of_group id =
    group_says empty (λ group. group.sum) id (summary id) refl (λ x xs e. ap (λ (n : ℕ). summary n (x ∷ xs)) (sym (eqb-true _ _ e))) (λ x xs e. rw e refl) []

-- a board has a group of an id exactly where it has a hit of it
group_of_hit : (id : ℕ) (hits : List Hit) → among id (groups_of hits) ≡ seen id hits
unfolding seen
group_of_hit id = group_says false (λ group. true) id (seen id) refl (λ x xs e. rw e refl) (λ x xs e. rw e refl) []

-- ---- two boards
-- a group of the left board takes in the right board's hits of its id
abbrev joined : List Hit → Group → Group
joined ys group = group_of group.first (group.sum ⊕ summary group.first.metadata ys)

-- the left board's groups take in the right board's hits; then come the groups that begin on the right
groups_apart : (before xs ys : List Hit) → groups_after before (xs ++ ys) ≡ map (joined ys) (groups_after before xs) ++ groups_after (before ++ xs) ys
unfolding groups_after
groups_apart before [] ys = ap (λ (l : List Hit). groups_after l ys) (sym (append-nil before))
groups_apart before (x ∷ xs) ys = go (seen x.metadata before) (groups_apart (before ++ x ∷ []) xs ys) where
  go : (s : Bool) → groups_after (before ++ x ∷ []) (xs ++ ys) ≡ map (joined ys) (groups_after (before ++ x ∷ []) xs) ++ groups_after ((before ++ x ∷ []) ++ xs) ys
      → (if s then [] else begun x (xs ++ ys) ∷ []) ++ groups_after (before ++ x ∷ []) (xs ++ ys)
      ≡ map (joined ys) ((if s then [] else begun x xs ∷ []) ++ groups_after (before ++ x ∷ []) xs) ++ groups_after (before ++ x ∷ xs) ys
  go true rest = rest ∙ ap (λ (l : List Hit). map (joined ys) (groups_after (before ++ x ∷ []) xs) ++ groups_after l ys) (append_assoc before (x ∷ []) xs)
  go false rest =
      (λ i. group_of x (summary_joined x.metadata (x ∷ xs) ys i) ∷ rest i)
      ∙ ap (λ (l : List Hit). joined ys (begun x xs) ∷ (map (joined ys) (groups_after (before ++ x ∷ []) xs) ++ groups_after l ys)) (append_assoc before (x ∷ []) xs)

-- the groups that begin on the right are those that the left board has not
begun_right : (xs before ys : List Hit) → groups_after (xs ++ before) ys ≡ only_right (groups_of xs) (groups_after before ys)
unfolding groups_after only_right seen
begun_right xs before [] = refl
begun_right xs before (y ∷ ys) =
    rw (append_assoc xs before (y ∷ []), seen_joined y.metadata xs before) (go (seen y.metadata before) (begun_right xs (before ++ y ∷ []) ys)) where
      go : (s : Bool) → groups_after (xs ++ (before ++ y ∷ [])) ys ≡ only_right (groups_of xs) (groups_after (before ++ y ∷ []) ys)
          → (if (if seen y.metadata xs then true else s) then [] else begun y ys ∷ []) ++ groups_after (xs ++ (before ++ y ∷ [])) ys
          ≡ only_right (groups_of xs) ((if s then [] else begun y ys ∷ []) ++ groups_after (before ++ y ∷ []) ys)
      go true rest = passed (seen y.metadata xs) where
        passed : (t : Bool) → (if (if t then true else true) then [] else begun y ys ∷ []) ++ groups_after (xs ++ (before ++ y ∷ [])) ys ≡ only_right (groups_of xs) (groups_after (before ++ y ∷ []) ys)
        passed true = rest
        passed false = rest
      go false rest = rw (group_of_hit y.metadata xs) (taken (seen y.metadata xs)) where
        taken : (t : Bool) → (if (if t then true else false) then [] else begun y ys ∷ []) ++ groups_after (xs ++ (before ++ y ∷ [])) ys ≡ (if t then [] else
            begun y ys ∷ []) ++ only_right (groups_of xs) (groups_after (before ++ y ∷ []) ys)
        taken true = rest
        taken false = ap (λ (l : List Group). begun y ys ∷ l) rest

-- the groups of two hit lists, one behind the other, are theirs joined
pub groups_joined : (xs ys : List Hit) → groups_of (xs ++ ys) ≡ groups_of xs ⋈ groups_of ys
unfolding groups_after seen
groups_joined xs ys =
    groups_apart [] xs ys ∙ (λ i. map_same (groups_of xs) i ++ (ap (λ (l : List Hit). groups_after l ys) (sym (append-nil xs)) ∙ begun_right xs [] ys) i) where
      map_same : (groups : List Group) → map (joined ys) groups ≡ map (takes_in (groups_of ys)) groups
      map_same [] = refl
      map_same (g ∷ gs) = λ i. group_of g.first (g.sum ⊕ sym (sum_of_group g.first.metadata ys) i) ∷ map_same gs i

-- merging gives the matches of the groups
pub merged_groups : (before hits : List Hit) → merged_after before hits ≡ matches_of (groups_after before hits)
unfolding merged_after groups_after matches_of
merged_groups before [] = refl
merged_groups before (x ∷ xs) = go (seen x.metadata before) (merged_groups (before ++ x ∷ []) xs) where
  go : (s : Bool) → merged_after (before ++ x ∷ []) xs ≡ matches_of (groups_after (before ++ x ∷ []) xs)
      → (if s then [] else match_of x (group_kind (summary x.metadata (x ∷ xs)))) ++ merged_after (before ++ x ∷ []) xs
      ≡ matches_of ((if s then [] else begun x xs ∷ []) ++ groups_after (before ++ x ∷ []) xs)
  go true rest = rest
  go false rest = ap (λ (l : List Hit). match_of x (group_kind (summary x.metadata (x ∷ xs))) ++ l) rest

-- the matches of two hit lists, one behind the other, are those of their groups joined: groups, order, polygon ids and kinds (of searches: Halves.antt)
pub halves_joined : (xs ys : List Hit) → merged (xs ++ ys) ≡ matches_of (groups_of xs ⋈ groups_of ys)
unfolding merged
halves_joined xs ys = merged_groups [] (xs ++ ys) ∙ ap matches_of (groups_joined xs ys)

-- three boards: it does not matter which two are joined first
pub boards_associative : (xs ys zs : List Hit) → (groups_of xs ⋈ groups_of ys) ⋈ groups_of zs ≡ groups_of xs ⋈ (groups_of ys ⋈ groups_of zs)
boards_associative xs ys zs =
    ap (λ (g : List Group). g ⋈ groups_of zs) (sym (groups_joined xs ys)) ∙ sym (groups_joined (xs ++ ys) zs) ∙ ap groups_of (append_assoc xs ys zs)
    ∙ groups_joined xs (ys ++ zs) ∙ ap (λ (g : List Group). groups_of xs ⋈ g) (groups_joined ys zs)

-- a group that cancels on the left board looks empty, and is still a group: its first hit is the left board's
pub cancelled_is_a_group : (sum_for 7 (groups_of (hit_of 0 7 1 16 ∷ hit_of 1 7 2 22 ∷ [])) ≡ sum_for 7 (groups_of [])) × (matches_of (groups_of (hit_of 0 7 1 16 ∷ hit_of
    1 7 2 22 ∷ []) ⋈ groups_of (hit_of 2 7 1 28 ∷ [])) ≡ hit_of 0 7 1 16 ∷ []) × (matches_of (groups_of [] ⋈ groups_of (hit_of 2 7 1 28 ∷ [])) ≡ hit_of 2 7 1 28 ∷ [])
unfolding groups_after group_for summary seen only_right matches_of
cancelled_is_a_group = (refl, refl, refl)
