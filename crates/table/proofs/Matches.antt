-- The matches that `find_in` leaves in the lent words. Assumes nothing.
use Rattle.numbers.{proofs.Prelude.{ℕ, ◌/◌, ◌≤◌, length, take, Bool, List, ◌≡◌, ap, ◌∙◌, arith}, specs.Reply.{Reply, given, refused}}
use Rattle.header.specs.declared.header.Head.{Head}
use Rattle.table.proofs.Words.{padded_slots, padded_room}
use Rattle.table.specs.{Find.{Matched, matched_with, Finding, finding, finding_of, found_with, Matching}, GivenRows.{matched_listed, found_listed}, Hits.{width, slots}}
use Rattle.table.specs.{MarkedRows.{matched_marked, found_marked}, declared.{find.Matches.{Matches}, location.Location.{Location}}, inner.Agreeing.{Agrees}}

module _ {n : ℕ} {ws : List ℕ} {found : Matched} {matches : Matches} (m : Matching n ws found matches) where
  pub count_is : matches.count ≡ length found.matches
  count_is = ap (λ (x : Matches). x.count) m.said

  pub matches_room : length ws ≡ n → matches.count ≤ length ws / width
  matches_room same = rw count_is (padded_room n found.matches m.kept same)

  pub matches_are : take matches.count (slots ws) ≡ found.matches
  matches_are = ap (λ (k : ℕ). take k (slots ws)) count_is ∙ padded_slots n found.matches m.kept

-- ---- what the reply with the lent words says of both
finding_agrees : (n : ℕ) (whole : Reply Matched) (reply : Reply Matches) (ws : List ℕ) → finding reply ws ≡ finding_of n whole → Agrees (Matching n ws) whole reply
unfolding Agrees finding_of
finding_agrees n (given found) (given matches) ws e = let said = ap (λ (f : Finding). f.reply) e in record { said = cc; kept = ap (λ (f : Finding). f.hits) e }
finding_agrees n (given found) (refused why) ws e = let said = ap (λ (f : Finding). f.reply) e in let z : ◌≡◌ {A = ℕ} 0 1 = cc in absurd (omega arith)
finding_agrees n (refused why) (given matches) ws e = let said = ap (λ (f : Finding). f.reply) e in let z : ◌≡◌ {A = ℕ} 0 1 = cc in absurd (omega arith)
finding_agrees n (refused why) (refused why') ws e = let said = ap (λ (f : Finding). f.reply) e in cc

pub found_agrees : (file : List ℕ) (head : Head) (location : Location) (asked : Bool) (n : ℕ) (reply : Reply Matches) (ws : List ℕ) → finding reply ws ≡ found_with file head location asked n
    → Agrees (Matching n ws) (matched_with file head location asked (n / width)) reply
unfolding found_with
found_agrees file head location asked n = finding_agrees n (matched_with file head location asked (n / width))

-- and the same of rows that are given
pub listed_agrees : (file : List ℕ) (head : Head) (location : Location) (asked : Bool) (records numbers : List ℕ) (n : ℕ) (reply : Reply Matches) (ws : List ℕ)
    → finding reply ws ≡ found_listed file head location asked records numbers n → Agrees (Matching n ws) (matched_listed file head location asked records numbers (n / width)) reply
unfolding found_listed
listed_agrees file head location asked records numbers n = finding_agrees n (matched_listed file head location asked records numbers (n / width))

-- and of rows that are given with marks
pub marked_agrees : (file : List ℕ) (head : Head) (location : Location) (asked : Bool) (records numbers marks : List ℕ) (n : ℕ) (reply : Reply Matches) (ws : List ℕ)
    → finding reply ws ≡ found_marked file head location asked records numbers marks n → Agrees (Matching n ws) (matched_marked file head location asked records numbers marks (n / width)) reply
unfolding found_marked
marked_agrees file head location asked records numbers marks n = finding_agrees n (matched_marked file head location asked records numbers marks (n / width))
