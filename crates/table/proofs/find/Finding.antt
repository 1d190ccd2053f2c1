-- From the header to the merged matches, by how far the code came. Assumes nothing.
use Rattle.numbers.proofs.Prelude.{ℕ, ◌/◌, ◌≤◌, length, take, Bool, true, false, List, ◌≡◌, refl, sym, ap, subst, ◌∙◌}
use Rattle.numbers.{proofs.{Replies.{carried, onward, met, unmet}, Tests.{differ}}, specs.{Lists.{zeros, padded}, Reply.{Reply, given, refused, plain}, declared.refusal.Refusal.{Refusal}}}
use Rattle.table.specs.{Find.{fix_of, is_precision, Matched, matched_with, finding, finding_of, Matching}, Hits.{width, words, slots, Real}, Merge.{merged}, Search.{Found, searched, Sought}}
use Rattle.table.specs.{declared.{find.Matches.{Matches}, hits.Hit.{Hit}, location.Location.{Location}, search.Ended.{Ended}}, inner.Agreeing.{Agrees}}
use Rattle.header.specs.declared.header.Head.{Head}
use Rattle.border.specs.declared.place.Point.{Point}
use Rattle.std.specs.Prelude.{is_err}
use Rattle.table.proofs.{Agreeing.{gave, refused_so}, Words.{padded_slots, padded_room}}

module _ (file : List ℕ) (head : Head) (location : Location) (asked : Bool) (room : ℕ) where
  pub no_precision : is_precision head.preamble.precision ≡ false → refused (plain 16) ≡ matched_with file head location asked room
  unfolding matched_with
  no_precision p = unmet p _ _

  module _ (p : is_precision head.preamble.precision ≡ true) {fix : Point} (f : fix ≡ fix_of location head.preamble.precision) where
    at_fix : searched file head fix asked room ≡ searched file head (fix_of location head.preamble.precision) asked room
    at_fix = ap (λ (x : Point). searched file head x asked room) f

    pub no_search : {why : Refusal} → refused why ≡ searched file head fix asked room → refused why ≡ matched_with file head location asked room
    unfolding matched_with
    no_search s = carried (s ∙ at_fix) _ ∙ met p _ _

    pub searched_so : {found : Found} → given found ≡ searched file head fix asked room
        → given (record { matches = merged found.hits; mark = found.mark; least = found.least }) ≡ matched_with file head location asked room
    unfolding matched_with
    searched_so s = onward (s ∙ at_fix) _ ∙ met p _ _

-- ---- merging, after a search that ended
module _ {n : ℕ} {ws : List ℕ} {found : Found} {ended : Ended} (s : Sought n ws found ended) where
  counted : ended.count ≡ length found.hits
  counted = ap (λ (e : Ended). e.count) s.said

  abbrev pub front : List Hit
  front = take ended.count (slots ws)

  front_is : front ≡ found.hits
  front_is = ap (λ (k : ℕ). take k (slots ws)) counted ∙ padded_slots n found.hits s.kept

  -- what merging asks
  pub asks : length ws ≡ n → (ended.count ≤ length ws / width) × (ws ≡ padded (length ws) (words front)) × Real front
  asks same = (rw counted (padded_room n found.hits s.kept same), s.kept ∙ sym (λ i. padded (same i) (words (front_is i))), rw front_is s.real)

  -- and what it then leaves
  pub leaves : {r : ℕ} {last : List ℕ} → length ws ≡ n → (r ≡ length (merged front)) × (last ≡ padded (length ws) (words (merged front)))
      → Matching n last (record { matches = merged found.hits; mark = found.mark; least = found.least }) (record { count = r; mark = ended.mark; least = ended.least })
  leaves {r} same m = let count : r ≡ length (merged found.hits) = m.0 ∙ ap (λ (l : List Hit). length (merged l)) front_is in
      let mark = ap (λ (e : Ended). e.mark) s.said in let least = ap (λ (e : Ended). e.least) s.said in
      record { said = λ i. record { count = count i; mark = mark i; least = least i }; kept = m.1 ∙ (λ i. padded (same i) (words (merged (front_is i)))) }

-- ---- the reply with the lent words, in the length that was lent
module _ (whole : ℕ → Reply Matched) {n n' : ℕ} (same : n' ≡ n) (ws : List ℕ) (reply : Reply Matches) (agrees : Agrees (Matching n' ws) (whole n') reply) where
  settled : Agrees (Matching n ws) (whole n) reply
  settled = subst (λ (k : ℕ). Agrees (Matching k ws) (whole k) reply) same agrees

  -- as it is, and with zeros where it refused
  pub finds : is_err reply ≡ false → finding reply ws ≡ finding_of n (whole n)
  unfolding finding_of
  finds = go reply settled where
    go : (r : Reply Matches) → Agrees (Matching n ws) (whole n) r → is_err r ≡ false → finding r ws ≡ finding_of n (whole n)
    go (given matches) a e = let g = gave (Matching n ws) (whole n) a refl in (λ i. finding (given (g.fits.said i)) (g.fits.kept i)) ∙ ap (finding_of n) g.is
    go (refused why) a e = differ (sym e)

  pub refuses : {ws' : List ℕ} → ws' ≡ zeros n → is_err reply ≡ true → finding reply ws' ≡ finding_of n (whole n)
  unfolding finding_of
  refuses {ws'} z = go reply settled where
    go : (r : Reply Matches) → Agrees (Matching n ws) (whole n) r → is_err r ≡ true → finding r ws' ≡ finding_of n (whole n)
    go (given matches) a e = differ e
    go (refused why) a e = ap (finding (refused why)) z ∙ ap (finding_of n) (refused_so (Matching n ws) (whole n) a refl)
