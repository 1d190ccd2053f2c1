-- What a search left in the lent words, in the words of its definition. Assumes nothing.
use Rattle.numbers.{proofs.Prelude.{ℕ, ◌/◌, ◌≤◌, length, take, List, ◌≡◌, sym, ap, subst, ◌∙◌}, specs.{Lists.{padded}, Reply.{Reply, given, refused}}}
use Rattle.table.{proofs.{Agreeing.{Gave}, Matches.{matches_room, matches_are}, Words.{count_slots}}, specs.{Find.{Matched, Matching}, Hits.{width, words, slots}}}
use Rattle.table.specs.{declared.{find.Matches.{Matches}}, inner.Agreeing.{Agrees}}
use Rattle.zones.specs.Lookup.{matched_in, Kept}

-- the matches that are kept, as a search gives them
pub kept_gave : (found : Reply Matches) (ws : List ℕ) {m : Matches} → found ≡ given m → Kept found ws → Gave (Matching (length ws) ws) (matched_in found ws) m
kept_gave found ws {m} is kept = go (subst (λ (f : Reply Matches). Kept f ws) is kept) (ap (λ (f : Reply Matches). matched_in f ws) (sym is)) where
  go : Kept (given m) ws → matched_in (given m) ws ≡ matched_in found ws → Gave (Matching (length ws) ws) (matched_in found ws) m
  go h e = record {
    it = record { matches = take m.count (slots ws); mark = m.mark; least = m.least };
    is = e;
    fits = record { said = λ i. record { count = sym (count_slots ws m.count h.0) i; mark = m.mark; least = m.least }; kept = h.1 };
  }

pub kept_room : (found : Reply Matches) (ws : List ℕ) {m : Matches} → found ≡ given m → Kept found ws → m.count ≤ length ws / width
kept_room found ws is kept = (subst (λ (f : Reply Matches). Kept f ws) is kept).0

-- a search that agrees with its definition keeps what that gives
module _ {n : ℕ} (ws : List ℕ) (same : length ws ≡ n) where
  pub kept_in : (matched : Reply Matched) (found : Reply Matches) → Agrees (Matching n ws) matched found → Kept found ws
  unfolding Agrees
  kept_in (given matched) (given m) a = (matches_room a same, a.kept ∙ sym (λ i. padded (same i) (words (matches_are a i))))
  kept_in (given matched) (refused why) a = tt
  kept_in (refused why) (given m) a = absurd a
  kept_in (refused why) (refused why') a = tt

  pub matched_is : (matched : Reply Matched) (found : Reply Matches) → Agrees (Matching n ws) matched found → matched_in found ws ≡ matched
  unfolding Agrees
  matched_is (given matched) (given m) a = λ i. given (record { matches = matches_are a i; mark = (a.said i).mark; least = (a.said i).least })
  matched_is (given matched) (refused why) a = absurd a
  matched_is (refused why) (given m) a = absurd a
  matched_is (refused why) (refused why') a = ap refused (sym a)
