-- The three answers of the program: too long, too short, and the lookup's. Assumes nothing.
use Rattle.numbers.proofs.Prelude.{ℕ, ◌-◌, ◌≤◌, ◌<◌, le-leb, lt-leb, length, take, drop, true, List, ◌≡◌, ap, ◌∙◌}
use Rattle.numbers.{proofs.Replies.{met, unmet}, specs.{Lists.{zeros}, Reply.{Reply, refused, plain}, declared.refusal.Refusal.{Refusal}}}
use Rattle.header.proofs.Buffers.{tail_lent}
use Rattle.zones.specs.{Lent.{replied, replied_of}, Lookup.{zones_in, looked_up}, declared.lookup.Zones.{Zones}}
use Rattle.table.specs.declared.location.Location.{Location}
use Rattle.zone.specs.Answer.{location_of, outcome_of, answer_of}

module _ (input : List ℕ) (n room : ℕ) where
  too_long : 65536 < length input → refused (plain 1) ≡ outcome_of input n room
  unfolding outcome_of
  too_long long = unmet (lt-leb (length input) 65536 long) _ _

  too_short : length input ≤ 65536 → length input < 8 → refused (plain 2) ≡ outcome_of input n room
  unfolding outcome_of
  too_short fits short = unmet (lt-leb 8 (length input) short) _ _ ∙ met (le-leb (length input) 65536 fits) _ _

  -- a refusal of the program's own, with both buffers zero
  zeroed : {why w : Refusal} (hs ts : List ℕ) → why ≡ w → hs ≡ zeros n → ts ≡ zeros room → refused w ≡ outcome_of input n room → replied (refused why) hs ts ≡ answer_of input n room
  unfolding answer_of replied_of
  zeroed hs ts is zh zt e = (λ i. replied (refused (is i)) (zh i) (zt i)) ∙ ap (replied_of n room) e

  pub refused_long : {why : Refusal} (hs ts : List ℕ) → why ≡ plain 1 → hs ≡ zeros n → ts ≡ zeros room → 65536 < length input → replied (refused why) hs ts ≡ answer_of input n room
  refused_long hs ts is zh zt long = zeroed hs ts is zh zt (too_long long)

  pub refused_short : {why : Refusal} (hs ts : List ℕ) → why ≡ plain 2 → hs ≡ zeros n → ts ≡ zeros room → length input ≤ 65536 → length input < 8 → replied (refused why) hs ts ≡ answer_of input n room
  refused_short hs ts is zh zt fits short = zeroed hs ts is zh zt (too_short fits short)

  -- what the lookup in the rest of the input replied
  pub asked : (location : Location) (reply : Reply Zones) (hs ts : List ℕ) → replied reply hs ts ≡ looked_up (take (length input - 8) (drop 8 input)) location true n room
      → location ≡ location_of input → length input ≤ 65536 → 8 ≤ length input → replied reply hs ts ≡ answer_of input n room
  unfolding outcome_of answer_of looked_up
  asked location reply hs ts e is fits whole =
      e ∙ ap (replied_of n room) ((λ i. zones_in (tail_lent 8 input i) (is i) true n room) ∙ met (le-leb 8 (length input) whole) _ _ ∙ met (le-leb (length input) 65536 fits) _ _)
