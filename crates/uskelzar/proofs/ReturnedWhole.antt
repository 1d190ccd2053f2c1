-- What a returned 0 and a 1 in the reply's second word mean together: nothing was missed. Neither says it alone, since a refusal can leave a 1 there too. Assumes nothing.
use Rattle.numbers.{proofs.Prelude.{ℕ, get_or, Bool, false, List, [], ◌∷◌, ◌≡◌, refl, sym, ap, ◌∙◌}, specs.{Reply.{Reply, given, refused, refusal}, Spoken.{said_of, Spoken, spoken}}}
use Rattle.table.specs.declared.location.Location.{Location}
use Rattle.zones.{proofs.{WholeMeansWhole.{whole_means_whole, simple_whole_means_whole}, WorkedEnding.{printed, in_the_zone, answered}}, specs.{Lent.{Replied}, Lookup.{looked_up}}}
use Rattle.zones.specs.{Simple.{simply_looked}, Unstopped.{looked_through_all, simply_looked_through_all}, declared.{lookup.Zones.{Zones}, simple.Described.{Described}}}
use Rattle.uskelzar.proofs.Numbered.{lookup_zero, simple_lookup_zero}
use Rattle.uskelzar.specs.Spoken.{zones_values, described_values, found_spoken}

-- the second word of an answer's reply is its mark
lookup_mark : (reply : Reply Zones) (zones : Zones) → reply ≡ given zones → get_or (said_of zones_values reply).words 1 0 ≡ zones.mark
unfolding said_of
lookup_mark reply zones e = ap (λ (x : Reply Zones). get_or (said_of zones_values x).words 1 0) e

simple_mark : (reply : Reply Described) (described : Described) → reply ≡ given described → get_or (said_of described_values reply).words 1 0 ≡ described.mark
unfolding said_of
simple_mark reply described e = ap (λ (x : Reply Described). get_or (said_of described_values x).words 1 0) e

-- Where `uskelzar_lookup` returned 0 and left 1 in the reply's second word, all that it returned and wrote is what a lookup leaves whose search never stops early,
pub returned_whole : (file : List ℕ) (location : Location) (asked : Bool) (n room : ℕ) {number : ℕ} {reply hits text : List ℕ}
    → spoken number reply (hits ∷ text ∷ []) ≡ found_spoken zones_values (looked_up file location asked n room) → number ≡ 0 → get_or reply 1 0 ≡ 1
    → spoken number reply (hits ∷ text ∷ []) ≡ found_spoken zones_values (looked_through_all file location asked n room)
returned_whole file location asked n room promised zero one =
    let answer = (lookup_zero file location asked n room).0 (sym (ap (λ (s : Spoken). s.said.number) promised) ∙ zero) in
    let mark = sym (lookup_mark _ answer.0 answer.1) ∙ sym (ap (λ (s : Spoken). get_or s.said.words 1 0) promised) ∙ one in
    promised ∙ ap (λ (r : Replied Zones). found_spoken zones_values r) (whole_means_whole file location asked n room answer.0 answer.1 mark)

-- and `uskelzar_simple_lookup` alike.
pub simple_returned_whole : (file : List ℕ) (location : Location) (n room : ℕ) {number : ℕ} {reply hits text : List ℕ}
    → spoken number reply (hits ∷ text ∷ []) ≡ found_spoken described_values (simply_looked file location n room) → number ≡ 0 → get_or reply 1 0 ≡ 1
    → spoken number reply (hits ∷ text ∷ []) ≡ found_spoken described_values (simply_looked_through_all file location n room)
simple_returned_whole file location n room promised zero one =
    let answer = (simple_lookup_zero file location n room).0 (sym (ap (λ (s : Spoken). s.said.number) promised) ∙ zero) in
    let mark = sym (simple_mark _ answer.0 answer.1) ∙ sym (ap (λ (s : Spoken). get_or s.said.words 1 0) promised) ∙ one in
    promised ∙ ap (λ (r : Replied Described). found_spoken described_values r) (simple_whole_means_whole file location n room answer.0 answer.1 mark)

-- A refusal 6 of the second string has a 1 there too, under a returned 6.
pub one_alone : ((said_of zones_values (refused (refusal 6 1 1))).number ≡ 6) × (get_or (said_of zones_values (refused (refusal 6 1 1))).words 1 0 ≡ 1)
unfolding said_of
one_alone = (refl, refl)

-- Document 01's printed file, asked at (5, 5) on its grid: one match under mark 1, returned with a 0, so nothing was missed.
pub one_returned : spoken 0 (1 ∷ 1 ∷ 0 ∷ 4 ∷ 0 ∷ []) ((0 ∷ 0 ∷ 1 ∷ 16 ∷ []) ∷ (0 ∷ 0 ∷ 1 ∷ 0x41 ∷ []) ∷ []) ≡ found_spoken zones_values (looked_through_all printed in_the_zone false 4 4)
unfolding said_of
one_returned = returned_whole printed in_the_zone false 4 4 (sym (ap (λ (r : Replied Zones). found_spoken zones_values r) answered)) refl refl
