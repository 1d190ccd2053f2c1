-- A header that was read once serves every lookup in its file: the forms that take it answer as those that open the file. Assumes nothing.
use Rattle.numbers.{proofs.{Prelude.{ℕ, Bool, false, List, ◌≡◌, ap, ◌∙◌}, Replies.{carried, onward}}, specs.{Lists.{zeros}, Reply.{Reply, given, refused}, declared.refusal.Refusal.{Refusal}}}
use Rattle.header.specs.{Header.{head_by, head_of}, declared.header.Head.{Head}}
use Rattle.zones.specs.{Lent.{Outcome, replied, replied_of}, Lookup.{zones_with, zones_in, looked_with, looked_by, looked_up}, Simple.{described_with, described_in, simply_looked_with, simply_looked}}
use Rattle.table.specs.declared.location.Location.{Location}

pub refused_zero : {A : Type 0} (n room : ℕ) {whole : Reply (Outcome A)} {why : Refusal} {hs ts : List ℕ} → refused why ≡ whole → hs ≡ zeros n → ts ≡ zeros room
    → replied {A = A} (refused why) hs ts ≡ replied_of n room whole
unfolding replied_of
refused_zero n room {why = why} e h t = (λ i. replied (refused why) (h i) (t i)) ∙ ap (replied_of n room) e

module _ (file : List ℕ) (location : Location) (n room : ℕ) where
  -- in a file that is opened plainly or strictly: with its own header, and where it is refused
  module _ (strict asked : Bool) where
    pub looked_by_given : {head : Head} → given head ≡ head_by strict file → looked_with file head location asked n room ≡ looked_by strict file location asked n room
    unfolding looked_with
    looked_by_given e = ap (replied_of n room) (onward e (λ h. zones_with file h location asked n room))

    pub not_looked_by : {why : Refusal} {hs ts : List ℕ} → refused why ≡ head_by strict file → hs ≡ zeros n → ts ≡ zeros room → replied (refused why) hs ts ≡ looked_by strict file location asked n room
    not_looked_by e h t = refused_zero n room (carried e (λ h. zones_with file h location asked n room)) h t

  module _ {head : Head} (e : given head ≡ head_of file) where
    -- a lookup with the file's own header is the lookup
    pub looked_with_given : (asked : Bool) → looked_with file head location asked n room ≡ looked_up file location asked n room
    unfolding looked_up zones_in
    looked_with_given asked = looked_by_given false asked e

    -- and so is a simple lookup
    pub simply_looked_given : simply_looked_with file head location n room ≡ simply_looked file location n room
    unfolding simply_looked_with simply_looked described_in
    simply_looked_given = ap (replied_of n room) (onward e (λ h. described_with file h location n room))

  -- where the file is refused, so is each lookup, and all lent output is zero
  module _ {why : Refusal} {hs ts : List ℕ} (e : refused why ≡ head_of file) (h : hs ≡ zeros n) (t : ts ≡ zeros room) where
    pub not_looked : (asked : Bool) → replied (refused why) hs ts ≡ looked_up file location asked n room
    unfolding looked_up zones_in
    not_looked asked = not_looked_by false asked e h t

    pub not_simply_looked : replied (refused why) hs ts ≡ simply_looked file location n room
    unfolding simply_looked described_in
    not_simply_looked = refused_zero n room (carried e (λ h. described_with file h location n room)) h t
