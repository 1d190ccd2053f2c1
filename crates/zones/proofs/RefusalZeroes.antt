-- A refusal of an entry point leaves every lent word and byte zero. Assumes nothing.
use Rattle.numbers.{proofs.Prelude.{ℕ, Bool, true, false, List, ◌≡◌, refl, arith}, specs.{Lists.{zeros}, Reply.{Reply, given, refused}, declared.refusal.Refusal.{Refusal}}}
use Rattle.header.specs.{Header.{Contents, head_strictly}, Opening.{fitting_of, opened_by, opened_of, opened_strictly}}
use Rattle.zones.specs.{Lent.{Outcome, replied_of}, Lookup.{zones_by, zones_in, looked_up, looked_strictly}, Simple.{described_in, simply_looked}}
use Rattle.table.specs.declared.location.Location.{Location}
use Rattle.header.specs.Opening as O

pub both_zero : {A : Type 0} (n room : ℕ) (reply : Reply (Outcome A)) (why : Refusal) → (replied_of n room reply).reply ≡ refused why
    → ((replied_of n room reply).hits ≡ zeros n) × ((replied_of n room reply).text ≡ zeros room)
unfolding replied_of
both_zero n room (given o) why e = let z : ◌≡◌ {A = ℕ} 0 1 = cc in absurd (omega arith)
both_zero n room (refused why') why e = (refl, refl)

text_zero : (room : ℕ) (reply : Reply Contents) (why : Refusal) → (O.replied_of room reply).reply ≡ refused why → (O.replied_of room reply).text ≡ zeros room
text_zero room (given contents) why e = let z : ◌≡◌ {A = ℕ} 0 1 = cc in absurd (omega arith)
text_zero room (refused why') why e = refl

-- A refused opening leaves the whole text zero.
pub open_refusal_zeroes : (file : List ℕ) (room : ℕ) (why : Refusal) → (opened_of file room).reply ≡ refused why → (opened_of file room).text ≡ zeros room
unfolding opened_by
open_refusal_zeroes file room = text_zero room (fitting_of false file room)

-- A refused lookup leaves every word of the hit list and every byte of the text zero.
pub lookup_refusal_zeroes : (file : List ℕ) (location : Location) (asked : Bool) (n room : ℕ) (why : Refusal) → (looked_up file location asked n room).reply ≡ refused why
    → ((looked_up file location asked n room).hits ≡ zeros n) × ((looked_up file location asked n room).text ≡ zeros room)
unfolding looked_up
lookup_refusal_zeroes file location asked n room = both_zero n room (zones_in file location asked n room)

-- A refused simple lookup does too.
pub simple_lookup_refusal_zeroes : (file : List ℕ) (location : Location) (n room : ℕ) (why : Refusal) → (simply_looked file location n room).reply ≡ refused why
    → ((simply_looked file location n room).hits ≡ zeros n) × ((simply_looked file location n room).text ≡ zeros room)
unfolding simply_looked
simple_lookup_refusal_zeroes file location n room = both_zero n room (described_in file location n room)

-- So do a refused strict opening and a refused strict lookup.
pub strict_open_refusal_zeroes : (file : List ℕ) (room : ℕ) (why : Refusal) → (opened_strictly file room).reply ≡ refused why → (opened_strictly file room).text ≡ zeros room
unfolding opened_by
strict_open_refusal_zeroes file room = text_zero room (fitting_of true file room)

pub strict_lookup_refusal_zeroes : (file : List ℕ) (location : Location) (asked : Bool) (n room : ℕ) (why : Refusal) → (looked_strictly file location asked n room).reply ≡ refused why
    → ((looked_strictly file location asked n room).hits ≡ zeros n) × ((looked_strictly file location asked n room).text ≡ zeros room)
unfolding looked_strictly
strict_lookup_refusal_zeroes file location asked n room = both_zero n room (zones_by (head_strictly file) file location asked n room)
