-- Which numbers a border can be refused with where it is written. Assumes nothing.
use Rattle.numbers.proofs.{Prelude.{ℕ, ◌^◌, eqb, ltb, leb, ℤ, length, take, drop, ◌&&◌, List, [], ◌∷◌, ◌≡◌, refl}, Refusals.{Listed, still_listed, either}, Replies.{NumberedReply, answers, refuses}}
use Rattle.numbers.{proofs.Replies.{and_then, demands, number_of_lem}, specs.{Reply.{Reply, refused, refusal, plain}, declared.{point.RawPoint.{RawPoint}, refusal.Refusal.{Refusal}}}}
use Rattle.writer.specs.{Moves.{moves_of, is_move}, Pieces.{good_pieces}, Writer.{every, sized, near, checks, plain_border, packed_border, border_of, Replied, fitted}, declared.write.Piece.{Piece}}

-- the numbers that document 01 gives to the writer
abbrev pub writer_numbers : List ℕ
writer_numbers = 1 ∷ 5 ∷ 19 ∷ 20 ∷ 21 ∷ 22 ∷ 23 ∷ 24 ∷ []

-- a border's own: 24 is the output's
abbrev pub border_numbers : List ℕ
border_numbers = 1 ∷ 5 ∷ 19 ∷ 20 ∷ 21 ∷ 22 ∷ 23 ∷ []

abbrev Own : {A : Type 0} → Reply A → Type 0
Own reply = NumberedReply (Listed border_numbers) reply

pub checks_numbered : (version : ℕ) (lats lons : List ℤ) (earlier : List ℕ) → Own (checks version lats lons earlier)
unfolding checks
checks_numbered version lats lons earlier =
    and_then (demands (leb (length earlier) (2 ^ 30)) (plain 1) refl) (and_then (demands (ltb version 2) (refusal 5 0 version) refl)
    (and_then (demands (sized lats lons) (plain 19) refl) (and_then (demands (every near lats && every near lons) (plain 20) refl)
    (and_then (demands (every is_move (drop 1 (moves_of lats lons))) (plain 21) refl) (demands (every is_move (take 1 (moves_of lats lons))) (plain 22) refl)))))

plain_numbered : (moves : List RawPoint) (pieces : List Piece) → Own (plain_border moves pieces)
unfolding plain_border
plain_numbered moves pieces = and_then (demands (eqb (length pieces) 0) (plain 23) refl) answers

packed_numbered : (moves : List RawPoint) (pieces : List Piece) (earlier : List ℕ) → Own (packed_border moves pieces earlier)
unfolding packed_border
packed_numbered moves pieces earlier =
    and_then (demands (leb (length pieces) 16) (refusal 23 0 16) refl)
    (and_then (demands (eqb (good_pieces earlier moves 0 pieces) (length pieces)) (refusal 23 0 (good_pieces earlier moves 0 pieces)) refl) answers)

pub border_numbered : (version : ℕ) (lats lons : List ℤ) (pieces : List Piece) (earlier : List ℕ) → Own (border_of version lats lons pieces earlier)
unfolding border_of
border_numbered version lats lons pieces earlier =
    and_then (checks_numbered version lats lons earlier)
    (either (λ (r : Reply (List ℕ)). Own r) (eqb version 0) (plain_numbered (moves_of lats lons) pieces) (packed_numbered (moves_of lats lons) pieces earlier))

fitted_numbered : (room : ℕ) {reply : Reply (List ℕ)} → Own reply → NumberedReply (Listed writer_numbers) (fitted room reply).reply
unfolding fitted
fitted_numbered room (answers {a = bytes}) = either (λ (r : Replied). NumberedReply (Listed writer_numbers) r.reply) (leb (length bytes) room) answers (refuses refl)
fitted_numbered room (refuses {why} h) = refuses (still_listed border_numbers (24 ∷ []) why.number h)

-- a border that is not written is refused with one of these
pub writer_refusals : (room version : ℕ) (lats lons : List ℤ) (pieces : List Piece) (earlier : List ℕ) (why : Refusal)
    → (fitted room (border_of version lats lons pieces earlier)).reply ≡ refused why → Listed writer_numbers why.number
writer_refusals room version lats lons pieces earlier why = number_of_lem (fitted_numbered room (border_numbered version lats lons pieces earlier))
