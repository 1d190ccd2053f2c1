-- Which numbers a build can be refused with: never 1, 5 or 24, which the writer of a border has beside these. Assumes nothing.
use Rattle.numbers.proofs.Prelude.{ℕ, ◌^◌, ◌≤◌, min, le-leb, eqb, ltb, leb, ℤ, length, take, drop, Bool, true, ◌&&◌, not, List, [], ◌∷◌, ◌++◌, ◌≡◌, refl, sym, ap, subst, ◌∙◌, arith}
use Rattle.numbers.{proofs.{Refusals.{Listed, either}, Replies.{NumberedReply, answers, refuses, then_reply, and_then, demands, number_of_lem, demand_met}, Tests.{both}}, specs.Answer.{if◌then◌else◌}}
use Rattle.numbers.specs.{Reply.{Reply, given, refused, refusal, plain, demand, ◌>>=◌, ◌>>◌}, declared.{point.RawPoint.{RawPoint}, refusal.Refusal.{Refusal}}}
use Rattle.writer.specs.{Moves.{moves_of, is_move}, Pieces.{good_pieces}, Writer.{every, sized, near, checks, plain_border, packed_border, border_of}, declared.write.Piece.{Piece}}
use Rattle.builder.{proofs.drawing.{Lending.{never_given}, Sections.{appended_fits}}, specs.Borders.{appended, with_border, drawn_from, drawn_of}}
use Rattle.builder.specs.{File.{Room, borders_good, counted, readable, known, file_of, up_to, built_of}, Yards.{Yard, Plan}}
use Rattle.header.specs.Header.{is_kind}

-- the numbers that document 02 gives to the builder
abbrev pub build_numbers : List ℕ
build_numbers = 19 ∷ 20 ∷ 21 ∷ 22 ∷ 23 ∷ 25 ∷ 26 ∷ 27 ∷ 28 ∷ []

-- a number that it is refused with is one of these
abbrev Known : {A : Type 0} → Reply A → Type 0
Known reply = NumberedReply (Listed build_numbers) reply

-- ---- what follows may go by what was given
then_known : {A B : Type 0} (r : Reply A) (k : A → Reply B) → Known r → ((a : A) → r ≡ given a → Known (k a)) → Known (r >>= k)
then_known (given a) k h next = next a refl
then_known (refused why) k (refuses h) next = refuses h

past : {B : Type 0} (r : Reply (Unit {0})) (k : Reply B) → Known r → (r ≡ given tt → Known k) → Known (r >> k)
past (given tt) k h next = next refl
past (refused why) k (refuses h) next = refuses h

both_given : (r k : Reply (Unit {0})) → (r >> k) ≡ given tt → (r ≡ given tt) × (k ≡ given tt)
both_given (given tt) k e = (refl, e)
both_given (refused why) k e = absurd (never_given why tt e)

-- ---- the checks of a border: those that ask neither for a version nor for earlier data
abbrev pub shaped : List ℤ → List ℤ → Reply (Unit {0})
shaped lats lons =
    demand (sized lats lons) (plain 19)
    >> (demand (every near lats && every near lons) (plain 20) >> (demand (every is_move (drop 1 (moves_of lats lons))) (plain 21) >> demand (every is_move (take 1 (moves_of lats lons))) (plain 22)))

pub shape_alone : (lats lons : List ℤ) → checks 0 lats lons [] ≡ shaped lats lons
unfolding checks
shape_alone lats lons = refl

borders_known : (yards : List Yard) → Known (borders_good yards)
unfolding borders_good
borders_known [] = answers
borders_known (y ∷ ys) = and_then (subst Known (sym (shape_alone y.lats y.lons)) shape_known) (borders_known ys) where
  shape_known : Known (shaped y.lats y.lons)
  shape_known =
      and_then (demands (sized y.lats y.lons) (plain 19) refl) (and_then (demands (every near y.lats && every near y.lons) (plain 20) refl)
      (and_then (demands (every is_move (drop 1 (moves_of y.lats y.lons))) (plain 21) refl) (demands (every is_move (take 1 (moves_of y.lats y.lons))) (plain 22) refl)))

-- ---- the data section, of yards that were checked
module _ (version room : ℕ) (form : ltb version 2 ≡ true) (most : room ≤ 2 ^ 30) where
  module _ (lats lons : List ℤ) (good : checks 0 lats lons [] ≡ given tt) (sofar : List ℕ) (fits : length sofar ≤ 2 ^ 30) where
    checked_again : checks version lats lons sofar ≡ given tt
    unfolding checks
    checked_again =
        ap (λ (b : Bool). demand b (plain 1) >> (demand (ltb version 2) (refusal 5 0 version) >> shaped lats lons)) (le-leb (length sofar) (2 ^ 30) fits)
        ∙ (ap (λ (b : Bool). demand b (refusal 5 0 version) >> shaped lats lons) form ∙ (sym (shape_alone lats lons) ∙ good))

    border_known : (pieces : List Piece) → Known (border_of version lats lons pieces sofar)
    unfolding border_of plain_border packed_border
    border_known pieces = let moves : List RawPoint = moves_of lats lons in
        subst (λ (r : Reply (Unit {0})). Known (r >> (if eqb version 0 then plain_border moves pieces else packed_border moves pieces sofar))) (sym checked_again)
        (either (λ (r : Reply (List ℕ)). Known r) (eqb version 0) (and_then (demands (eqb (length pieces) 0) (plain 23) refl) answers)
        (and_then (demands (leb (length pieces) 16) (refusal 23 0 16) refl)
        (and_then (demands (eqb (good_pieces sofar moves 0 pieces) (length pieces)) (refusal 23 0 (good_pieces sofar moves 0 pieces)) refl) answers)))

  appended_known : (sofar : List ℕ) (cut : Bool) (pieces : ℕ) {border : Reply (List ℕ)} → Known border → Known (appended room sofar cut pieces border)
  unfolding appended
  appended_known sofar cut pieces h =
      then_reply h (λ bytes. and_then (demands (not cut) (refusal 23 0 pieces) refl) (and_then (demands (leb (length (sofar ++ bytes)) room) (plain 28) refl) answers))

  drawn_known : (sofar : List ℕ) (yards : List Yard) → length sofar ≤ 2 ^ 30 → borders_good yards ≡ given tt → Known (drawn_from version room sofar yards)
  unfolding drawn_from borders_good with_border
  drawn_known sofar [] fits good = answers
  drawn_known sofar (y ∷ ys) fits good = let two = both_given (checks 0 y.lats y.lons []) (borders_good ys) good in
      let border : Reply (List ℕ) = border_of version y.lats y.lons y.pieces sofar in
      then_known (appended room sofar y.cut (length y.pieces) border) _
      (appended_known sofar y.cut (length y.pieces) (border_known y.lats y.lons two.0 sofar fits y.pieces))
      (λ more is. then_reply (drawn_known more ys (omega (arith, appended_fits room sofar y.cut (length y.pieces) border more is, most)) two.1) (λ rest. answers))

-- ---- a build
built_known : (plan : Plan) (room : Room) → Known (built_of plan room)
unfolding built_of drawn_of known
built_known plan room = let form : Bool = (leb 1 plan.precision && leb plan.precision 31) && (ltb plan.version 2 && is_kind plan.kind) in
    past (borders_good plan.yards) _ (borders_known plan.yards) (λ good. and_then (demands (counted plan) (plain 25) refl)
    (and_then (demands (readable plan) (plain 26) refl) (past (demand form (plain 27)) _ (demands form (plain 27) refl) (λ known'. let said = both
    (leb 1 plan.precision && leb plan.precision 31) _ (demand_met form (plain 27) known') in let version = both (ltb plan.version 2) _ said.1 in
    then_reply (drawn_known plan.version (up_to (min room.file room.bytes)) version.0 (omega arith) (0 ∷ []) plan.yards (omega arith) good)
    (λ drawn. and_then (demands (room.work && leb (length (file_of plan drawn)) (up_to room.file)) (plain 28) refl) answers)))))

-- A build that is refused is refused with one of these.
pub build_refusals : (plan : Plan) (room : Room) (why : Refusal) → built_of plan room ≡ refused why → Listed build_numbers why.number
build_refusals plan room why = number_of_lem (built_known plan room)
