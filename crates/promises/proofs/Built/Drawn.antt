-- Where each border lies in the data that was drawn, and what was checked of it. Assumes nothing.
use Rattle.numbers.proofs.Prelude.{ℕ, ◌^◌, eqb, ltb, leb, ℤ, length, true, ◌&&◌, not, List, [], ◌∷◌, ◌++◌, append_assoc, append-nil, ◌≡◌, refl, sym, ap, subst, ◌∙◌}
use Rattle.numbers.{proofs.{Replies.{given_from, demanded, looked}, Tests.{both}}, specs.{Answer.{if◌then◌else◌}, Reply.{given, refusal, plain}}}
use Rattle.writer.specs.{Moves.{moves_of}, Writer.{every, sized, near, checks, plain_border, packed_border, border_of}, declared.write.Piece.{Piece}}
use Rattle.builder.specs.{Borders.{appended, with_border, Drawn, drawn_from}, Yards.{Yard}}

-- a yard's border at a place of the data, written behind what stands before it
pub record Lies (version : ℕ) (all : List ℕ) (yard : Yard) (place : ℕ) : Type 0 where
  pub earlier : List ℕ
  pub bytes : List ℕ
  pub rest : List ℕ
  pub accepted : border_of version yard.lats yard.lons yard.pieces earlier ≡ given bytes
  pub whole : all ≡ earlier ++ (bytes ++ rest)
  pub begins : place ≡ length earlier

pub data AllLie (version : ℕ) (all : List ℕ) : List Yard → List ℕ → Type 0 where
  none : AllLie version all [] []
  one : {yard : Yard} {yards : List Yard} {place : ℕ} {places : List ℕ} → Lies version all yard place → AllLie version all yards places → AllLie version all (yard ∷ yards) (place ∷ places)

record Follows (version : ℕ) (sofar : List ℕ) (yards : List Yard) (drawn : Drawn) : Type 0 where
  tail : List ℕ
  is : drawn.bytes ≡ sofar ++ tail
  each : AllLie version drawn.bytes yards drawn.places

module _ (version room : ℕ) where
  with_border_lem : (sofar more : List ℕ) (yard : Yard) → given more ≡ with_border version room sofar yard
      → (bytes : List ℕ) × ((border_of version yard.lats yard.lons yard.pieces sofar ≡ given bytes) × (more ≡ sofar ++ bytes))
  unfolding with_border appended
  with_border_lem sofar more yard e = let border = given_from (border_of version yard.lats yard.lons yard.pieces sofar) _ e in
      let first = demanded (not yard.cut) (refusal 23 0 (length yard.pieces)) border.onto in
      let second = demanded (leb (length (sofar ++ border.it)) room) (plain 28) first.1 in let same : more ≡ sofar ++ border.it = cc in
      (border.it, (sym border.is, same))

  drawn_follows : (sofar : List ℕ) (yards : List Yard) (drawn : Drawn) → given drawn ≡ drawn_from version room sofar yards → Follows version sofar yards drawn
  unfolding drawn_from
  drawn_follows sofar [] drawn e = let same : drawn ≡ record { bytes = sofar; places = [] } = cc in
      subst (Follows version sofar []) (sym same) (record { tail = []; is = sym (append-nil sofar); each = none })
  drawn_follows sofar (yard ∷ yards) drawn e = let first = given_from (with_border version room sofar yard) _ e in
      let second = given_from (drawn_from version room first.it yards) _ first.onto in
      let same : drawn ≡ record { bytes = second.it.bytes; places = length sofar ∷ second.it.places } = cc in
      let later = drawn_follows first.it yards second.it second.is in let border = with_border_lem sofar first.it yard first.is in
      let bytes = border.0 in
      let all : second.it.bytes ≡ sofar ++ (bytes ++ later.tail) = later.is ∙ (ap (λ (l : List ℕ). l ++ later.tail) border.1.1 ∙ append_assoc sofar bytes later.tail) in
      subst (Follows version sofar (yard ∷ yards)) (sym same) (record {
        tail = bytes ++ later.tail;
        is = all;
        each = one (record { earlier = sofar; bytes = bytes; rest = later.tail; accepted = border.1.0; whole = all; begins = refl }) later.each;
      })

  pub all_lie : (sofar : List ℕ) (yards : List Yard) (drawn : Drawn) → drawn_from version room sofar yards ≡ given drawn → AllLie version drawn.bytes yards drawn.places
  all_lie sofar yards drawn e = (drawn_follows sofar yards drawn (sym e)).each

-- ---- what was checked
pub record Checked (lats lons : List ℤ) : Type 0 where
  pub sizes : sized lats lons ≡ true
  pub near_lats : every near lats ≡ true
  pub near_lons : every near lons ≡ true

pub accepted_checked : (version : ℕ) (lats lons : List ℤ) (pieces : List Piece) (earlier bytes : List ℕ) → border_of version lats lons pieces earlier ≡ given bytes → Checked lats lons
unfolding border_of checks
accepted_checked version lats lons pieces earlier bytes e =
    let whole = looked (checks version lats lons earlier) (if eqb version 0 then plain_border (moves_of lats lons) pieces else packed_border (moves_of lats lons) pieces earlier) (sym e) in
    let first = demanded (leb (length earlier) (2 ^ 30)) (plain 1) (sym whole.0) in
    let third = demanded (sized lats lons) (plain 19) (demanded (ltb version 2) (refusal 5 0 version) first.1).1 in
    let nears = both (every near lats) (every near lons) (demanded (every near lats && every near lons) (plain 20) third.1).0 in
    record { sizes = third.0; near_lats = nears.0; near_lons = nears.1 }
