-- Which numbers each call of a builder can be refused with. Assumes nothing.
use Rattle.numbers.proofs.Prelude.{ℕ, ◌^◌, ◌≤◌, min, le-leb, eqb, ltb, leb, ℤ, length, take, drop, Bool, true, false, ◌&&◌, not, List, [], ◌∷◌, ◌++◌, ◌≡◌, refl, sym, ap, subst, ◌∙◌}
use Rattle.numbers.{proofs.{Refusals.{Listed, either}, Replies.{NumberedReply, answers, refuses, then_reply, and_then, demands, number_of_lem}, Tests.{both}}, specs.Answer.{if◌then◌else◌}}
use Rattle.numbers.specs.{Reply.{Reply, given, refused, refusal, plain, demand, ◌>>◌}, declared.{point.RawPoint.{RawPoint}, refusal.Refusal.{Refusal}}}
use Rattle.builder.specs.{Borders.{appended, with_border}, File.{are_texts, head_of, is_text, known, readable, up_to}, Yards.{Plan, Text}}
use Rattle.header.specs.Header.{is_kind}
use Rattle.writer.specs.{Moves.{moves_of, is_move}, Pieces.{good_pieces}, Writer.{every, sized, near, checks, plain_border, packed_border, border_of}, declared.write.Piece.{Piece}}
use Rattle.draft.{proofs.held.Redrawn.{data_few}, specs.Held.{Builder.{Builder, Offered, holding, yard_of, fitting, begin, add, drop_last, replace, finish}, Sound.{Sound}, Space.{Space}}}
use Rattle.draft.specs.Held.Totals.{data_of, file_size}
use Rattle.build.proofs.Numbered.{shaped, shape_alone}

-- the numbers that document 02 gives to each
abbrev pub begin_numbers : List ℕ
begin_numbers = 25 ∷ 26 ∷ 27 ∷ 28 ∷ []

abbrev pub add_numbers : List ℕ
add_numbers = 19 ∷ 20 ∷ 21 ∷ 22 ∷ 23 ∷ 25 ∷ 26 ∷ 28 ∷ []

abbrev pub drop_numbers : List ℕ
drop_numbers = 28 ∷ 29 ∷ []

abbrev pub replace_numbers : List ℕ
replace_numbers = 26 ∷ 28 ∷ 30 ∷ []

abbrev pub finish_numbers : List ℕ
finish_numbers = 25 ∷ 28 ∷ []

-- a number that it is refused with is one of these
abbrev Known : {A : Type 0} → List ℕ → Reply A → Type 0
Known numbers reply = NumberedReply (Listed numbers) reply

-- a file that does not fit is 28
fitting_known : (numbers : List ℕ) → Listed numbers 28 → (space : Space) (b : Builder) → Known numbers (fitting space b)
unfolding fitting
fitting_known numbers listed space b = and_then (demands (space.lists && leb (file_size (length (head_of b.plan)) b.totals) (up_to b.room)) (plain 28) listed) answers

-- ---- the calls that ask nothing of the builder
begin_known : (plan : Plan) (room : ℕ) (space : Space) → Known begin_numbers (begin plan room space)
unfolding begin
begin_known plan room space =
    and_then (demands (leb (length plan.names) 255 && plan.numbered) (plain 25) refl)
    (and_then (demands (readable (holding plan [])) (plain 26) refl) (and_then (demands (known plan) (plain 27) refl) (and_then (demands space.lists (plain 28) refl) answers)))

pub begin_refusals : (plan : Plan) (room : ℕ) (space : Space) (why : Refusal) → begin plan room space ≡ refused why → Listed begin_numbers why.number
begin_refusals plan room space why = number_of_lem (begin_known plan room space)

module _ (b : Builder) (space : Space) where
  drop_known : Known drop_numbers (drop_last b space)
  unfolding drop_last
  drop_known = and_then (demands (ltb 0 (length b.plan.yards)) (plain 29) refl) (and_then (demands space.lists (plain 28) refl) answers)

  pub drop_refusals : (why : Refusal) → drop_last b space ≡ refused why → Listed drop_numbers why.number
  drop_refusals why = number_of_lem drop_known

  replace_known : (yard field : ℕ) (text : Text) → Known replace_numbers (replace b yard field text space)
  unfolding replace
  replace_known yard field text =
      and_then (demands (ltb yard (length b.plan.yards) && ltb field (length b.plan.names)) (plain 30) refl)
      (and_then (demands (is_text text) (plain 26) refl) (fitting_known replace_numbers refl space _))

  pub replace_refusals : (yard field : ℕ) (text : Text) (why : Refusal) → replace b yard field text space ≡ refused why → Listed replace_numbers why.number
  replace_refusals yard field text why = number_of_lem (replace_known yard field text)

  finish_known : (out : ℕ) → Known finish_numbers (finish b out space)
  unfolding finish
  finish_known out =
      and_then (demands (ltb 0 (length b.plan.yards)) (plain 25) refl)
      (and_then (demands (space.lists && leb (file_size (length (head_of b.plan)) b.totals) (up_to out)) (plain 28) refl) answers)

  pub finish_refusals : (out : ℕ) (why : Refusal) → finish b out space ≡ refused why → Listed finish_numbers why.number
  finish_refusals out why = number_of_lem (finish_known out)

-- ---- an add, whose border is checked before its version and the data held are asked for
-- what follows a reply may go by it
past : {A : Type 0} {P : ℕ → Type 0} (r : Reply (Unit {0})) (k : Reply A) → NumberedReply P r → (r ≡ given tt → NumberedReply P k) → NumberedReply P (r >> k)
past (given u) k h next = next refl
past (refused why) k (refuses h) next = refuses h

shape_known : (lats lons : List ℤ) → Known add_numbers (checks 0 lats lons [])
shape_known lats lons =
    subst (λ (r : Reply (Unit {0})). Known add_numbers r) (sym (shape_alone lats lons)) (and_then (demands (sized lats lons) (plain 19) refl)
    (and_then (demands (every near lats && every near lons) (plain 20) refl) (and_then (demands (every is_move (drop 1 (moves_of lats lons))) (plain 21) refl)
    (demands (every is_move (take 1 (moves_of lats lons))) (plain 22) refl))))

module _ (version : ℕ) (form : ltb version 2 ≡ true) (sofar : List ℕ) (few : length sofar ≤ 2 ^ 30) (lats lons : List ℤ) (good : checks 0 lats lons [] ≡ given tt) where
  checked_again : checks version lats lons sofar ≡ given tt
  unfolding checks
  checked_again =
      ap (λ (b : Bool). demand b (plain 1) >> (demand (ltb version 2) (refusal 5 0 version) >> shaped lats lons)) (le-leb (length sofar) (2 ^ 30) few)
      ∙ (ap (λ (b : Bool). demand b (refusal 5 0 version) >> shaped lats lons) form ∙ (sym (shape_alone lats lons) ∙ good))

  border_known : (pieces : List Piece) → Known add_numbers (border_of version lats lons pieces sofar)
  unfolding border_of plain_border packed_border
  border_known pieces = let moves : List RawPoint = moves_of lats lons in
      subst (λ (r : Reply (Unit {0})). Known add_numbers (r >> (if eqb version 0 then plain_border moves pieces else packed_border moves pieces sofar))) (sym checked_again)
      (either (λ (r : Reply (List ℕ)). Known add_numbers r) (eqb version 0) (and_then (demands (eqb (length pieces) 0) (plain 23) refl) answers)
      (and_then (demands (leb (length pieces) 16) (refusal 23 0 16) refl)
      (and_then (demands (eqb (good_pieces sofar moves 0 pieces) (length pieces)) (refusal 23 0 (good_pieces sofar moves 0 pieces)) refl) answers)))

appended_known : (room : ℕ) (sofar : List ℕ) (cut : Bool) (pieces : ℕ) {border : Reply (List ℕ)} → Known add_numbers border → Known add_numbers (appended room sofar cut pieces border)
unfolding appended
appended_known room sofar cut pieces h =
    then_reply h (λ bytes. and_then (demands (not cut) (refusal 23 0 pieces) refl) (and_then (demands (leb (length (sofar ++ bytes)) room) (plain 28) refl) answers))

known_version : (plan : Plan) → known plan ≡ true → ltb plan.version 2 ≡ true
unfolding known
known_version plan form = (both (ltb plan.version 2) (is_kind plan.kind) (both (leb 1 plan.precision && leb plan.precision 31) _ form).1).0

-- of a builder that calls have made
module _ (b : Builder) (sound : Sound b.plan b.room) (o : Offered) (space : Space) where
  add_known : Known add_numbers (add b o space)
  unfolding add with_border
  add_known = let sofar : List ℕ = (data_of b.plan).bytes in
      past (checks 0 o.lats o.lons []) _ (shape_known o.lats o.lons) (λ good. and_then (demands (ltb (length b.plan.yards) 4096 && eqb
      (length b.plan.names) (length o.lengths)) (plain 25) refl) (and_then (demands (are_texts o.lengths o.texts) (plain 26) refl)
      (and_then (appended_known (up_to (min b.room space.bytes)) sofar false (length (yard_of o).pieces) (border_known b.plan.version (known_version
      b.plan sound.form) sofar (data_few b.plan b.room sound) o.lats o.lons good (yard_of o).pieces)) (fitting_known add_numbers refl space _))))

  pub add_refusals : (why : Refusal) → add b o space ≡ refused why → Listed add_numbers why.number
  add_refusals why = number_of_lem add_known
