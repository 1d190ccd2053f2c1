-- What an exported call of a builder says, number and reply words: what the definition's reply has. So 0 is said for an answer alone, and each call has few other numbers. Assumes nothing.
use Rattle.numbers.proofs.{Prelude.{ℕ, eqb, length, Bool, true, false, ◌||◌, List, [], ◌∷◌, inl, inr, ◌↔◌, ◌≡◌, refl, sym, ap, subst, ◌∙◌}, Refusals.{Listed, one_of}}
use Rattle.numbers.{proofs.Saying.{Answered, never_zero, zero_said}, specs.{Reply.{Reply, given, refused, plain}, Spoken.{said_of}, declared.{refusal.Refusal.{Refusal}, said.Said.{Said}}}}
use Rattle.add.specs.{Adding.Adds.{Adds}, Growing.Notes.{Notes, NotedBy}, declared.{adding.room.NoteRooms.{NoteRooms}, growing.grow.Added.{Added}}}
use Rattle.builder.{proofs.drawing.Lending.{never_given}, specs.{File.{Replied, fitted}, Yards.{Text, Plan}}}
use Rattle.edit.specs.{Changing.{Begun.{Begins}, Dropped.{Drops, left_space}, Emptied.{Clears}}, Replacing.Replaced.{Replaces}}
use Rattle.draft.specs.Held.{Builder.{Builder, Offered, add, begin, clear, drop_last, finish, replace}, Space.{Space}, State.{Answers, Holds, Lists, held_as}}
use Rattle.draft.specs.Summed.Ends.{Files, Finishes, space_of}
use Rattle.draft.specs.declared.held.{room.Rooms.{Rooms}, state.Held.{Held}}
use Rattle.office.proofs.NumberedCalls.{add_numbers, add_refusals, begin_numbers, begin_refusals, drop_numbers, drop_refusals, finish_numbers, finish_refusals, replace_numbers, replace_refusals}
use Rattle.office.proofs.SameCalls.{Told, ToldNoted}
use Rattle.office.specs.{Draft.{Ends, Speaks, SpeaksNoted, held_of, noted_in, totals_values}, Written.{length_value}}
use Rattle.add.specs.Adding.Adds as Adding
use Rattle.edit.specs.Replacing.Replaced as Replacing

-- ---- what is said of a reply
-- a builder's totals, a file's length
abbrev pub builder_values : Builder → List ℕ
builder_values b = totals_values (held_as b)

abbrev pub file_values : List ℕ → List ℕ
file_values file = length file ∷ []

abbrev pub saying : ℕ → List ℕ → Said
saying number words = record { number = number; words = words }

few_said : {A : Type 0} (values : A → List ℕ) (numbers : List ℕ) (reply : Reply A) → ((why : Refusal) → reply ≡ refused why → Listed numbers why.number) →
    Listed (0 ∷ numbers) (said_of values reply).number
unfolding said_of
few_said values numbers (given a) known = refl
few_said values numbers (refused why) known = go (eqb why.number 0) (known why refl) where
  go : (zero : Bool) → Listed numbers why.number → (zero || one_of numbers why.number) ≡ true
  go true h = refl
  go false h = h

-- where the reply is refused with these numbers alone
module _ {A : Type 0} (values : A → List ℕ) (numbers : List ℕ) (without : Listed numbers 0 → false ≡ true) (reply : Reply A) (known : (why : Refusal) → reply ≡ refused why →
    Listed numbers why.number) where
  zero_of : {number : ℕ} {words : List ℕ} → saying number words ≡ said_of values reply → (number ≡ 0) ↔ Answered reply
  zero_of said =
      subst (λ (x : Said). (x.number ≡ 0) ↔ Answered reply) (sym said) (zero_said values reply (λ why is. never_zero numbers without why.number (known why is)))

  few_of : {number : ℕ} {words : List ℕ} → saying number words ≡ said_of values reply → Listed (0 ∷ numbers) number
  few_of said = subst (λ (x : Said). Listed (0 ∷ numbers) x.number) (sym said) (few_said values numbers reply known)

-- ---- a changed builder has the totals of the definition's
answers_say : (reply : Reply Builder) (before after : Lists) (changed : Reply Held) → Answers reply before after changed → said_of totals_values changed ≡ said_of builder_values reply
unfolding Answers said_of
answers_say reply before after (given held) (b, (is, (holds, rooms))) = ap (λ (h : Held). said_of totals_values (given h)) holds.is ∙ sym (ap (λ (r : Reply Builder). said_of builder_values r) is)
answers_say reply before after (refused why) (is, same) = sym (ap (λ (r : Reply Builder). said_of builder_values r) is)

begins_say : (plan : Plan) (room : ℕ) (space : Space) (before after : Lists) (changed : Reply Held) → Begins plan room space before after changed →
    said_of totals_values changed ≡ said_of builder_values (begin plan room space)
unfolding Begins said_of
begins_say plan room space before after (given held) (b, (is, (holds, rooms))) =
    ap (λ (h : Held). said_of totals_values (given h)) holds.is ∙ sym (ap (λ (r : Reply Builder). said_of builder_values r) is)
begins_say plan room space before after (refused why) (is, same) = sym (ap (λ (r : Reply Builder). said_of builder_values r) is)

-- ---- `uskelzar_begin`
module _ (plan : Plan) (room : ℕ) (space : Space) (before after : Lists) {zero state words : List ℕ} {number : ℕ} (s : Speaks (λ h. Begins plan room space before after) zero state number words) where
  pub begin_said : saying number words ≡ said_of builder_values (begin plan room space)
  begin_said = s.spoke.said ∙ begins_say plan room space before after s.changed s.promised

  pub begin_zero : (number ≡ 0) ↔ Answered (begin plan room space)
  begin_zero = zero_of builder_values begin_numbers (λ z. z) (begin plan room space) (begin_refusals plan room space) begin_said

  pub begin_numbers_lem : Listed (0 ∷ begin_numbers) number
  begin_numbers_lem = few_of builder_values begin_numbers (λ z. z) (begin plan room space) (begin_refusals plan room space) begin_said

-- ---- the calls that take a state
-- numbers that do not fit the lists are refused so
broken_few : (numbers : List ℕ) (n : ℕ) → Listed (0 ∷ numbers) n → {changed : Reply Held} {number : ℕ} {words : List ℕ} → changed ≡ refused (plain n) →
    saying number words ≡ said_of totals_values changed → Listed (0 ∷ numbers) number
unfolding said_of
broken_few numbers n listed is said =
    subst (λ (x : Said). Listed (0 ∷ numbers) x.number) (sym (said ∙ ap (λ (r : Reply Held). said_of totals_values r) is)) listed

-- `uskelzar_add`
module _ (held : List ℕ) (o : Offered) (rooms : Rooms) (lent : NoteRooms) (out : ℕ) (before after : Lists) (notes notes' : Notes) {state words : List ℕ} {number : ℕ}
    (s : SpeaksNoted (λ h noted. Adds h noted o rooms lent out before after notes notes') held state number words) where
  abbrev added : Builder → Reply Builder
  added b = add b o (Adding.space_for (held_of held) rooms lent o out)

  -- the notes are those of the builder's yards, or nothing is noted
  abbrev Right : Builder → Type 0
  Right b = NotedBy (held_of held).names b.plan.yards (noted_in held) notes

  pub add_said : (b : Builder) → Holds b (held_of held) before → Right b → saying number words ≡ said_of builder_values (add b o (Adding.space_for (held_of held) rooms lent o out))
  add_said b holds right = s.spoke.said ∙ answers_say (added b) before after s.added.changed (s.promised.answers b holds right).0

  pub add_zero : (b : Builder) → Holds b (held_of held) before → Right b → (number ≡ 0) ↔ Answered (add b o (Adding.space_for (held_of held) rooms lent o out))
  add_zero b holds right = zero_of builder_values add_numbers (λ z. z) (added b) (add_refusals b holds.sound o (Adding.space_for (held_of held) rooms lent o out)) (add_said b holds right)

  pub add_numbers_lem : ToldNoted (held_of held) (noted_in held) rooms before notes → Listed (0 ∷ add_numbers) number
  add_numbers_lem (inl (b, (holds, right))) =
      few_of builder_values add_numbers (λ z. z) (added b) (add_refusals b holds.sound o (Adding.space_for (held_of held) rooms lent o out)) (add_said b holds right)
  add_numbers_lem (inr broken) = broken_few add_numbers 28 refl (ap (λ (r : Added). r.changed) (s.promised.stands_not broken).0) s.spoke.said

-- `uskelzar_drop_last`
module _ (held : List ℕ) (rooms : Rooms) (before after : Lists) {state words : List ℕ} {number : ℕ} (s : Speaks (λ h. Drops h rooms before after) held state number words) where
  abbrev left : Space
  left = left_space (held_of held) rooms before.lengths

  pub drop_said : (b : Builder) → Holds b (held_of held) before → saying number words ≡ said_of builder_values (drop_last b (left_space (held_of held) rooms before.lengths))
  drop_said b holds = s.spoke.said ∙ answers_say (drop_last b left) before after s.changed (s.promised.answers b holds)

  pub drop_zero : (b : Builder) → Holds b (held_of held) before → (number ≡ 0) ↔ Answered (drop_last b (left_space (held_of held) rooms before.lengths))
  drop_zero b holds = zero_of builder_values drop_numbers (λ z. z) (drop_last b left) (drop_refusals b left) (drop_said b holds)

  pub drop_numbers_lem : Told (held_of held) rooms before → Listed (0 ∷ drop_numbers) number
  drop_numbers_lem (inl (b, holds)) = few_of builder_values drop_numbers (λ z. z) (drop_last b left) (drop_refusals b left) (drop_said b holds)
  drop_numbers_lem (inr broken) = broken_few drop_numbers 29 refl (s.promised.broken broken).0 s.spoke.said

-- `uskelzar_replace`
module _ (held : List ℕ) (rooms : Rooms) (out yard field : ℕ) (text : Text) (before after : Lists) {state words : List ℕ} {number : ℕ}
    (s : Speaks (λ h. Replaces h rooms out yard field text before after) held state number words) where
  abbrev room : Builder → Space
  room b = Replacing.space_for rooms out b.plan yard field text

  pub replace_said : (b : Builder) → Holds b (held_of held) before → saying number words ≡ said_of builder_values (replace b yard field text (Replacing.space_for rooms out b.plan yard field text))
  replace_said b holds = s.spoke.said ∙ answers_say (replace b yard field text (room b)) before after s.changed (s.promised.answers b holds)

  pub replace_zero : (b : Builder) → Holds b (held_of held) before → (number ≡ 0) ↔ Answered (replace b yard field text (Replacing.space_for rooms out b.plan yard field text))
  replace_zero b holds = zero_of builder_values replace_numbers (λ z. z) (replace b yard field text (room b)) (replace_refusals b (room b) yard field text) (replace_said b holds)

  pub replace_numbers_lem : Told (held_of held) rooms before → Listed (0 ∷ replace_numbers) number
  replace_numbers_lem (inl (b, holds)) = few_of builder_values replace_numbers (λ z. z) (replace b yard field text (room b)) (replace_refusals b (room b) yard field text) (replace_said b holds)
  replace_numbers_lem (inr broken) = broken_few replace_numbers 28 refl (s.promised.fallen broken).0 s.spoke.said

-- `uskelzar_clear`, which answers every builder
module _ (held : List ℕ) (rooms : Rooms) (before after : Lists) {state words : List ℕ} {number : ℕ} (s : Speaks (λ h. Clears h rooms before after) held state number words) where
  pub clear_said : (b : Builder) → Holds b (held_of held) before → saying number words ≡ said_of builder_values (given (clear b))
  clear_said b holds = s.spoke.said ∙ answers_say (given (clear b)) before after s.changed (s.promised.answers b holds)

  pub clear_numbers : Told (held_of held) rooms before → Listed (0 ∷ 28 ∷ []) number
  clear_numbers (inl (b, holds)) = few_of builder_values (28 ∷ []) (λ z. z) (given (clear b)) (λ why e. absurd (never_given why (clear b) (sym e))) (clear_said b holds)
  clear_numbers (inr broken) = broken_few (28 ∷ []) 28 refl (s.promised.broken broken).0 s.spoke.said

-- ---- `uskelzar_finish`
finishes_say : (reply : Reply (List ℕ)) (room : ℕ) (out : List ℕ) (built : Reply ℕ) → Finishes reply room out built → said_of length_value built ≡ said_of file_values reply
unfolding Finishes fitted said_of
finishes_say reply room out built f = ap (λ (x : Replied). said_of length_value x.reply) f ∙ go reply where
  go : (r : Reply (List ℕ)) → said_of length_value (fitted room r).reply ≡ said_of file_values r
  go (given file) = refl
  go (refused why) = refl

module _ (held : List ℕ) (rooms : Rooms) (lists : Lists) (room : ℕ) (out : List ℕ) {words : List ℕ} {number : ℕ} (e : Ends (λ h. Files h rooms lists room out) held number words) where
  abbrev lent : Space
  lent = space_of (held_of held) rooms

  pub finish_said : (b : Builder) → Holds b (held_of held) lists → saying number words ≡ said_of file_values (finish b room (space_of (held_of held) rooms))
  finish_said b holds = e.said ∙ finishes_say (finish b room lent) room out e.built (e.promised.answers b holds)

  pub finish_zero : (b : Builder) → Holds b (held_of held) lists → (number ≡ 0) ↔ Answered (finish b room (space_of (held_of held) rooms))
  finish_zero b holds = zero_of file_values finish_numbers (λ z. z) (finish b room lent) (finish_refusals b lent room) (finish_said b holds)

  pub finish_numbers_lem : Told (held_of held) rooms lists → Listed (0 ∷ finish_numbers) number
  unfolding said_of
  finish_numbers_lem (inl (b, holds)) = few_of file_values finish_numbers (λ z. z) (finish b room lent) (finish_refusals b lent room) (finish_said b holds)
  finish_numbers_lem (inr broken) =
      subst (λ (x : Said). Listed (0 ∷ finish_numbers) x.number) (sym (e.said ∙ ap (λ (r : Reply ℕ). said_of length_value r) (e.promised.broken broken))) refl
