-- How the notes of a builder stay right from call to call: any will do behind begin, drop, replace and clear; an add leaves right ones, or changes nothing. Assumes nothing.
use Rattle.numbers.{proofs.Prelude.{ℕ, length, List, ◌⊎◌, inl, inr, ◌≡◌, sym, ap, subst, ◌∙◌, arith}, specs.{Reply.{Reply, given, refused}, declared.refusal.Refusal.{Refusal}}}
use Rattle.add.specs.{Adding.Adds.{Adds, space_for}, Growing.{Joins.{Renoted}, Notes.{Noted, NotedBy, Notes}}, declared.adding.room.NoteRooms.{NoteRooms}}
use Rattle.builder.specs.Yards.{Yard}
use Rattle.draft.{proofs.held.Adds.{add_given}, specs.{Held.{Builder.{Builder, Offered, add, joined, summed}, State.{Answers, Holds, Lists}}, declared.held.room.Rooms.{Rooms}}}
use Rattle.draft.specs.declared.held.state.Held.{Held}
use Rattle.office.specs.Draft.{Kept, Speaks, SpeaksNoted, held_of, noted_in, words_of}

-- a builder in the words of a state and in its lists, with notes that are right: what the promise of an add asks for
pub record Lasts (b : Builder) (state : List ℕ) (lists : Lists) (notes : Notes) : Type 0 where
  pub holds : Holds b (held_of state) lists
  pub noted : NotedBy (held_of state).names b.plan.yards (noted_in state) notes

pub noted_back : (held : Held) (noted : ℕ) (state : List ℕ) → state ≡ words_of held noted → noted_in state ≡ noted
unfolding noted_in words_of
noted_back held noted state is = ap (λ (words : List ℕ). noted_in words) is

-- where 0 is noted, any notes are right
none_noted : (names : ℕ) (yards : List Yard) (noted : ℕ) (notes : Notes) → noted ≡ 0 → NotedBy names yards noted notes
unfolding NotedBy
none_noted names yards noted notes none some = absurd (omega (arith, none, some))

-- ---- begin, drop, replace, clear: where one is answered, its builder lasts, whatever the notes hold
pub kept_lasts : (b : Builder) (before after : List ℕ) (lists : Lists) (notes : Notes) (held : Held) → Kept 0 before after (given held) → Holds b held lists → Lasts b after lists notes
unfolding Kept
kept_lasts b before after lists notes held (words, back) holds =
    record { holds = subst (λ (h : Held). Holds b h lists) (sym back) holds; noted = none_noted (held_of after).names b.plan.yards (noted_in after) notes (noted_back held 0 after words) }

module _ {Promised : Held → Reply Held → Type 0} {before after words : List ℕ} {number : ℕ} (s : Speaks Promised before after number words) where
  pub changed_lasts : (b : Builder) (lists : Lists) (held : Held) → s.changed ≡ given held → Holds b held lists → (notes : Notes) → Lasts b after lists notes
  changed_lasts b lists held is holds notes = kept_lasts b before after lists notes held (subst (Kept 0 before after) is s.spoke.kept) holds

-- ---- an add
module _ (b : Builder) (o : Offered) (rooms : Rooms) (lent : NoteRooms) (out : ℕ) (state state' : List ℕ) (lists lists' : Lists) (notes notes' : Notes) where
  -- the definition's builder lasts; or the definition refuses, and nothing is changed
  abbrev pub LastsOn : Type 0
  LastsOn =
      ((next : Builder) × ((add b o (space_for (held_of state) rooms lent o out) ≡ given next) × Lasts next state' lists' notes'))
      ⊎ ((why : Refusal) × ((add b o (space_for (held_of state) rooms lent o out) ≡ refused why) × ((state' ≡ state) × ((lists' ≡ lists) × (notes' ≡ notes)))))

  names_stay : (next : Builder) (held : Held) → Holds b (held_of state) lists → Holds next held lists' → next ≡ summed (joined b.plan o) b.room → held.names ≡ (held_of state).names
  unfolding summed joined
  names_stay next held holds holds' is = ap (λ (h : Held). h.names) holds'.is ∙ (ap (λ (x : Builder). length x.plan.names) is ∙ sym (ap (λ (h : Held). h.names) holds.is))

  next_noted : (names names' noted noted' : ℕ) (yards yards' : List Yard) → names' ≡ names → noted' ≡ noted → yards' ≡ yards → Noted names yards noted notes' → NotedBy names' yards' noted' notes'
  unfolding NotedBy
  next_noted names names' noted noted' yards yards' n d y right some =
      subst (λ (x : ℕ). Noted x yards' noted' notes') (sym n) (subst (λ (x : ℕ). Noted names yards' x notes') (sym d) (subst (λ (x : List Yard). Noted names x noted notes') (sym y) right))

  lasts_by : (noted : ℕ) (changed : Reply Held) → Lasts b state lists notes → Answers (add b o (space_for (held_of state) rooms lent o out)) lists lists' changed
      → Renoted (held_of state).names (joined b.plan o).yards (noted_in state) notes noted notes' changed → Kept noted state state' changed → LastsOn
  unfolding Answers Renoted Kept summed
  lasts_by noted (given held) lasts (next, (is, (holds, same))) right (words, back) =
      let made : next ≡ summed (joined b.plan o) b.room = (add_given b o (space_for (held_of state) rooms lent o out) next is).is in
      let names = ap (λ (h : Held). h.names) back ∙ names_stay next held lasts.holds holds made in
      inl (
        next,
        (
          is,
          record {
            holds = subst (λ (h : Held). Holds next h lists') (sym back) holds;
            noted = next_noted (held_of state).names (held_of state').names noted (noted_in state') (joined b.plan o).yards next.plan.yards names (noted_back held noted state' words)
                (ap (λ (x : Builder). x.plan.yards) made) right;
          },
        ),
      )
  lasts_by noted (refused why) lasts (is, same) right kept = inr (why, (is, (kept, (same, right.1))))

  pub add_lasts : {words : List ℕ} {number : ℕ} → SpeaksNoted (λ h noted. Adds h noted o rooms lent out lists lists' notes notes') state state' number words → Lasts b state lists notes → LastsOn
  add_lasts s lasts = let told = s.promised.answers b lasts.holds lasts.noted in lasts_by s.added.noted s.added.changed lasts told.0 told.1 s.spoke.kept
