-- What the exported calls of a builder fix: two results that one permits, of a state that holds a builder or that does not fit its lists, are equal in number, reply words, state words and
-- lists. Assumes nothing.
use Rattle.numbers.specs.Reply.{Reply, given, refused}
use Rattle.numbers.{proofs.Prelude.{ℕ, List, ◌≡◌, refl, sym, ap, subst, ◌∙◌}, specs.{Spoken.{said_of}, declared.said.Said.{Said}}}
use Rattle.add.specs.{Adding.Adds.{Adds}, Growing.Notes.{Notes}, declared.{adding.room.NoteRooms.{NoteRooms}, growing.grow.Added.{Added}}}
use Rattle.builder.specs.Yards.{Text, Plan}
use Rattle.edit.specs.{Changing.{Begun.{Begins}, Dropped.{Drops}, Emptied.{Clears}}, Replacing.Replaced.{Replaces}}
use Rattle.draft.specs.{Held.{Builder.{Offered}, Space.{Space}, State.{Lists}}, Summed.Ends.{Files}, declared.held.{room.Rooms.{Rooms}, state.Held.{Held}}}
use Rattle.office.proofs.SameCalls.{Told, ToldNoted, same_added, same_begun, same_cleared, same_dropped, same_finished, same_replaced}
use Rattle.office.specs.{Draft.{Ends, Kept, Speaks, SpeaksNoted, Spoke, held_of, noted_in, totals_values}, Written.{length_value}}

-- two calls that make the same of a builder
same_kept : (noted : ℕ) (before after after' : List ℕ) (changed : Reply Held) → Kept noted before after changed → Kept noted before after' changed → after ≡ after'
unfolding Kept
same_kept noted before after after' (given held) k k' = k.0 ∙ sym k'.0
same_kept noted before after after' (refused why) k k' = k ∙ sym k'

-- a number and reply words, state words and lists, twice
pub record Same (number number' : ℕ) (words words' state state' : List ℕ) (lists lists' : Lists) : Type 0 where
  pub numbers : number ≡ number'
  pub replies : words ≡ words'
  pub states : state ≡ state'
  pub all_lists : lists ≡ lists'

module _ (before : List ℕ) (lists lists' : Lists) {state state' words words' : List ℕ} {number number' : ℕ} where
  said_same : (changed changed' : Reply Held) (noted noted' : ℕ) → changed ≡ changed' → noted ≡ noted' → lists ≡ lists' → Spoke changed noted before state number words
      → Spoke changed' noted' before state' number' words' → Same number number' words words' state state' lists lists'
  said_same changed changed' noted noted' same same_noted all s s' =
      let said = s.said ∙ (ap (λ (r : Reply Held). said_of totals_values r) same ∙ sym s'.said) in
      let kept = subst (λ (n : ℕ). Kept n before state changed') same_noted (subst (Kept noted before state) same s.kept) in
      record { numbers = ap (λ (x : Said). x.number) said; replies = ap (λ (x : Said). x.words) said; states = same_kept noted' before state state' changed' kept s'.kept; all_lists = all }

  pub same_spoken : {Promised Promised' : Held → Reply Held → Type 0} → Speaks Promised before state number words → Speaks Promised' before state' number' words'
      → ((r r' : Reply Held) → Promised (held_of before) r → Promised' (held_of before) r' → (r ≡ r') × (lists ≡ lists')) → Same number number' words words' state state' lists lists'
  same_spoken s s' one = let same = one s.changed s'.changed s.promised s'.promised in said_same s.changed s'.changed 0 0 same.0 refl same.1 s.spoke s'.spoke

  pub same_noted : {Promised Promised' : Held → ℕ → Added → Type 0} → SpeaksNoted Promised before state number words → SpeaksNoted Promised' before state' number' words'
      → ((r r' : Added) → Promised (held_of before) (noted_in before) r → Promised' (held_of before) (noted_in before) r' → (r ≡ r') × (lists ≡ lists')) →
      Same number number' words words' state state' lists lists'
  same_noted s s' one = let same = one s.added s'.added s.promised s'.promised in
      said_same s.added.changed s'.added.changed s.added.noted s'.added.noted (ap (λ (r : Added). r.changed) same.0) (ap (λ (r : Added). r.noted) same.0) same.1
      s.spoke s'.spoke

-- ---- for each exported call
-- `uskelzar_begin`, which takes no state
module _ (plan : Plan) (room : ℕ) (space : Space) (zero : List ℕ) (before after after' : Lists) {state state' words words' : List ℕ} {number number' : ℕ} where
  pub same_begin : Speaks (λ h. Begins plan room space before after) zero state number words → Speaks (λ h. Begins plan room space before after') zero state' number' words' →
      Same number number' words words' state state' after after'
  same_begin s s' = same_spoken zero after after' s s' (λ r r'. same_begun plan room space before after after' r r')

-- `uskelzar_add`, with notes that are right where its state holds a builder
module _ (held : List ℕ) (rooms : Rooms) (lent : NoteRooms) (before after after' : Lists) (notes notes₁ notes₂ : Notes) (told : ToldNoted (held_of held) (noted_in held) rooms before notes)
    {state state' words words' : List ℕ} {number number' : ℕ} where
  pub same_add : (o : Offered) (out : ℕ) → SpeaksNoted (λ h noted. Adds h noted o rooms lent out before after notes notes₁) held state number words
      → SpeaksNoted (λ h noted. Adds h noted o rooms lent out before after' notes notes₂) held state' number' words' → Same number number' words words' state state' after after'
  same_add o out s s' = same_noted held after after' s s' (λ r r'. same_added (held_of held) (noted_in held) rooms lent before notes told)

module _ (held : List ℕ) (rooms : Rooms) (before after after' : Lists) (told : Told (held_of held) rooms before) {state state' words words' : List ℕ} {number number' : ℕ} where
  -- `uskelzar_drop_last`
  pub same_drop : Speaks (λ h. Drops h rooms before after) held state number words → Speaks (λ h. Drops h rooms before after') held state' number' words' →
      Same number number' words words' state state' after after'
  same_drop s s' = same_spoken held after after' s s' (λ r r'. same_dropped (held_of held) rooms before told)

  -- `uskelzar_replace`
  pub same_replace : (out yard field : ℕ) (text : Text) → Speaks (λ h. Replaces h rooms out yard field text before after) held state number words
      → Speaks (λ h. Replaces h rooms out yard field text before after') held state' number' words' → Same number number' words words' state state' after after'
  same_replace out yard field text s s' = same_spoken held after after' s s' (λ r r'. same_replaced (held_of held) rooms before told)

  -- `uskelzar_clear`
  pub same_clear : Speaks (λ h. Clears h rooms before after) held state number words → Speaks (λ h. Clears h rooms before after') held state' number' words' →
      Same number number' words words' state state' after after'
  same_clear s s' = same_spoken held after after' s s' (λ r r'. same_cleared (held_of held) rooms before told)

-- `uskelzar_finish`: its output in place of the state and the lists, which stay
module _ (held : List ℕ) (rooms : Rooms) (lists : Lists) (room : ℕ) (out out' : List ℕ) (told : Told (held_of held) rooms lists) {words words' : List ℕ} {number number' : ℕ} where
  pub same_finish : Ends (λ h. Files h rooms lists room out) held number words → Ends (λ h. Files h rooms lists room out') held number' words' → (number ≡ number') × (words ≡ words') × (out ≡ out')
  same_finish e e' = let same = same_finished (held_of held) rooms lists told e.promised e'.promised in
      let said = e.said ∙ (ap (λ (r : Reply ℕ). said_of length_value r) same.0 ∙ sym e'.said) in
      (ap (λ (x : Said). x.number) said, ap (λ (x : Said). x.words) said, same.1)
