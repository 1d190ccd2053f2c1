-- What the promises of a builder's calls fix: two replies that one permits are equal, with every list. Assumes nothing.
use Rattle.numbers.{proofs.Prelude.{ℕ, pos, length, false, List, ◌⊎◌, inl, inr, ◌≡◌, sym, ap, subst, ◌∙◌}, specs.{Reply.{Reply, given, refused, plain}, declared.refusal.Refusal.{Refusal}}}
use Rattle.add.specs.{Adding.Adds.{Adds}, Growing.{Joins.{Renoted}, Notes.{Notes, Noted, NotedBy, notes_as}}, declared.{adding.room.NoteRooms.{NoteRooms}, growing.grow.Added.{Added}}}
use Rattle.builder.{proofs.drawing.Lending.{never_given}, specs.{File.{Replied}, Yards.{Text, Plan, Yard}}}
use Rattle.edit.{proofs.changing.Cuts.{lists_same}, specs.{Changing.{Begun.{Begins, blank}, Dropped.{Drops, left_space}, Emptied.{Clears}}, Replacing.Replaced.{Replaces}}}
use Rattle.notes.proofs.chains.Entering.{chained_one}
use Rattle.draft.{proofs.held.Fronts.{front_one}, specs.Held.{Builder.{Builder, Offered, add, begin, clear, drop_last, finish, joined, replace}, Space.{Space, standing}}}
use Rattle.draft.specs.{Held.State.{Answers, Holds, Idle, Lists, SameRooms, Works, works_as}, Summed.Ends.{Files, Finishes, space_of}}
use Rattle.draft.specs.declared.held.{room.Rooms.{Rooms}, state.Held.{Held}}
use Rattle.add.specs.Adding.Adds as Adding
use Rattle.edit.specs.Replacing.Replaced as Replacing

-- One builder lies in one way in lists of given lengths.
module _ {b : Builder} {held held' : Held} {lists lists' : Lists} where
  pub held_one : Holds b held lists → Holds b held' lists' → SameRooms lists lists' → (held ≡ held') × (lists ≡ lists')
  held_one h h' rooms = let l = h.lies in let l' = h'.lies in (
    h.is ∙ sym h'.is,
    lists_same lists.boxes lists'.boxes lists.borders lists'.borders lists.lengths lists'.lengths lists.texts lists'.texts lists.bytes lists'.bytes
        (front_one (pos 0) l'.boxes_are l.boxes_are (sym rooms.boxes))
        (front_one 0 l'.borders_are l.borders_are (sym rooms.borders))
        (front_one 0 l'.lengths_are l.lengths_are (sym rooms.lengths))
        (front_one 0 l'.texts_are l.texts_are (sym rooms.texts))
        (front_one 0 l'.bytes_are l.bytes_are (sym rooms.bytes)),
  )

-- two sets of lists that have the lengths of a third
both_same : {before after after' : Lists} → SameRooms before after → SameRooms before after' → SameRooms after after'
both_same s s' =
    record {
      boxes = s'.boxes ∙ sym s.boxes;
      borders = s'.borders ∙ sym s.borders;
      lengths = s'.lengths ∙ sym s.lengths;
      texts = s'.texts ∙ sym s.texts;
      bytes = s'.bytes ∙ sym s.bytes;
    }

-- ---- for any reply of the definition
-- its builder, in these numbers and lists
abbrev Becomes : Reply Builder → Lists → Lists → Held → Type 0
Becomes reply before after held = (b : Builder) × ((reply ≡ given b) × (Holds b held after × SameRooms before after))

-- or it is refused, and the lists are left so
abbrev Stays : Reply Builder → Lists → Lists → Refusal → Type 0
Stays reply left after why = (reply ≡ refused why) × (after ≡ left)

module _ (reply : Reply Builder) (before left after after' : Lists) where
  into_one : (held held' : Held) → Becomes reply before after held → Becomes reply before after' held' → (◌≡◌ {A = Reply Held} (given held) (given held')) × (after ≡ after')
  into_one held held' (b, (is, (holds, rooms))) (b', (is', (holds', rooms'))) = let same : b' ≡ b = cc in
      let one = held_one holds (subst (λ (x : Builder). Holds x held' after') same holds') (both_same rooms rooms') in (ap given one.0, one.1)

  stays_one : (why why' : Refusal) → Stays reply left after why → Stays reply left after' why' → (◌≡◌ {A = Reply Held} (refused why) (refused why')) × (after ≡ after')
  stays_one why why' (is, same) (is', same') = (cc, same ∙ sym same')

never_both : {A : Type 0} {reply : Reply Builder} {b : Builder} {why : Refusal} → reply ≡ given b → reply ≡ refused why → A
never_both is is' = absurd (never_given _ _ (sym is' ∙ is))

-- Two replies that are as the definition has it are equal, with every list.
pub same_answer : (reply : Reply Builder) (before after after' : Lists) (r r' : Reply Held) → Answers reply before after r → Answers reply before after' r' → (r ≡ r') × (after ≡ after')
unfolding Answers
same_answer reply before after after' (given held) (given held') a a' = into_one reply before before after after' held held' a a'
same_answer reply before after after' (given held) (refused why) a a' = never_both a.1.0 a'.0
same_answer reply before after after' (refused why) (given held) a a' = never_both a'.1.0 a.0
same_answer reply before after after' (refused why) (refused why') a a' = stays_one reply before before after after' why why' a a'

-- ---- what a promise speaks of: a builder that the state holds, or numbers that do not fit the lists
abbrev pub Told : Held → Rooms → Lists → Type 0
Told held rooms lists = ((b : Builder) × Holds b held lists) ⊎ (standing held rooms ≡ false)

-- every call but the first and the last
module _ (reply : Builder → Reply Builder) (number : ℕ) (held : Held) (rooms : Rooms) (before : Lists) where
  abbrev Answering : Lists → Reply Held → Type 0
  Answering after r = (b : Builder) → Holds b held before → Answers (reply b) before after r

  abbrev Refusing : Lists → Reply Held → Type 0
  Refusing after r = standing held rooms ≡ false → (r ≡ refused (plain number)) × (after ≡ before)

  pub same_changed : {after after' : Lists} {r r' : Reply Held} → Told held rooms before → Answering after r → Refusing after r → Answering after' r' → Refusing after' r' → (r ≡ r') × (after ≡ after')
  same_changed {after} {after'} {r} {r'} (inl (b, holds)) a n a' n' = same_answer (reply b) before after after' r r' (a b holds) (a' b holds)
  same_changed (inr broken) a n a' n' = ((n broken).0 ∙ sym (n' broken).0, (n broken).1 ∙ sym (n' broken).1)

-- ---- an add, whose notes are right where it is told of a builder
abbrev pub ToldNoted : Held → ℕ → Rooms → Lists → Notes → Type 0
ToldNoted held noted rooms lists notes = ((b : Builder) × (Holds b held lists × NotedBy held.names b.plan.yards noted notes)) ⊎ (standing held rooms ≡ false)

-- the number for the notes is one, whatever else the two lists of notes hold
noted_one : (names : ℕ) (yards : List Yard) (noted : ℕ) (notes : Notes) (n n' : ℕ) (notes₁ notes₂ : Notes) (changed : Reply Held) → Renoted names yards noted notes n notes₁ changed →
    Renoted names yards noted notes n' notes₂ changed → n ≡ n'
unfolding Renoted
noted_one names yards noted notes n n' notes₁ notes₂ (given held) one other = one.number ∙ sym other.number
noted_one names yards noted notes n n' notes₁ notes₂ (refused why) one other = one.0 ∙ sym other.0

added_one : (r r' : Added) → r.changed ≡ r'.changed → r.noted ≡ r'.noted → r ≡ r'
added_one r r' changed noted = ap (λ (c : Reply Held). record { changed = c; noted = r.noted }) changed ∙ ap (λ (n : ℕ). record { changed = r'.changed; noted = n }) noted

module _ (held : Held) (noted : ℕ) (rooms : Rooms) (lent : NoteRooms) (before : Lists) (notes : Notes) {o : Offered} {out : ℕ} {after after' : Lists} {notes₁ notes₂ : Notes} {r r' : Added} where
  pub same_added : ToldNoted held noted rooms before notes → Adds held noted o rooms lent out before after notes notes₁ r → Adds held noted o rooms lent out before after' notes notes₂ r' →
      (r ≡ r') × (after ≡ after')
  same_added (inl (b, (holds, right))) a a' = let one = a.answers b holds right in let other = a'.answers b holds right in
      let same = same_answer (add b o (Adding.space_for held rooms lent o out)) before after after' r.changed r'.changed one.0 other.0 in
      let yards : List Yard = (joined b.plan o).yards in
      let renoted = subst (λ (c : Reply Held). Renoted held.names yards noted notes r.noted notes₁ c) same.0 one.1 in
      (added_one r r' same.0 (noted_one held.names yards noted notes r.noted r'.noted notes₁ notes₂ r'.changed renoted other.1), same.1)
  same_added (inr broken) a a' = ((a.stands_not broken).0 ∙ sym (a'.stands_not broken).0, (a.stands_not broken).1.0 ∙ sym (a'.stands_not broken).1.0)

-- ---- and its notes, in lists of the same lengths
pub record SameNotes (one other : Notes) : Type 0 where
  pub marks : length one.marks ≡ length other.marks
  pub chains : length one.chains ≡ length other.chains
  pub groups : length one.groups ≡ length other.groups
  pub begins : length one.begins ≡ length other.begins

-- the notes of given yards are one
pub notes_one : (names : ℕ) (yards : List Yard) (n n' : ℕ) (one other : Notes) → Noted names yards n one → Noted names yards n' other → SameNotes one other → one ≡ other
notes_one names yards n n' one other a a' same = let l = a.lists in let l' = a'.lists in
    ap (λ (x : List ℕ). notes_as x one.chains one.groups one.begins) (front_one 0 l'.marks_are l.marks_are same.marks)
    ∙ (ap (λ (x : List ℕ). notes_as other.marks x one.groups one.begins) (chained_one _ _ _ one.chains other.chains same.chains l.indexed.fields l'.indexed.fields)
    ∙ (ap (λ (x : List ℕ). notes_as other.marks other.chains x one.begins) (chained_one _ _ _ one.groups other.groups same.groups l.indexed.records l'.indexed.records)
    ∙ ap (λ (x : List ℕ). notes_as other.marks other.chains other.groups x) (front_one 0 l'.begins_are l.begins_are same.begins)))

renoted_one : (names : ℕ) (yards : List Yard) (noted : ℕ) (notes : Notes) (n n' : ℕ) (one other : Notes) (changed : Reply Held) → Renoted names yards noted notes n one changed →
    Renoted names yards noted notes n' other changed → SameNotes one other → one ≡ other
unfolding Renoted
renoted_one names yards noted notes n n' one other (given held) a a' same = notes_one names yards n n' one other a a' same
renoted_one names yards noted notes n n' one other (refused why) a a' same = a.1 ∙ sym a'.1

module _ (held : Held) (noted : ℕ) (rooms : Rooms) (lent : NoteRooms) (before : Lists) (notes : Notes) {o : Offered} {out : ℕ} {after after' : Lists} {notes₁ notes₂ : Notes} {r r' : Added} where
  pub same_notes : ToldNoted held noted rooms before notes → Adds held noted o rooms lent out before after notes notes₁ r → Adds held noted o rooms lent out before after' notes notes₂ r' →
      SameNotes notes₁ notes₂ → notes₁ ≡ notes₂
  same_notes told a a' same = go told where
    go : ToldNoted held noted rooms before notes → notes₁ ≡ notes₂
    go (inl (b, (holds, right))) = let changed = ap (λ (x : Added). x.changed) (same_added held noted rooms lent before notes told a a').0 in
        let yards : List Yard = (joined b.plan o).yards in
        let renoted = subst (λ (c : Reply Held). Renoted held.names yards noted notes r.noted notes₁ c) changed (a.answers b holds right).1 in
        renoted_one held.names yards noted notes r.noted r'.noted notes₁ notes₂ r'.changed renoted (a'.answers b holds right).1 same
    go (inr broken) = (a.stands_not broken).1.1 ∙ sym (a'.stands_not broken).1.1

-- ---- for each other call
module _ (held : Held) (rooms : Rooms) (before : Lists) (told : Told held rooms before) {after after' : Lists} {r r' : Reply Held} where
  pub same_dropped : Drops held rooms before after r → Drops held rooms before after' r' → (r ≡ r') × (after ≡ after')
  same_dropped a a' = same_changed (λ b. drop_last b (left_space held rooms before.lengths)) 29 held rooms before told a.answers a.broken a'.answers a'.broken

  pub same_replaced : {out yard field : ℕ} {text : Text} → Replaces held rooms out yard field text before after r → Replaces held rooms out yard field text before after' r' →
      (r ≡ r') × (after ≡ after')
  same_replaced {out} {yard} {field} {text} a a' =
      same_changed (λ b. replace b yard field text (Replacing.space_for rooms out b.plan yard field text)) 28 held rooms before told a.answers a.fallen a'.answers a'.fallen

  pub same_cleared : Clears held rooms before after r → Clears held rooms before after' r' → (r ≡ r') × (after ≡ after')
  same_cleared a a' = same_changed (λ b. given (clear b)) 28 held rooms before told a.answers a.broken a'.answers a'.broken

-- what is begun asks for no state
pub same_begun : (plan : Plan) (room : ℕ) (space : Space) (before after after' : Lists) (r r' : Reply Held) → Begins plan room space before after r → Begins plan room space before after' r' →
    (r ≡ r') × (after ≡ after')
unfolding Begins
same_begun plan room space before after after' (given held) (given held') a a' = into_one (begin plan room space) before (blank before) after after' held held' a a'
same_begun plan room space before after after' (given held) (refused why) a a' = never_both a.1.0 a'.0
same_begun plan room space before after after' (refused why) (given held) a a' = never_both a'.1.0 a.0
same_begun plan room space before after after' (refused why) (refused why') a a' = stays_one (begin plan room space) before (blank before) after after' why why' a a'

-- ---- the end
pub same_end : (reply : Reply (List ℕ)) (room : ℕ) (out out' : List ℕ) (r r' : Reply ℕ) → Finishes reply room out r → Finishes reply room out' r' → (r ≡ r') × (out ≡ out')
unfolding Finishes
same_end reply room out out' r r' f f' = let e = f ∙ sym f' in (ap (λ (x : Replied). x.reply) e, ap (λ (x : Replied). x.out) e)

pub same_finished : (held : Held) (rooms : Rooms) (lists : Lists) → Told held rooms lists → {room : ℕ} {out out' : List ℕ} {r r' : Reply ℕ} → Files held rooms lists room out r →
    Files held rooms lists room out' r' → (r ≡ r') × (out ≡ out')
same_finished held rooms lists (inl (b, holds)) {room} {out} {out'} {r} {r'} f f' = same_end (finish b room (space_of held rooms)) room out out' r r' (f.answers b holds) (f'.answers b holds)
same_finished held rooms lists (inr broken) f f' = (f.broken broken ∙ sym (f'.broken broken), f.emptied (plain 28) (f.broken broken) ∙ sym (f'.emptied (plain 28) (f'.broken broken)))

-- ---- the lists that were worked in
works_one : {one other : Works} → one.starts ≡ other.starts → one.keys ≡ other.keys → one.spare ≡ other.spare → one.kept ≡ other.kept → one.held ≡ other.held →
    one.words ≡ other.words → one.places ≡ other.places → one ≡ other
works_one a b c d e f g = λ i. works_as (a i) (b i) (c i) (d i) (e i) (f i) (g i)

pub same_idle : {lent one other : Works} → Idle lent one → Idle lent other → one ≡ other
same_idle a b =
    works_one (a.starts_zero ∙ sym b.starts_zero) (a.keys_zero ∙ sym b.keys_zero) (a.spare_zero ∙ sym b.spare_zero) (a.kept_zero ∙ sym b.kept_zero)
    (a.held_zero ∙ sym b.held_zero) (a.words_zero ∙ sym b.words_zero) (a.places_zero ∙ sym b.places_zero)
