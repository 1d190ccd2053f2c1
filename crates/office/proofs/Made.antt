-- After exported calls, answered or refused, words 8 to 12 of a builder's state are the totals of the yards that were added and not taken away; a refused call changes nothing. Assumes nothing.
use Rattle.numbers.proofs.Prelude.{ℕ, ◌-◌, ◌^◌, ◌<◌, eq-eqb, ne_eqb, ltb, leb, length, take, get_or, true, false, ◌&&◌, List, [], ◌∷◌, ◌++◌, inl, inr, ◌↔◌, ◌≡◌, refl, sym, ap, subst, ◌∙◌}
use Rattle.numbers.proofs.Prelude.{w32, of_z, arith}
use Rattle.numbers.{proofs.{Replies.{demanded}, Saying.{Answered}, Tests.{both}}, specs.{Lists.{zeros}, Reply.{Reply, given, refused, plain}, Spoken.{said_of}, declared.refusal.Refusal.{Refusal}}}
use Rattle.numbers.specs.declared.said.Said.{Said}
use Rattle.add.{proofs.growing.Wider.{noted_by_wider}, specs.{Adding.Adds.{space_for}, Growing.Notes.{Notes}, declared.{adding.room.NoteRooms.{NoteRooms}, growing.grow.Added.{Added}}}}
use Rattle.builder.{proofs.drawing.Lending.{never_given}, specs.{Borders.{drawn_of}, File.{built_of, head_of, is_text, known, readable, up_to}, Yards.{Plan, Text, Yard}}}
use Rattle.edit.specs.Changing.{Begun.{Begins, blank}, Dropped.{left_space}}
use Rattle.draft.proofs.held.{Adds.{add_given}, Ends.{finish_builds}, Wider.{holds_wider}}
use Rattle.writer.specs.Writer.{every}
use Rattle.draft.specs.Held.{Builder.{Builder, Offered, add, begin, changed_at, clear, drop_last, fitting, holding, joined, replace, summed, with_value, yard_of}, Space.{Space, standing}}
use Rattle.draft.specs.{Held.{Sound.{room_for}, State.{Answers, Lists, held_as}, Totals.{data_of, drawn_or, file_size, totals_for, totals_of}}, Summed.Ends.{Files, Finishes, space_of}}
use Rattle.draft.specs.declared.held.{room.Rooms.{Rooms}, state.Held.{Held}}
use Rattle.office.proofs.{NotedDrafts.{Lasts, LastsOn, add_lasts, kept_lasts, noted_back}, NumberedDrafts.{add_zero, begin_zero, drop_zero, replace_zero}}
use Rattle.office.specs.Calls.{Called, Made, Shelf, TotalsIn, adds, begun, called, clears, drops, grown, replaces, yards_after}
use Rattle.office.specs.Draft.{Ends, Kept, Speaks, Spoke, held_of, noted_in, totals_values, words_of}
use Rattle.edit.specs.Replacing.Replaced as Replacing

-- ---- what the definition's calls give, where they give a builder
module _ (b : Builder) where
  drop_gives : (space : Space) (next : Builder) → drop_last b space ≡ given next → next ≡ summed (holding b.plan (take (length b.plan.yards - 1) b.plan.yards)) b.room
  unfolding drop_last
  drop_gives space next e = let one = demanded (ltb 0 (length b.plan.yards)) (plain 29) (sym e) in let two = demanded space.lists (plain 28) one.1 in
      let onto = two.1 in cc

  replace_gives : (yard field : ℕ) (text : Text) (space : Space) (next : Builder) → replace b yard field text space ≡ given next
      → next ≡ summed (holding b.plan (changed_at yard (with_value field text) b.plan.yards)) b.room
  unfolding replace fitting
  replace_gives yard field text space next e =
      let all : Builder = summed (holding b.plan (changed_at yard (with_value field text) b.plan.yards)) b.room in
      let one = demanded (ltb yard (length b.plan.yards) && ltb field (length b.plan.names)) (plain 30) (sym e) in
      let two = demanded (is_text text) (plain 26) one.1 in
      let three = demanded (space.lists && leb (file_size (length (head_of all.plan)) all.totals) (up_to all.room)) (plain 28) two.1 in
      let onto = three.1 in cc

begin_gives : (plan : Plan) (room : ℕ) (space : Space) (b : Builder) → begin plan room space ≡ given b → b ≡ summed (holding plan []) room
unfolding begin
begin_gives plan room space b e = let one = demanded (leb (length plan.names) 255 && plan.numbered) (plain 25) (sym e) in
    let two = demanded (readable (holding plan [])) (plain 26) one.1 in let three = demanded (known plan) (plain 27) two.1 in
    let four = demanded space.lists (plain 28) three.1 in let onto = four.1 in cc

-- ---- what a call comes to
-- no other bit of the words is set
abbrev Worded : List ℕ → Type 0
Worded state = state ≡ words_of (held_of state) (noted_in state)

words_stay : (noted : ℕ) (before after : List ℕ) (changed : Reply Held) → Kept noted before after changed → Worded before → Worded after
unfolding Kept
words_stay noted before after (given held) (words, back) worded =
    words ∙ (ap (λ (h : Held). words_of h noted) (sym back) ∙ ap (λ (n : ℕ). words_of (held_of after) n) (sym (noted_back held noted after words)))
words_stay noted before after (refused why) same worded = subst Worded (sym same) worded

shelf_one : (one other : Shelf) → one.state ≡ other.state → one.lists ≡ other.lists → one.notes ≡ other.notes → one ≡ other
shelf_one one other state lists notes =
    ap (λ (x : List ℕ). record { state = x; lists = one.lists; notes = one.notes }) state ∙ (ap (λ (x : Lists). record { state = other.state; lists = x; notes = one.notes }) lists
    ∙ ap (λ (x : Notes). record { state = other.state; lists = other.lists; notes = x }) notes)

-- the same type, version, precision, names and notice
pub record Alike (one other : Plan) : Type 0 where
  pub kind : one.kind ≡ other.kind
  pub version : one.version ≡ other.version
  pub precision : one.precision ≡ other.precision
  pub names : one.names ≡ other.names
  pub notice : one.notice ≡ other.notice

alike_made : (next : Builder) (made plan : Plan) (room : ℕ) → next ≡ summed made room → Alike made plan → Alike next.plan plan
unfolding summed
alike_made next made plan room e a = subst (λ (x : Builder). Alike x.plan plan) (sym e) a

held_alike : (plan : Plan) (yards : List Yard) → Alike (holding plan yards) plan
held_alike plan yards = record { kind = refl; version = refl; precision = refl; names = refl; notice = refl }

alike_held : (plan : Plan) (yards : List Yard) → Alike plan (holding plan yards)
alike_held plan yards = record { kind = refl; version = refl; precision = refl; names = refl; notice = refl }

joined_alike : (plan : Plan) (o : Offered) → Alike (joined plan o) plan
unfolding joined
joined_alike plan o = record { kind = refl; version = refl; precision = refl; names = refl; notice = refl }

alike_on : {one two three : Plan} → Alike one two → Alike two three → Alike one three
alike_on a b =
    record { kind = a.kind ∙ b.kind; version = a.version ∙ b.version; precision = a.precision ∙ b.precision; names = a.names ∙ b.names; notice = a.notice ∙ b.notice }

plan_one : (one other : Plan) → Alike one other → one.yards ≡ other.yards → one.numbered ≡ other.numbered → one.whole ≡ other.whole → one ≡ other
plan_one one other a yards numbered whole = λ i. record {
  kind = a.kind i;
  version = a.version i;
  precision = a.precision i;
  names = a.names i;
  notice = a.notice i;
  yards = yards i;
  numbered = numbered i;
  whole = whole i;
}

-- it returned 0 and left another builder, with the yards that it makes of these; or it returned another number and left all as it was
data Outcome (b : Builder) (found left : Shelf) (number : ℕ) (change : List Yard → List Yard) : Type 0 where
  into : (next : Builder) → number ≡ 0 → Lasts next left.state left.lists left.notes → Alike next.plan b.plan → next.plan.yards ≡ change b.plan.yards
      → Outcome b found left number change
  stays : (number ≡ 0 → ⊥) → left ≡ found → Outcome b found left number change

module _ (b : Builder) (found left : Shelf) (number : ℕ) (change : List Yard → List Yard) where
  never_both : {reply : Reply Builder} {why : Refusal} → reply ≡ refused why → Answered reply → ⊥
  never_both is answered = never_given _ _ (sym is ∙ answered.1)

  changed_outcome : (reply : Reply Builder) (changed : Reply Held) → Answers reply found.lists left.lists changed → Kept 0 found.state left.state changed → (number ≡ 0) ↔ Answered reply
      → ((next : Builder) → reply ≡ given next → Alike next.plan b.plan × (next.plan.yards ≡ change b.plan.yards)) → left.notes ≡ found.notes
      → Outcome b found left number change
  unfolding Answers Kept
  changed_outcome reply (given held) (next, (is, (holds, rooms))) kept zero gives notes =
      into next (zero.1 (next, is)) (kept_lasts next found.state left.state left.lists left.notes held kept holds) (gives next is).0 (gives next is).1
  changed_outcome reply (refused why) (is, lists) kept zero gives notes = stays (λ z. never_both is (zero.0 z)) (shelf_one left found kept lists notes)

add_outcome : (b : Builder) (o : Offered) (rooms : Rooms) (lent : NoteRooms) (out : ℕ) (found left : Shelf) (number : ℕ)
    → (number ≡ 0) ↔ Answered (add b o (space_for (held_of found.state) rooms lent o out))
    → LastsOn b o rooms lent out found.state left.state found.lists left.lists found.notes left.notes → Outcome b found left number (λ yards. yards ++ (yard_of o ∷ []))
unfolding summed joined
add_outcome b o rooms lent out found left number zero (inl (next, (is, on))) =
    let made = (add_given b o (space_for (held_of found.state) rooms lent o out) next is).is in
    into next (zero.1 (next, is)) on (alike_made next (joined b.plan o) b.plan b.room made (joined_alike b.plan o)) (ap (λ (x : Builder). x.plan.yards) made)
add_outcome b o rooms lent out found left number zero (inr (why, (is, (state, (lists, notes))))) = stays (λ z. never_given _ _ (sym is ∙ (zero.0 z).1)) (shelf_one left found state lists notes)

clear_zero : (b : Builder) (words : List ℕ) (number : ℕ) (lists lists' : Lists) (changed : Reply Held) → Answers (given (clear b)) lists lists' changed
    → record { number = number; words = words } ≡ said_of totals_values changed → (number ≡ 0) ↔ Answered (given (clear b))
unfolding Answers said_of
clear_zero b words number lists lists' (given held) answers said = ((λ z. (clear b, refl)), (λ answered. ap (λ (x : Said). x.number) said))
clear_zero b words number lists lists' (refused why) (is, same) said = absurd (never_given why (clear b) (sym is))

module _ (b : Builder) (found left : Shelf) (number : ℕ) (lasts : Lasts b found.state found.lists found.notes) where
  outcome : (change : List Yard → List Yard) → Called found left number change → Outcome b found left number change
  unfolding summed clear
  outcome change (adds o rooms lent out words s) =
      add_outcome b o rooms lent out found left number (add_zero found.state o rooms lent out found.lists left.lists found.notes left.notes s b lasts.holds lasts.noted)
      (add_lasts b o rooms lent out found.state left.state found.lists left.lists found.notes left.notes s lasts)
  outcome change (drops rooms words s notes) = let space : Space = left_space (held_of found.state) rooms found.lists.lengths in
      changed_outcome b found left number change (drop_last b space) s.changed (s.promised.answers b lasts.holds) s.spoke.kept
      (drop_zero found.state rooms found.lists left.lists s b lasts.holds)
      (λ next e. let made = drop_gives b space next e in let fewer : List Yard = take (length b.plan.yards - 1) b.plan.yards in
      (alike_made next (holding b.plan fewer) b.plan b.room made (held_alike b.plan fewer), ap (λ (x : Builder). x.plan.yards) made)) notes
  outcome change (replaces rooms out yard field text words s notes) = let space : Space = Replacing.space_for rooms out b.plan yard field text in
      changed_outcome b found left number change (replace b yard field text space) s.changed (s.promised.answers b lasts.holds) s.spoke.kept
      (replace_zero found.state rooms out yard field text found.lists left.lists s b lasts.holds)
      (λ next e. let made = replace_gives b yard field text space next e in let other : List Yard = changed_at yard (with_value field text) b.plan.yards in
      (alike_made next (holding b.plan other) b.plan b.room made (held_alike b.plan other), ap (λ (x : Builder). x.plan.yards) made)) notes
  outcome change (clears rooms words s notes) = let answers = s.promised.answers b lasts.holds in
      changed_outcome b found left number change (given (clear b)) s.changed answers s.spoke.kept (clear_zero b words number found.lists left.lists s.changed answers s.spoke.said)
      (λ next e. let same : next ≡ clear b = cc in (alike_made next (holding b.plan []) b.plan b.room same (held_alike b.plan []), ap (λ (x : Builder). x.plan.yards) same)) notes

  worded : (change : List Yard → List Yard) → Called found left number change → Worded found.state → Worded left.state
  worded change (adds o rooms lent out words s) w = words_stay s.added.noted found.state left.state s.added.changed s.spoke.kept w
  worded change (drops rooms words s notes) w = words_stay 0 found.state left.state s.changed s.spoke.kept w
  worded change (replaces rooms out yard field text words s notes) w = words_stay 0 found.state left.state s.changed s.spoke.kept w
  worded change (clears rooms words s notes) w = words_stay 0 found.state left.state s.changed s.spoke.kept w

-- ---- what holds behind every call: the state and the lists hold a builder of these yards
pub record Reached (plan : Plan) (yards : List Yard) (s : Shelf) : Type 0 where
  pub b : Builder
  pub lasts : Lasts b s.state s.lists s.notes
  pub worded_is : Worded s.state
  pub form : Alike b.plan plan
  pub numbered : plan.numbered ≡ true
  pub whole : plan.whole ≡ true
  pub yards_are : b.plan.yards ≡ yards

whole_read : (plan : Plan) → readable plan ≡ true → plan.whole ≡ true
unfolding readable
whole_read plan e = (both plan.whole (every is_text plan.names && (is_text plan.notice && every (λ y. every is_text y.values) plan.yards)) e).0

begun_reached : (plan : Plan) (room : ℕ) (space : Space) (before : Lists) (s : Shelf) (changed : Reply Held) → Begins plan room space before s.lists changed
    → Kept 0 (zeros 14) s.state changed → Answered (begin plan room space) → Reached plan [] s
unfolding Begins Kept summed
begun_reached plan room space before s (given held) (b, (is, (holds, rooms))) kept answered = let made = begin_gives plan room space b is in record {
  b = b;
  lasts = kept_lasts b (zeros 14) s.state s.lists s.notes held kept holds;
  worded_is = kept.0 ∙ (ap (λ (h : Held). words_of h 0) (sym kept.1) ∙ ap (λ (n : ℕ). words_of (held_of s.state) n) (sym (noted_back held 0 s.state kept.0)));
  form = alike_made b (holding plan []) plan room made (held_alike plan []);
  numbered = sym (ap (λ (x : Builder). x.plan.numbered) made) ∙ holds.sound.numbered;
  whole = sym (ap (λ (x : Builder). x.plan.whole) made) ∙ whole_read b.plan holds.sound.texts;
  yards_are = ap (λ (x : Builder). x.plan.yards) made;
}
begun_reached plan room space before s (refused why) (is, lists) kept answered = absurd (never_given _ _ (sym is ∙ answered.1))

zero_after : (number : ℕ) (changed yards : List Yard) → number ≡ 0 → changed ≡ yards_after number changed yards
unfolding yards_after
zero_after number changed yards e = rw (eq-eqb number 0 e) refl

other_after : (number : ℕ) (changed yards : List Yard) → (number ≡ 0 → ⊥) → yards ≡ yards_after number changed yards
unfolding yards_after
other_after number changed yards e = rw (ne_eqb number 0 e) refl

called_reached : (plan : Plan) (yards : List Yard) (found left : Shelf) (number : ℕ) (change : List Yard → List Yard) (r : Reached plan yards found)
    → Worded left.state → Outcome r.b found left number change → Reached plan (yards_after number (change yards) yards) left
called_reached plan yards found left number change r w (into next zero lasts form changed) =
    record {
      b = next;
      lasts = lasts;
      worded_is = w;
      form = alike_on form r.form;
      numbered = r.numbered;
      whole = r.whole;
      yards_are = changed ∙ (ap change r.yards_are ∙ zero_after number (change yards) yards zero);
    }
called_reached plan yards found left number change r w (stays other same) =
    subst (Reached plan (yards_after number (change yards) yards)) (sym same)
    (record {
      b = r.b;
      lasts = r.lasts;
      worded_is = r.worded_is;
      form = r.form;
      numbered = r.numbered;
      whole = r.whole;
      yards_are = r.yards_are ∙ other_after number (change yards) yards other;
    })

pub reached : (plan : Plan) (room : ℕ) (yards : List Yard) (s : Shelf) → Made plan room yards s → Reached plan yards s
reached plan room yards s (begun space before words shelf speaks) =
    begun_reached plan room space before shelf speaks.changed speaks.promised speaks.spoke.kept ((begin_zero plan room space before shelf.lists speaks).0 refl)
reached plan room yards s (called yards' found left number change made call) = let r = reached plan room yards' found made in
    called_reached plan yards' found left number change r (worded r.b found left number r.lasts change call r.worded_is) (outcome r.b found left number r.lasts change call)
reached plan room yards s (grown yards' shelf more more_notes made) = let r = reached plan room yards' shelf made in record {
  b = r.b;
  lasts = record {
    holds = holds_wider more r.b (held_of shelf.state) shelf.lists r.lasts.holds;
    noted = noted_by_wider more_notes (held_of shelf.state).names r.b.plan.yards (noted_in shelf.state) shelf.notes r.lasts.noted;
  };
  worded_is = r.worded_is;
  form = r.form;
  numbered = r.numbered;
  whole = r.whole;
  yards_are = r.yards_are;
}

-- ---- the theorems
totals_alike : (p q : Plan) → p.version ≡ q.version → p.yards ≡ q.yards → totals_of p ≡ totals_of (holding q q.yards)
unfolding totals_of data_of
totals_alike p q version yards =
    ap (λ (l : List Yard). totals_for l (drawn_or (drawn_of p.version (2 ^ 30) l))) yards ∙ ap (λ (v : ℕ). totals_for q.yards (drawn_or (drawn_of v (2 ^ 30) q.yards))) version

totals_in : (b : Builder) (state : List ℕ) → held_of state ≡ held_as b → Worded state → TotalsIn state b.totals
unfolding held_of words_of
totals_in b state is w =
    record {
      table = ap (λ (h : Held). h.table) is;
      metadata = ap (λ (h : Held). h.metadata) is;
      bytes = ap (λ (h : Held). h.bytes) is;
      yards = ap (λ (h : Held). h.yards) is;
      greatest = ap (λ (l : List ℕ). get_or l 12 0) w ∙ ap (λ (h : Held). of_z w32 h.greatest) is;
    }

-- After every sequence of calls, answered or refused, words 8 to 12 of the state are the totals of the yards that were added and not taken away.
pub totals_fresh : (plan : Plan) (room : ℕ) (yards : List Yard) (s : Shelf) → Made plan room yards s → TotalsIn s.state (totals_of (holding plan yards))
totals_fresh plan room yards s made = let r = reached plan room yards s made in
    subst (TotalsIn s.state) (r.lasts.holds.fresh ∙ totals_alike r.b.plan (holding plan yards) r.form.version r.yards_are)
    (totals_in r.b s.state r.lasts.holds.is r.worded_is)

-- the plan that is held is the one that was begun, with the yards that it has now
plan_held : (plan : Plan) (yards : List Yard) (s : Shelf) (r : Reached plan yards s) → r.b.plan ≡ holding plan yards
plan_held plan yards s r = let sound = r.lasts.holds.sound in
    plan_one r.b.plan (holding plan yards) (alike_on r.form (alike_held plan yards)) r.yards_are (sound.numbered ∙ sym r.numbered)
    (whole_read r.b.plan sound.texts ∙ sym r.whole)

-- After every sequence of calls, answered or refused, the end leaves what building the yards that are held gives, and is refused as that is.
pub finish_made : (plan : Plan) (room : ℕ) (yards : List Yard) (s : Shelf) → Made plan room yards s → (rooms : Rooms) (size : ℕ) (out : List ℕ) (number : ℕ) (words : List ℕ)
    → Ends (λ h. Files h rooms s.lists size out) s.state number words
    → Ends (λ h. Finishes (built_of (holding plan yards) (room_for size (record { bytes = size; lists = (space_of h rooms).lists }))) size out) s.state number words
finish_made plan room yards s made rooms size out number words e = let r = reached plan room yards s made in let holds = r.lasts.holds in
    let space : Space = space_of (held_of s.state) rooms in
    record {
      built = e.built;
      promised =
          subst (λ (reply : Reply (List ℕ)). Finishes reply size out e.built) (finish_builds r.b holds.sound holds.fresh size space
          ∙ ap (λ (p : Plan). built_of p (room_for size (record { bytes = size; lists = space.lists }))) (plan_held plan yards s r)) (e.promised.answers r.b holds);
      said = e.said;
    }

stays_same : (b : Builder) (found left : Shelf) (number : ℕ) (change : List Yard → List Yard) → (number ≡ 0 → ⊥) → Outcome b found left number change → left ≡ found
stays_same b found left number change other (into next zero lasts form changed) = absurd (other zero)
stays_same b found left number change other (stays never same) = same

-- A call that returns no 0 leaves state, lists and notes as they were.
pub refused_changes_nothing : (plan : Plan) (room : ℕ) (yards : List Yard) (found left : Shelf) (number : ℕ) (change : List Yard → List Yard) → Made plan room yards found
    → Called found left number change → (number ≡ 0 → ⊥) → left ≡ found
refused_changes_nothing plan room yards found left number change made call other = let r = reached plan room yards found made in
    stays_same r.b found left number change other (outcome r.b found left number r.lasts change call)

-- ---- a begin that is refused
-- It leaves zeros.
pub refused_begin_zeros : (plan : Plan) (room : ℕ) (space : Space) (before after : Lists) (state words : List ℕ) (number : ℕ)
    → Speaks (λ h. Begins plan room space before after) (zeros 14) state number words → (number ≡ 0 → ⊥) → (state ≡ zeros 14) × (after ≡ blank before)
unfolding Begins Kept
refused_begin_zeros plan room space before after state words number s other =
    go s.changed s.promised s.spoke.kept (λ answered. other ((begin_zero plan room space before after s).1 answered)) where
      go : (changed : Reply Held) → Begins plan room space before after changed → Kept 0 (zeros 14) state changed → (Answered (begin plan room space) → ⊥) → (state ≡ zeros 14) × (after ≡ blank before)
      go (given held) (b, (is, holds)) kept never = absurd (never (b, is))
      go (refused why) (is, lists) kept never = (kept, lists)

-- The zeros that it leaves are no builder.
pub zeros_stand_not : (rooms : Rooms) → standing (held_of (zeros 14)) rooms ≡ false
unfolding standing held_of
zeros_stand_not rooms = refl

broken_says : (n noted : ℕ) {changed : Reply Held} {before after words : List ℕ} {number : ℕ} → changed ≡ refused (plain n) → Spoke changed noted before after number words
    → (number ≡ n) × (after ≡ before)
unfolding Kept said_of
broken_says n noted {changed} {before} {after} is s = (
  ap (λ (x : Said). x.number) (s.said ∙ ap (λ (c : Reply Held). said_of totals_values c) is),
  subst (λ (c : Reply Held). Kept noted before after c) is s.kept,
)

-- So every call behind it is refused, 29 for a drop and else 28, and changes nothing.
pub zeros_are_refused : (found left : Shelf) (number : ℕ) (change : List Yard → List Yard) → found.state ≡ zeros 14 → Called found left number change → (27 < number) × (left ≡ found)
zeros_are_refused found left number change zero call = go change call (λ rooms. subst (λ (l : List ℕ). standing (held_of l) rooms ≡ false) (sym zero) (zeros_stand_not rooms)) where
  go : (change : List Yard → List Yard) → Called found left number change → ((rooms : Rooms) → standing (held_of found.state) rooms ≡ false) → (27 < number) × (left ≡ found)
  go change (adds o rooms lent out words s) low = let p = s.promised.stands_not (low rooms) in
      let says = broken_says 28 s.added.noted (ap (λ (r : Added). r.changed) p.0) s.spoke in
      (omega (arith, says.0), shelf_one left found says.1 p.1.0 p.1.1)
  go change (drops rooms words s notes) low = let p = s.promised.broken (low rooms) in let says = broken_says 29 0 p.0 s.spoke in
      (omega (arith, says.0), shelf_one left found says.1 p.1 notes)
  go change (replaces rooms out yard field text words s notes) low = let p = s.promised.fallen (low rooms) in
      let says = broken_says 28 0 p.0 s.spoke in (omega (arith, says.0), shelf_one left found says.1 p.1 notes)
  go change (clears rooms words s notes) low = let p = s.promised.broken (low rooms) in let says = broken_says 28 0 p.0 s.spoke in
      (omega (arith, says.0), shelf_one left found says.1 p.1 notes)
