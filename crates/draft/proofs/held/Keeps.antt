-- Every builder that calls have made is sound, so the theorems on adds and ends hold of it. Assumes nothing.
use Rattle.numbers.proofs.Prelude.{ℕ, ◌-◌, ◌≤◌, ltb-true, ltb, leb, length, take, Bool, true, false, ◌&&◌, List, [], ◌∷◌, ◌≡◌, refl, sym, subst, arith}
use Rattle.numbers.{proofs.{Replies.{demanded}, Tests.{both}}, specs.{Reply.{Reply, given, refused, plain, demand, ◌>>=◌, ◌>>◌}, declared.refusal.Refusal.{Refusal}}}
use Rattle.builder.specs.{Borders.{drawn_from, drawn_of}, File.{borders_good, built_of, head_of, is_text, known, readable, up_to}, Yards.{Text, Plan}}
use Rattle.writer.specs.Writer.{every}
use Rattle.draft.proofs.held.{Adds.{Added, add_given, add_refuses_as_build, added_sound}, Ends.{finish_builds}, Fresh.{ran_from_fresh}, Kept.{cleared_sound, dropped_sound, replaced_sound}}
use Rattle.draft.specs.Held.Builder.{Builder, Offered, holding, joined, changed_at, with_value, summed, fitting, begin, add, drop_last, replace, clear, finish}
use Rattle.draft.specs.Held.{Calls.{Call, add_yard, drop_yard, replace_value, clear_all, called, after, ran}, Sound.{Sound, room_for}, Space.{Space}, Totals.{data_of, file_size}}

-- ---- what a call gives is sound
unfoldable Keeps : Reply Builder → Type 0
Keeps (given b) = Sound b.plan b.room
Keeps (refused why) = Unit {0}

past : (test : Bool) (why : Refusal) (next : Reply Builder) → (test ≡ true → Keeps next) → Keeps (demand test why >> next)
unfolding Keeps
past true why next h = h refl
past false why next h = tt

summed_keeps : (plan : Plan) (room : ℕ) → Sound plan room → Keeps (given (summed plan room))
unfolding Keeps summed
summed_keeps plan room s = s

fitting_keeps : (space : Space) (plan : Plan) (room : ℕ) → Sound plan room → Keeps (fitting space (summed plan room))
unfolding fitting
fitting_keeps space plan room s =
    past (space.lists && leb (file_size (length (head_of (summed plan room).plan)) (summed plan room).totals) (up_to (summed plan room).room)) (plain 28) (given (summed plan room))
    (λ e. summed_keeps plan room s)

given_keeps : (r : Reply Builder) → ((next : Builder) → r ≡ given next → Sound next.plan next.room) → Keeps r
unfolding Keeps
given_keeps (given next) h = h next refl
given_keeps (refused why) h = tt

module _ (b : Builder) (sound : Sound b.plan b.room) where
  add_keeps : (o : Offered) (space : Space) → Keeps (add b o space)
  unfolding summed
  add_keeps o space =
      given_keeps (add b o space)
      (λ next e. let a : Added b o space next = add_given b o space next e in subst (λ (x : Builder). Sound x.plan x.room) (sym a.is) (added_sound b sound o space next a))

  drop_keeps : (space : Space) → Keeps (drop_last b space)
  unfolding drop_last
  drop_keeps space = let left : ℕ = length b.plan.yards - 1 in let fewer : Plan = holding b.plan (take left b.plan.yards) in
      past (ltb 0 (length b.plan.yards)) (plain 29) (demand space.lists (plain 28) >> given (summed fewer b.room)) (λ e. past space.lists
      (plain 28) (given (summed fewer b.room)) (λ t. summed_keeps fewer b.room (dropped_sound b.plan b.room sound left (omega (arith, ltb-true 0 (length b.plan.yards) e)))))

  replace_keeps : (yard field : ℕ) (text : Text) (space : Space) → Keeps (replace b yard field text space)
  unfolding replace
  replace_keeps yard field text space = let changed : Plan = holding b.plan (changed_at yard (with_value field text) b.plan.yards) in
      past (ltb yard (length b.plan.yards) && ltb field (length b.plan.names)) (plain 30) (demand (is_text text) (plain 26) >> fitting space (summed changed b.room))
      (λ e. past (is_text text) (plain 26) (fitting space (summed changed b.room)) (λ t. fitting_keeps space changed b.room (replaced_sound b.plan b.room sound yard field text t)))

  called_keeps : (call : Call) → Keeps (called b call)
  unfolding called clear
  called_keeps (add_yard o space) = add_keeps o space
  called_keeps (drop_yard space) = drop_keeps space
  called_keeps (replace_value yard field text space) = replace_keeps yard field text space
  called_keeps clear_all = summed_keeps (holding b.plan []) b.room (cleared_sound b.plan b.room sound)

after_keeps : (b : Builder) (reply : Reply Builder) → Sound b.plan b.room → Keeps reply → Sound (after b reply).plan (after b reply).room
unfolding Keeps after
after_keeps b (given next) h k = k
after_keeps b (refused why) h k = h

ran_sound : (b : Builder) (calls : List Call) → Sound b.plan b.room → Sound (ran b calls).plan (ran b calls).room
unfolding ran
ran_sound b [] h = h
ran_sound b (call ∷ calls) h = ran_sound (after b (called b call)) calls (after_keeps b (called b call) h (called_keeps b h call))

-- ---- the first one
pub begin_sound : (plan : Plan) (room : ℕ) (names : leb (length plan.names) 255 ≡ true) (numbered : plan.numbered ≡ true) (texts : readable (holding plan []) ≡ true)
    (form : known plan ≡ true) → Sound (holding plan []) room
unfolding borders_good drawn_of drawn_from every known
begin_sound plan room names numbered texts form =
    record { borders = refl; few = omega arith; named = names; numbered = numbered; valued = refl; texts = texts; form = form; drawn = record { bytes = 0 ∷ []; places = [] }; draws = refl }

pub begun_sound : (plan : Plan) (room : ℕ) (space : Space) (b : Builder) → begin plan room space ≡ given b → Sound b.plan b.room
unfolding begin summed
begun_sound plan room space b e = let one = demanded (leb (length plan.names) 255 && plan.numbered) (plain 25) (sym e) in
    let two = demanded (readable (holding plan [])) (plain 26) one.1 in let three = demanded (known plan) (plain 27) two.1 in
    let four = demanded space.lists (plain 28) three.1 in let onto = four.1 in let same : b ≡ summed (holding plan []) room = cc in
    let names = both (leb (length plan.names) 255) plan.numbered one.0 in
    subst (λ (x : Builder). Sound x.plan x.room) (sym same) (begin_sound plan room names.0 names.1 two.0 three.0)

-- ---- after every sequence of calls
module _ (plan : Plan) (room : ℕ) (space : Space) (b : Builder) (begun : begin plan room space ≡ given b) (calls : List Call) where
  abbrev here : Builder
  here = ran b calls

  pub reached_sound : Sound here.plan here.room
  reached_sound = ran_sound b calls (begun_sound plan room space b begun)

  -- an add is refused exactly as building the yards held and the new one would be, where the data held fits the room lent: a builder's data fits its own list, so `out` must be as long.
  -- In a shorter one an add is refused too, but 23 for a bad piece comes first, where a build of all yards gives 28 for the data
  pub reached_add : (o : Offered) (lent : Space) → length (data_of here.plan).bytes ≤ lent.bytes
      → add here o lent ≡ (built_of (joined here.plan o) (room_for here.room lent) >>= λ file. given (summed (joined here.plan o) here.room))
  reached_add o lent inside = add_refuses_as_build here reached_sound o lent inside

  -- the end gives the file that building the held yards gives, or is refused as that is
  pub reached_finish : (out : ℕ) (lent : Space) → finish here out lent ≡ built_of here.plan (room_for out (record { bytes = out; lists = lent.lists }))
  reached_finish out lent = finish_builds here reached_sound (ran_from_fresh plan room space b begun calls) out lent
