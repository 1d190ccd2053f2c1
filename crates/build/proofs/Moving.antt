-- Lists keep their lengths while they are lent on. Assumes nothing.
use Rattle.numbers.{proofs.Prelude.{ℕ, ◌≤◌, ◌<◌, ℤ, pos, length, take, replicate, List, ◌≡◌, ap, subst, ◌∙◌, arith}, specs.{Lists.{zeros}, Reply.{Reply, given}}}
use Rattle.builder.specs.{File.{built_of, up_to}, Yards.{Lent, plan_of}}
use Rattle.build.proofs.Ending.{drawn_fills, settled_builds}
use Rattle.build.specs.{Checked.{lent_as}, Room.{need_of, enough_for, work_of, room_of}, Whole.{Builds, Cleared}, declared.room.Work.{Work}}
use Rattle.build.specs.inner.Whole.{Drew, Fills, Settles, Starts, ends_as, file_for}

-- ---- the room of the output
pub over_top : (top room lent end : ℕ) → top ≡ up_to lent → lent ≡ room → top < end → up_to room < end
over_top top room lent end e same h = omega (arith, e, same, h)

pub under_top : (top room lent end : ℕ) → top ≡ up_to lent → lent ≡ room → end ≤ top → end ≤ up_to room
under_top top room lent end e same h = omega (arith, e, same, h)

-- ---- the end of a build, over lists that the borders were drawn with
module _ (kind version precision names : ℕ) (yards : List ℕ) (lats lons : List ℤ) (pieces lengths texts : List ℕ) (file room : ℕ) (before places bytes : List ℕ) (r : Reply ℕ)
    (s : Starts (lent_as kind version precision names yards lats lons pieces lengths texts) file room before places bytes r) (size : ℕ) (is : r ≡ given size) where
  abbrev lent : Lent
  lent = lent_as kind version precision names yards lats lons pieces lengths texts

  pub drawn_ends : (starts keys spare kept held words boxes p p' o : ℕ) → p ≡ p' → o ≡ file → (out : List ℕ) (built : Reply ℕ)
      → ((drawn : List ℕ) → Drew yards drawn places → Fills (ends_as (enough_for (work_of starts keys spare kept held words p boxes)
      (need_of names (length yards) lengths)) o (file_for (lent_as kind version precision names yards lats lons pieces lengths texts) drawn (take size bytes))) o out built)
      → Fills (built_of (plan_of lent) (room_of lent (work_of starts keys spare kept held words p' boxes) file room)) file out built
  drawn_ends starts keys spare kept held words boxes p p' o ep eo out built f =
      drawn_fills kind version precision names yards lats lons pieces lengths texts file room before places bytes r s size is (work_of starts keys spare kept
      held words p' boxes) out built (λ drawn d. subst (λ (n : ℕ). Fills (ends_as (enough_for (work_of starts keys spare kept held words p' boxes)
      (need_of names (length yards) lengths)) n (file_for (lent_as kind version precision names yards lats lons pieces lengths texts) drawn (take size bytes))) n
      out built) eo (subst (λ (n : ℕ). Fills (ends_as (enough_for (work_of starts keys spare kept held words n boxes) (need_of names (length yards) lengths)) o
      (file_for (lent_as kind version precision names yards lats lons pieces lengths texts) drawn (take size bytes))) o out built) ep (f drawn d)))

-- ---- the whole build
pub builds_as : (lent : Lent) (work : Work) (file room room' : ℕ) → room ≡ room' → (before after : List ℕ) (built r : Reply ℕ) → length before ≡ file
    → Fills (built_of (plan_of lent) (room_of lent work file room)) file before built → Settles built before after r → Builds lent (room_of lent work file room') after r
unfolding room_of
builds_as lent work file room room' e before after built r size f s =
    settled_builds lent (room_of lent work file room') before after built r size (subst (λ (n : ℕ). Fills (built_of (plan_of lent) (room_of lent work file n)) file before built) e f) s

module _ (starts keys spare kept held words places : List ℕ) (boxes : List ℤ) (bytes : List ℕ) (a b c d e f g h i a' b' c' d' e' f' g' h' i' : ℕ) where
  pub cleared_as : a ≡ a' → b ≡ b' → c ≡ c' → d ≡ d' → e ≡ e' → f ≡ f' → g ≡ g' → h ≡ h' → i ≡ i'
      → Cleared (work_of a b c d e f g h) i starts keys spare kept held words places boxes bytes → Cleared (work_of a' b' c' d' e' f' g' h') i' starts keys spare kept held words places boxes bytes
  cleared_as ea eb ec ed ee ef eg eh ei all = record {
    starts_zero = all.starts_zero ∙ ap zeros ea;
    keys_zero = all.keys_zero ∙ ap zeros eb;
    spare_zero = all.spare_zero ∙ ap zeros ec;
    kept_zero = all.kept_zero ∙ ap zeros ed;
    held_zero = all.held_zero ∙ ap zeros ee;
    words_zero = all.words_zero ∙ ap zeros ef;
    places_zero = all.places_zero ∙ ap zeros eg;
    boxes_zero = all.boxes_zero ∙ ap (λ (n : ℕ). replicate n (pos 0)) eh;
    bytes_zero = all.bytes_zero ∙ ap zeros ei;
  }
