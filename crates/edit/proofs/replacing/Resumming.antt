-- The sums of a builder whose texts have changed. Assumes nothing.
use Rattle.numbers.proofs.Prelude.{ℕ, ◌+◌, ◌-◌, ◌*◌, leb, ℤ, length, take, drop, length-drop, length-take, true, false, List, ◌≡◌, refl, sym, ap, ◌∙◌, arith}
use Rattle.numbers.specs.{Reply.{Reply, given, refused, plain}, declared.refusal.Refusal.{Refusal}}
use Rattle.build.specs.{Room.{enough}, declared.room.Work.{Work}}
use Rattle.builder.specs.{Borders.{Drawn}, File.{up_to}, Yards.{Yard}}
use Rattle.draft.specs.{Held.{State.{Stands}, Totals.{file_size}}, declared.{held.state.Held.{Held}, summed.sums.Sums.{Sums}}}
use Rattle.draft.specs.inner.Summed.Sums.{Summing, SumsUp, sized, sums_of}
use Rattle.edit.proofs.replacing.Renewed.{resum_fits, resum_long}
use Rattle.edit.specs.inner.Replacing.Replaced.{Resumming, Resums, held_with, resummed, size_fits}
use Rattle.std.specs.Prelude.{Option, Some, None}

module _ (held : Held) (strings : ℕ) (sums : Sums) where
  size_is : leb (file_size held.head (sized sums.table sums.metadata held.bytes)) (up_to held.room) ≡ size_fits held sums.table sums.metadata
  unfolding size_fits
  size_is = refl

  pub settle_long : leb (file_size held.head (sized sums.table sums.metadata held.bytes)) (up_to held.room) ≡ false → (why : Refusal) → why ≡ plain 28
      → ◌≡◌ {A = Reply Held} (refused why) (resummed held strings sums.table sums.metadata sums.greatest)
  settle_long e why is = ap refused is ∙ sym (resum_long held strings sums.table sums.metadata sums.greatest (sym size_is ∙ e))

  pub settle_fits : leb (file_size held.head (sized sums.table sums.metadata held.bytes)) (up_to held.room) ≡ true → (greatest : ℤ) → greatest ≡ sums.greatest
      → ◌≡◌ {A = Reply Held} (given (held_with held strings sums.table sums.metadata greatest)) (resummed held strings sums.table sums.metadata sums.greatest)
  settle_fits e greatest is =
      ap (λ (z : ℤ). given (held_with held strings sums.table sums.metadata z)) is ∙ sym (resum_fits held strings sums.table sums.metadata sums.greatest (sym size_is ∙ e))

-- what is lent of the lists
pub summing : (held : Held) (strings : ℕ) (lengths texts : List ℕ) (borders : ℕ) (work : Work) → Resumming held strings borders (length lengths) (length texts) work
    → Summing held.names held.yards (length (take (held.names + 1 + held.names * held.yards - (held.names + 1)) (drop (held.names + 1) lengths))) borders
    (length (take (strings - held.front) (drop held.front texts))) work
summing held strings lengths texts borders work r =
    let all : length (take (held.names + 1 + held.names * held.yards - (held.names + 1)) (drop (held.names + 1) lengths)) ≡ held.names * held.yards =
    simp (length-take, length-drop) (omega (arith, r.lengths_room)) in
    let size : length (take (strings - held.front) (drop held.front texts)) ≡ strings - held.front = simp (length-take, length-drop) (omega (arith, r.texts_room, r.front_first)) in
    record { named = r.few_names; few = r.few_yards; all = all; bordered = r.borders_room; room = ap (λ (n : ℕ). enough work held.yards (held.names * held.yards) n) size ∙ r.room }

never : {A : Type 0} {a : A} → None ≡ Some a → ⊥
never e = let z : ◌≡◌ {A = ℕ} 0 1 = cc in omega arith

module _ (held : Held) (strings : ℕ) (boxes : List ℤ) (borders lengths texts : List ℕ) (s : Option Sums) {places : List ℕ}
    (sums : (yards : List Yard) (drawn : Drawn)
    → Stands yards drawn held.names held.yards boxes borders (take (held.names + 1 + held.names * held.yards - (held.names + 1)) (drop (held.names + 1) lengths))
    (take (strings - held.front) (drop held.front texts))
    → SumsUp yards drawn places s) where
  pub resums_broken : s ≡ None → (r : Reply Held) → Resums held strings boxes borders lengths texts r
  unfolding Resums
  resums_broken none r = λ yards drawn stands. absurd (never (sym none ∙ (sums yards drawn stands).sums))

  pub resums_settled : (t : Sums) → s ≡ Some t → (r : Reply Held) → r ≡ resummed held strings t.table t.metadata t.greatest → Resums held strings boxes borders lengths texts r
  unfolding Resums
  resums_settled t is r e =
      λ yards drawn stands. let same : t ≡ sums_of yards drawn = let there = (sums yards drawn stands).sums in cc in e
      ∙ ap (λ (x : Sums). resummed held strings x.table x.metadata x.greatest) same
