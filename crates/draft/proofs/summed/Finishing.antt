-- The end of a builder: each way out of it, and how it is settled. Assumes nothing.
use Rattle.numbers.proofs.Prelude.{ℕ, ◌≤◌, ◌<◌, lt-ltb, le-ltb, leb, length, Bool, true, false, ◌&&◌, List, ◌≡◌, refl, sym, ap, subst, ◌∙◌, arith}
use Rattle.numbers.specs.{Lists.{zeros}, Reply.{Reply, given, refused, plain, demand, ◌>>◌}, declared.refusal.Refusal.{Refusal}}
use Rattle.writer.specs.inner.Stored.{Stored}
use Rattle.builder.specs.{File.{file_of, head_of, up_to}, Yards.{Plan}}
use Rattle.build.{proofs.Ending.{long_fills, settled_fits, short_fills, whole_fills}, specs.{inner.Whole.{Fills, Settles, ends_as}}}
use Rattle.draft.proofs.{held.{Standing.{held_yards, holds_standing}, Stood.{stood, work_enough}, Sums.{size_is}}, summed.Wholes.{holds_whole}}
use Rattle.draft.specs.Held.{Builder.{Builder, finish}, Space.{Space, long_enough, standing, work_in}, State.{Holds, Lists, Works, rooms_of}, Totals.{data_of, file_size, totals_of}}
use Rattle.draft.specs.{Summed.Ends.{Finishes, Putting, Texts, space_of, texts_whole}, declared.held.{room.Rooms.{Rooms}, state.Held.{Held}}}

differ : (b : Bool) → b ≡ true → b ≡ false → ⊥
differ b t f = let z : ◌≡◌ {A = Bool} true false = sym t ∙ f in clash z where
  flag : Bool → ℕ
  flag true = 1
  flag false = 0

  clash : ◌≡◌ {A = Bool} true false → ⊥
  clash e = let z : ◌≡◌ {A = ℕ} 1 0 = ap flag e in omega (arith, z)

-- ---- the end as the last steps of a build
module _ (b : Builder) (held : Held) (lists : Lists) (h : Holds b held lists) (out : ℕ) (space : Space) where
  abbrev plan : Plan
  plan = b.plan

  size : file_size (length (head_of plan)) b.totals ≡ length (file_of plan (data_of plan))
  unfolding totals_of
  size = ap (file_size (length (head_of plan))) h.fresh ∙ size_is plan (data_of plan)

  abbrev last : Bool → ℕ → Reply (List ℕ)
  last some n = demand some (plain 25) >> (demand (space.lists && leb n (up_to out)) (plain 28) >> given (file_of plan (data_of plan)))

  finish_none : held.yards ≡ 0 → finish b out space ≡ refused (plain 25)
  unfolding finish
  finish_none e = ap (λ (t : Bool). last t (file_size (length (head_of plan)) b.totals)) (le-ltb 0 (length plan.yards) (omega (arith, e, held_yards b held lists h)))

  finish_some : (held.yards ≡ 0 → ⊥) → finish b out space ≡ ends_as space.lists out (file_of plan (data_of plan))
  unfolding finish ends_as
  finish_some some =
      ap (λ (t : Bool). last t (file_size (length (head_of plan)) b.totals)) (lt-ltb 0 (length plan.yards) (omega (arith, some, held_yards b held lists h)))
      ∙ ap (λ (n : ℕ). demand (space.lists && leb n (up_to out)) (plain 28) >> given (file_of plan (data_of plan))) size

-- ---- each way out
module _ (held : Held) (lists : Lists) (work : Works) (out : ℕ) where
  abbrev rooms : Rooms
  rooms = rooms_of lists work

  abbrev Said : List ℕ → Reply ℕ → Type 0
  Said after r = ((b : Builder) → Holds b held lists → Fills (finish b out (space_of held rooms)) out after r) × (standing held rooms ≡ false → r ≡ refused (plain 28))

  pub not_stands : (t : Bool) → t ≡ standing held rooms → t ≡ false → (after : List ℕ) (r : Reply ℕ) → r ≡ refused (plain 28) → Said after r
  not_stands t e n after r er = (λ b h. absurd (differ (standing held rooms) (holds_standing b held lists h rooms refl refl refl refl refl) (sym e ∙ n)), λ f. er)

  module _ (t : Bool) (et : t ≡ standing held rooms) (nt : t ≡ true) where
    good : standing held rooms ≡ true
    good = sym et ∙ nt

    pub no_yards : held.yards ≡ 0 → (after : List ℕ) (r : Reply ℕ) → r ≡ refused (plain 25) → Said after r
    unfolding Fills
    no_yards e after r er =
        (λ b h. subst (Fills (finish b out (space_of held rooms)) out after) (sym er) (finish_none b held lists h out (space_of held rooms) e), λ f. absurd (differ (standing held rooms) good f))

    pub space_asked : (held.names ≤ 255) × (held.yards ≤ 4096) × (held.front ≤ held.strings)
    space_asked = let s = stood held rooms good in (s.few_names, s.few_yards, s.front_first)

    pub texts_asked : Texts held (length lists.lengths)
    texts_asked = let s = stood held rooms good in record { named = s.few_names; few = s.few_yards; order = s.front_first; all = s.own.lengths_all }

    module _ (some : held.yards ≡ 0 → ⊥) (w : Bool) (ew : w ≡ long_enough rooms held.names held.yards held.front held.strings) where
      said : (after : List ℕ) (r : Reply ℕ) → ((b : Builder) → Holds b held lists → Fills (ends_as (space_of held rooms).lists out (file_of b.plan (data_of b.plan))) out after r) → Said after r
      said after r fills = (
        λ b h. subst (λ (reply : Reply (List ℕ)). Fills reply out after r) (sym (finish_some b held lists h out (space_of held rooms) some)) (fills b h),
        λ f. absurd (differ (standing held rooms) good f),
      )

      pub no_space : w ≡ false → (after : List ℕ) (r : Reply ℕ) → r ≡ refused (plain 28) → Said after r
      no_space nw after r er = said after r (λ b h. short_fills (space_of held rooms).lists out (file_of b.plan (data_of b.plan)) after (sym ew ∙ nw) r er)

      module _ (nw : w ≡ true) where
        enough_space : (space_of held rooms).lists ≡ true
        enough_space = sym ew ∙ nw

        pub not_whole : (v : Bool) → v ≡ texts_whole held lists.lengths → v ≡ false → (after : List ℕ) (r : Reply ℕ) → r ≡ refused (plain 28) → Said after r
        not_whole v ev nv after r er = said after r (λ b h. absurd (differ (texts_whole held lists.lengths) (holds_whole b held lists h) (sym ev ∙ nv)))

        pub putting : (v : Bool) → v ≡ texts_whole held lists.lengths → v ≡ true →
            Putting held lists.lengths (length lists.texts) (length lists.borders) (length lists.bytes) (work_in rooms)
        putting v ev nv = let s = stood held rooms good in record {
          fits = texts_asked;
          whole = sym ev ∙ nv;
          strings = s.own.texts_room;
          bordered = s.own.borders_room;
          data_in = s.bytes_room;
          data_few = s.few_bytes;
          room = work_enough rooms held.names held.yards held.front held.strings enough_space;
        }

        module _ (after : List ℕ) (end : ℕ) (s : (b : Builder) → Holds b held lists → Stored (zeros out) 0 (file_of b.plan (data_of b.plan)) after end) where
          pub too_long : up_to out < end → (r : Reply ℕ) → r ≡ refused (plain 28) → Said after r
          too_long h r er = said after r (λ b holds. long_fills (space_of held rooms).lists out (file_of b.plan (data_of b.plan)) after enough_space end (s b holds) h r er)

          pub fits_whole : end ≤ up_to out → Said after (given end)
          fits_whole h = said after (given end) (λ b holds. whole_fills (space_of held rooms).lists out (file_of b.plan (data_of b.plan)) after enough_space end (s b holds) h)

-- ---- as it is settled
never_length : (n : ℕ) (why : Refusal) → ◌≡◌ {A = Reply ℕ} (given n) (refused why) → ⊥
never_length n why e = let z : ◌≡◌ {A = ℕ} 0 1 = cc in omega (arith, z)

pub settled_ends : (reply : Reply (List ℕ)) (room : ℕ) (before after : List ℕ) (built r : Reply ℕ) → length before ≡ room → Fills reply room before built → Settles built before after r →
    Finishes reply room after r
unfolding Finishes
settled_ends reply room before after built r size f s = settled_fits reply room before after built r size f s

pub settled_refused : (before after : List ℕ) (built r : Reply ℕ) (why : Refusal) → built ≡ refused why → Settles built before after r → r ≡ refused why
unfolding Settles
settled_refused before after built r why e s = (subst (λ (x : Reply ℕ). Settles x before after r) e s).0

-- whatever was refused, and of any state
pub settled_zero : (room : ℕ) (before after : List ℕ) (built r : Reply ℕ) (why : Refusal) → length before ≡ room → Settles built before after r → r ≡ refused why → after ≡ zeros room
unfolding Settles
settled_zero room before after (given n) r why _ s e = absurd (never_length n why (sym s.0 ∙ e))
settled_zero room before after (refused other) r why size s e = s.1 ∙ ap zeros size
