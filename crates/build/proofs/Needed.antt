-- What a plan needs lies inside what is lent. Assumes nothing.
use Rattle.numbers.proofs.Prelude.{ℕ, zero, suc, ◌+◌, ◌-◌, ◌*◌, ◌/◌, ◌^◌, ◌≤◌, ◌<◌, length, take, get_or, length-take-le, Bool, true, false, List, ◌≡◌, refl, sym, ap, subst}
use Rattle.numbers.{proofs.Prelude.{◌∙◌, arith}, specs.{Lists.{zeros}, Reply.{Reply, given, refused}, declared.refusal.Refusal.{Refusal}}}
use Rattle.std.specs.Prelude.{is_err}
use Rattle.writer.specs.inner.Stored.{Stored}
use Rattle.builder.{proofs.Counting.{lengths_room}, specs.Yards.{sum_of}}
use Rattle.build.proofs.{Filing.{reaches}, Planned.{few_names, few_yards, all_lengths}, Rooms.{sum_front}, Slices.{told, texts_few}}
use Rattle.build.specs.{Room.{need_of, enough_for}, declared.{room.{Need.{Need}, Work.{Work}}}, inner.Whole.{Good, Filling, Settles}}

pub record Cuts (names : ℕ) (yards lengths texts : List ℕ) (n : Need) : Type 0 where
  pub few_names : names ≤ 255
  pub front_all : n.front ≤ n.all
  pub all_in : n.all ≤ length lengths
  pub front_in : n.front ≤ length lengths
  pub behind_sum : n.behind ≤ n.sum
  pub sum_in : n.sum ≤ length texts
  pub few_front : n.front ≤ 256
  pub count_is : n.count ≡ length yards / 4
  pub few_count : n.count ≤ 4096

module _ (names : ℕ) (yards lengths texts : List ℕ) (g : Good names yards lengths texts) where
  abbrev all : ℕ
  all = names + 1 + names * (length yards / 4)

  some : names ≤ 255
  some = few_names names yards (length lengths) g.counts

  there : names + 1 + names * (length yards / 4) ≤ length lengths
  there = all_lengths names yards (length lengths) g.counts

  fine : sum_of (take (names + 1 + names * (length yards / 4)) lengths) ≤ length texts
  fine = (told names yards lengths texts g.counts g.fine).0

  pub cuts : (need : Need) → need ≡ need_of names (length yards) lengths → Cuts names yards lengths texts need
  unfolding need_of
  cuts need is = subst (Cuts names yards lengths texts) (sym is) (record {
    few_names = some;
    front_all = omega arith;
    all_in = there;
    front_in = omega (arith, there);
    behind_sum = sum_front (names + 1) all lengths (omega arith);
    sum_in = fine;
    few_front = omega (arith, some);
    count_is = refl;
    few_count = few_yards names yards (length lengths) g.counts;
  })

  small : sum_of (take (names + 1 + names * (length yards / 4)) lengths) < 2 ^ 60
  small = let ls : List ℕ = take all lengths in let few = texts_few ls texts fine (told names yards lengths texts g.counts g.fine).1 in
      let size : length ls ≡ all = length-take-le all lengths there in
      let room : names * (length yards / 4) ≤ 1044480 = lengths_room names (length yards / 4) some (few_yards names yards (length lengths) g.counts) in
      omega (arith, few, size, room, some)

  pub need_room : (names ≤ 255) × (length yards / 4 ≤ 4096) × (names + 1 + names * (length yards / 4) ≤ length lengths) × (sum_of (take (names + 1 + names * (length yards / 4)) lengths) < 2 ^ 60)
  need_room = (some, few_yards names yards (length lengths) g.counts, there, small)

  pub room_needs : (need : Need) → need ≡ need_of names (length yards) lengths → (need.count ≤ 4096) × (need.front ≤ need.all) × (need.behind ≤ need.sum)
  room_needs need is = let c = cuts need is in (c.few_count, c.front_all, c.behind_sum)

pub boxes_room : (names : ℕ) (yards lengths texts : List ℕ) (need : Need) (work : Work) → Filling names yards lengths texts need work → 4 * need.count ≤ work.boxes
boxes_room names yards lengths texts need work f = (reaches work need.count (need.all - need.front) (need.sum - need.behind) f.room).boxes

-- what was stored, said otherwise
pub stored_same : {before after : List ℕ} {at next : ℕ} (xs ys : List ℕ) → xs ≡ ys → Stored before at xs after next → Stored before at ys after next
stored_same {before} {after} {at} {next} xs ys e s = subst (λ (l : List ℕ). Stored before at l after next) e s

-- a length that is another's
pub under : (a b c : ℕ) → a ≤ b → c ≡ b → a ≤ c
under a b c h e = omega (arith, h, e)

pub as_few : (a b c d : ℕ) → a ≡ b → b ≤ c → d ≡ c → a ≤ d
as_few a b c d e h k = omega (arith, h, e, k)

pub four_times : (a b c d : ℕ) → a ≡ b → 4 * b ≤ c → d ≡ c → 4 * a ≤ d
four_times a b c d e h k = omega (arith, h, e, k)

-- ---- an answer, as it is settled
pub settle_given : (b : Reply ℕ) → is_err b ≡ false → (out : List ℕ) → Settles b out out b
unfolding Settles
settle_given (given n) h out = (refl, refl)
settle_given (refused why) h out = let z : ◌≡◌ {A = ℕ} 0 1 = cc in absurd (omega arith)

pub settle_refused : (b : Reply ℕ) → is_err b ≡ true → (before after : List ℕ) → after ≡ zeros (length before) → Settles b before after b
unfolding Settles
settle_refused (given n) h before after z = let z : ◌≡◌ {A = ℕ} 0 1 = cc in absurd (omega arith)
settle_refused (refused why) h before after z = (refl, z)

-- ---- whether there is room
pub lacks : (work : Work) (names words : ℕ) (lengths : List ℕ) (need : Need) → need ≡ need_of names words lengths → (b : Bool) → b ≡ enough_for work need → b ≡ false →
    enough_for work (need_of names words lengths) ≡ false
lacks work names words lengths need is b e n = ap (enough_for work) (sym is) ∙ (sym e ∙ n)

pub holds : (work : Work) (need : Need) (b : Bool) → b ≡ enough_for work need → b ≡ true → enough_for work need ≡ true
holds work need b e n = sym e ∙ n

pub zero_first : (n : ℕ) (list : List ℕ) → list ≡ zeros n → get_or list 0 0 ≡ 0
zero_first n list e = ap (λ (l : List ℕ). get_or l 0 0) e ∙ first n where
  first : (n : ℕ) → get_or (zeros n) 0 0 ≡ 0
  first zero = refl
  first (suc n) = refl

pub enough_is : (work : Work) (names words : ℕ) (lengths : List ℕ) (need : Need) → need ≡ need_of names words lengths → (b : Bool) → b ≡ enough_for work need → b ≡ true →
    enough_for work (need_of names words lengths) ≡ true
enough_is work names words lengths need is b e n = ap (enough_for work) (sym is) ∙ (sym e ∙ n)
