-- Steps that judge parts of a border as their points do, one after another. Assumes nothing.
use Rattle.numbers.{proofs.Prelude.{ℕ, ◌+◌, ◌-◌, ◌*◌, ◌≤◌, ◌<◌, nat_abs, Bool, true, false, List, ◌≡◌, refl, sym, ap, subst, ◌∙◌, arith}, specs.Answer.{if◌then◌else◌}}
use Rattle.border.specs.{Trace.{trace_of}, declared.{place.Point.{Point}, reader.{Encoding.{Encoding}, Reader.{Reader}}}}
use Rattle.verdict.{proofs.Winds.{Winds, bound_winds}, specs.{Step.{Step, found, meets, refused, ◌>>=◌}, Verdict.{Judgement, after, closed_at, then_on, judge}, declared.step.Tally.{Tally}}}
use Rattle.marks.specs.Marks.{span_over}
use Rattle.marks.proofs.{Groups.{last_over, last_both, last_round, last_ended, at_end}, Rounds.{Round}}

module _ (asked : Bool) (least : ℕ) where
  -- what follows a step may be told another way
  pub then_same : (m : Step Tally) (k l : Tally → Judgement) → ((u : Tally) → m ≡ found u → k u ≡ l u) → then_on asked least m k ≡ then_on asked least m l
  unfolding then_on
  then_same (found u) k l h = h u refl
  then_same (meets v) k l h = refl
  then_same (refused n) k l h = refl

  -- two steps are one after the other
  pub then_through : (m : Step Tally) (g : Tally → Step Tally) (k l : Tally → Judgement) → ((u : Tally) → m ≡ found u → then_on asked least (g u) k ≡ l u)
      → then_on asked least (m >>= g) k ≡ then_on asked least m l
  unfolding then_on
  then_through (found u) g k l h = h u refl
  then_through (meets v) g k l h = refl
  then_through (refused n) g k l h = refl

-- with the distance the least one does not matter to a step that decides
pub least_same : (asked : Bool) (a b : ℕ) → (asked ≡ false → b ≡ a) → (m : Step Tally) (k : Tally → Judgement) → then_on asked a m k ≡ then_on asked b m k
unfolding then_on
least_same true a b h (found u) k = refl
least_same true a b h (meets v) k = refl
least_same true a b h (refused n) k = refl
least_same false a b h m k = ap (λ (d : ℕ). then_on false d m k) (sym (h refl))

bound_from : (m : Step Tally) (g : Tally → Step Tally) (v : Tally) → (m >>= g) ≡ found v → (u : Tally) × (m ≡ found u) × (g u ≡ found v)
bound_from (found u) g v e = (u, refl, e)
bound_from (meets w) g v e = let z : ◌≡◌ {A = ℕ} 0 1 = cc in absurd (omega arith)
bound_from (refused n) g v e = let z : ◌≡◌ {A = ℕ} 0 1 = cc in absurd (omega arith)

pub weaker : (n m : ℕ) (x : Step Tally) → n ≤ m → Winds n x → Winds m x
weaker n m (found t) h g = omega (arith, h, g)
weaker n m (meets v) h g = tt
weaker n m (refused k) h g = tt

-- a step that leaves the least distance as it is where it is not asked for
pub record Keeps (asked : Bool) (t : Tally) (m : Step Tally) : Type 0 where
  pub least : asked ≡ false → (u : Tally) → m ≡ found u → u.least ≡ t.least

pub keeps_here : (asked : Bool) (t : Tally) → Keeps asked t (found t)
keeps_here asked t = record { least = λ plainly u e. let same : t ≡ u = cc in ap (λ (v : Tally). v.least) (sym same) }

pub keeps_both : (asked : Bool) (t : Tally) (m : Step Tally) (g : Tally → Step Tally) → Keeps asked t m → ((u : Tally) → Keeps asked u (g u)) → Keeps asked t (m >>= g)
keeps_both asked t m g first next =
    record { least = λ plainly v e. let b = bound_from m g v e in (next b.0).least plainly v b.2 ∙ first.least plainly b.0 b.1 }

module _ (file : List ℕ) (encoding : Encoding) (fix : Point) (asked : Bool) where
  -- what the points from a state on say
  abbrev pub judge_from : Reader → Tally → Judgement
  judge_from s t = judge fix asked (after s.point) t (trace_of file encoding s)

  -- what a step comes to is what so many edges from a state on come to, if the winding has room for them
  pub record JudgesAt (edges : ℕ) (s : Reader) (t : Tally) (m : Step Tally) : Type 0 where
    pub winds : Winds (nat_abs t.winding + 2 * edges) m
    pub keeps : Keeps asked t m
    pub same : nat_abs t.winding + 2 * edges < 2147483647 → then_on asked t.least m (judge_from (last_over file encoding edges s)) ≡ judge_from s t

  abbrev pub Judges : ℕ → Reader → (Tally → Step Tally) → Type 0
  Judges edges s step = (t : Tally) → JudgesAt edges s t (step t)

  -- no edge
  pub judges_none : (s : Reader) → Judges 0 s (λ t. found t)
  unfolding then_on span_over
  judges_none s t = record { winds = omega arith; keeps = keeps_here asked t; same = λ room. refl }

  -- either of two steps
  pub judges_either : (edges : ℕ) (s : Reader) (t : Tally) (b : Bool) (m n : Step Tally) → (b ≡ true → JudgesAt edges s t m) → JudgesAt edges s t n → JudgesAt edges s t (if b then m else n)
  judges_either edges s t true m n h g = h refl
  judges_either edges s t false m n h g = g

  -- one part, and then the next
  pub judges_both : (a b : ℕ) (s : Reader) (f g : Tally → Step Tally) → Judges a s f → Judges b (last_over file encoding a s) g → Judges (a + b) s (λ t. f t >>= g)
  judges_both a b s f g first next t = record {
    winds =
        bound_winds (nat_abs t.winding + 2 * a) (nat_abs t.winding + 2 * (a + b)) (f t) g (first t).winds
        (λ u h. weaker (nat_abs u.winding + 2 * b) (nat_abs t.winding + 2 * (a + b)) (g u) (omega (arith, h)) (next u).winds);
    keeps = keeps_both asked t (f t) g (first t).keeps (λ u. (next u).keeps);
    same = λ room.
        ap (λ (last : Reader). then_on asked t.least (f t >>= g) (judge_from last)) (last_both file encoding a b s)
        ∙ then_through asked t.least (f t) g (judge_from (last_over file encoding b (last_over file encoding a s))) (judge_from (last_over file encoding a s))
        (λ u e.
        let w = subst (Winds (nat_abs t.winding + 2 * a)) e (first t).winds in
        least_same asked t.least u.least (λ plainly. (first t).keeps.least plainly u e) (g u) _ ∙ (next u).same (omega (arith, room, w)))
        ∙ (first t).same (omega (arith, room));
  }

  -- edges behind the end of a border that comes round do not count
  pub judges_ended : (first : Point) (a b : ℕ) (s : Reader) (n : ℕ) (f : Tally → Step Tally) → Round file encoding first s n → n ≤ a → a ≤ b → Judges a s f → Judges b s f
  judges_ended first a b s n f r few more j t = record {
    winds = weaker (nat_abs t.winding + 2 * a) (nat_abs t.winding + 2 * b) (f t) (omega (arith, more)) (j t).winds;
    keeps = (j t).keeps;
    same = λ room. ap (λ (last : Reader). then_on asked t.least (f t) (judge_from last)) (last_ended file encoding first a b s n r few more) ∙ (j t).same (omega (arith, room, more));
  }

  -- all that is left of it
  pub judges_all : (first : Point) (edges : ℕ) (s : Reader) (n : ℕ) (f : Tally → Step Tally) → Round file encoding first s n → n ≤ edges → Judges edges s f → (t : Tally)
      → nat_abs t.winding + 2 * edges < 2147483647 → then_on asked t.least (f t) (closed_at asked) ≡ judge_from s t
  unfolding judge
  judges_all first edges s n f r few j t room = let last = last_over file encoding edges s in
      let ends = at_end file encoding first last (n - edges) (last_round file encoding first edges s n r) (omega (arith, few)) in
      then_same asked t.least (f t) (closed_at asked) (judge_from last) (λ u e. ap (judge fix asked (after last.point) u) (sym ends)) ∙ (j t).same room
