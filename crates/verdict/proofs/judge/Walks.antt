-- The loop along a border, turn by turn: from its start to its end, or over so many edges. Assumes nothing.
use Rattle.numbers.proofs.Prelude.{ℕ, zero, suc, ◌-◌, eqb-true, eqb, Bool, true, false, ◌&&◌, List, [], ◌∷◌, ◌≡◌, refl, sym, ap, ◌∙◌, arith}
use Rattle.numbers.{proofs.Tests.{differ}, specs.{Answer.{Answer}, declared.varint.Stop.{Stop, TheVariants.{Failed, TooLong, Incomplete, OutOfRange, PastEnd}}}}
use Rattle.border.{proofs.Trace.{trace_step, point_trace}, specs.{Trace.{Trace, Given, reaches, ended, point, next_point, trace_then, trace_of}, declared.{place.Point.{Point}, reader.Encoding.{Encoding}}}}
use Rattle.border.specs.declared.reader.Reader.{Reader}
use Rattle.std.specs.Prelude.{Ok, Err}
use Rattle.verdict.specs.{Step.{Step, found, told, ◌>>=◌}, Stretch.{passing_first}, Verdict.{Last, none, after, passing, then_on, judge}, declared.field.Field.{Field}}
use Rattle.verdict.specs.{declared.{judge.Break.TheVariants.{Unread, Halted}, step.{Halt.{Halt}, Tally.{Tally}}}, inner.{Gliding.{Calm, GlidesTo, within}, Kept.{last_of}}}
use Rattle.verdict.specs.inner.Walk.{judgement_of, step_of, WalkedOn}
use Rattle.verdict.proofs.{Gliding.{carried}, Halts.{stops}, judge.Cases.{decides, judge_unread}}
use Rattle.numbers.specs.Varint as N
use Rattle.numbers.specs.Answer as A

-- ---- a point that can't be read ends the first edges too
first_unread : (fix : Point) (asked : Bool) (n : ℕ) (last : Last) (stop : Stop) (rest : Reader → Trace) (t : Tally) → found t ≡ passing_first fix asked (suc n) last (trace_then (N.told (Err stop)) rest) t
unfolding passing_first trace_then
first_unread fix asked n last Failed rest t = refl
first_unread fix asked n last TooLong rest t = refl
first_unread fix asked n last Incomplete rest t = refl
first_unread fix asked n last OutOfRange rest t = refl
first_unread fix asked n last PastEnd rest t = refl

module _ (file : List ℕ) (encoding : Encoding) (fix : Point) (asked : Bool) (edges : ℕ) (start : Reader) (tally : Tally) where
  abbrev rest : Reader → Trace
  rest = trace_of file encoding

  -- what is left, from where the walk has come to, comes to what the whole does
  abbrev pub Along : Bool → Reader → Last → Tally → ℕ → Type 0
  Along true reader last t left = passing_first fix asked left last (rest reader) t ≡ passing_first fix asked edges (after start.point) (rest start) tally
  Along false reader last t left = judge fix asked last t (rest reader) ≡ judge fix asked none tally (rest start)

  pub along_starts : (limited : Bool) (p : Point) → p ≡ start.point → Along limited start (last_of limited p) tally edges
  along_starts true p e = ap (λ (q : Point). passing_first fix asked edges (after q) (rest start) tally) e
  along_starts false p e = refl

  module _ (reader : Reader) (last : Last) (t : Tally) where
    abbrev whole : Step Tally
    whole = passing_first fix asked edges (after start.point) (rest start) tally

    pub along_enough : (limited : Bool) (left : ℕ) → Along limited reader last t left → (limited && eqb left 0) ≡ true → WalkedOn file encoding fix asked limited edges start tally (Ok t)
    unfolding passing_first step_of
    along_enough true left inv done = go left (eqb-true left 0 done) inv where
      go : (n : ℕ) → n ≡ 0 → passing_first fix asked n last (rest reader) t ≡ whole → found t ≡ whole
      go zero e h = h
      go (suc n) e h = absurd (omega (arith, e))
    along_enough false left inv done = differ done

    -- as long as there are edges to pass
    more : (left : ℕ) → eqb left 0 ≡ false → passing_first fix asked left last (rest reader) t ≡ passing_first fix asked (suc (left - 1)) last (rest reader) t
    more zero e = differ (sym e)
    more (suc n) e = let h : n ≡ suc n - 1 = omega arith in ap (λ (k : ℕ). passing_first fix asked (suc k) last (rest reader) t) h

    -- where the border has ended, or can't be read on
    module _ (left : ℕ) {next : Answer Given} (said : next ≡ next_point file encoding reader) where
      first_left : Along true reader last t left → eqb left 0 ≡ false → passing_first fix asked (suc (left - 1)) last (trace_then next rest) t ≡ whole
      first_left inv undone =
          ap (λ (n : Answer Given). passing_first fix asked (suc (left - 1)) last (trace_then n rest) t) said
          ∙ ap (λ (r : Trace). passing_first fix asked (suc (left - 1)) last r t) (sym (trace_step file encoding reader)) ∙ sym (more left undone) ∙ inv

      judge_left : Along false reader last t left → judge fix asked last t (trace_then next rest) ≡ judge fix asked none tally (rest start)
      judge_left inv = ap (λ (n : Answer Given). judge fix asked last t (trace_then n rest)) said ∙ ap (judge fix asked last t) (sym (trace_step file encoding reader)) ∙ inv

    pub along_closes : (limited : Bool) (left : ℕ) → Along limited reader last t left → (limited && eqb left 0) ≡ false → A.found ended ≡ next_point file encoding reader
        → WalkedOn file encoding fix asked limited edges start tally (Ok t)
    unfolding judgement_of step_of passing_first judge trace_then
    along_closes true left inv undone said = first_left left said inv undone
    along_closes false left inv undone said = judge_left left said inv

    pub along_unread : (limited : Bool) (left : ℕ) → Along limited reader last t left → (limited && eqb left 0) ≡ false → (stop : Stop) → N.told (Err stop) ≡ next_point file encoding reader
        → WalkedOn file encoding fix asked limited edges start tally (Err (Unread stop t))
    unfolding judgement_of step_of
    along_unread true left inv undone stop said = first_unread fix asked (left - 1) last stop rest t ∙ first_left left said inv undone
    along_unread false left inv undone stop said = judge_unread fix asked last t stop rest ∙ judge_left left said inv

    module _ (later : Reader) (said : A.found (reaches later) ≡ next_point file encoding reader) (here : Point) (same : here ≡ later.point) where
      -- the step that is taken, followed by the rest
      stepped : (left : ℕ) → Along true reader last t left → eqb left 0 ≡ false → (passing fix asked last here t >>= passing_first fix asked (left - 1) (after here) (rest later)) ≡ whole
      unfolding passing_first
      stepped left inv undone =
          ap (λ (p : Point). passing_first fix asked (suc (left - 1)) last (point p (rest later)) t) same ∙ ap (λ (r : Trace). passing_first fix asked (suc (left - 1)) last r t)
          (point_trace file encoding reader later said) ∙ sym (more left undone) ∙ inv

      judged : (left : ℕ) → Along false reader last t left
          → then_on asked t.least (passing fix asked last here t) (λ (u : Tally). judge fix asked (after here) u (rest later)) ≡ judge fix asked none tally (rest start)
      unfolding judge
      judged left inv =
          ap (λ (p : Point). judge fix asked last t (point p (rest later))) same ∙ ap (judge fix asked last t) (point_trace file encoding reader later said) ∙ inv

      pub along_stops : (limited : Bool) (left : ℕ) → Along limited reader last t left → (limited && eqb left 0) ≡ false → (halt : Halt) → told (Err halt) ≡ passing fix asked last here t
          → WalkedOn file encoding fix asked limited edges start tally (Err (Halted halt t.least))
      unfolding judgement_of step_of
      along_stops true left inv undone halt e = stops (Err halt) e refl (passing_first fix asked (left - 1) (after here) (rest later)) ∙ stepped left inv undone
      along_stops false left inv undone halt e = let go : Tally → _ = λ (u : Tally). judge fix asked (after here) u (rest later) in
          decides halt asked t.least _ go ∙ ap (λ (m : Step Tally). then_on asked t.least m go) e ∙ judged left inv

      pub along_on : (limited : Bool) (left : ℕ) → Along limited reader last t left → (limited && eqb left 0) ≡ false → (u : Tally) → found u ≡ passing fix asked last here t
          → Along limited later (after here) u (left - 1)
      unfolding then_on
      along_on true left inv undone u e = ap (λ (m : Step Tally). m >>= passing_first fix asked (left - 1) (after here) (rest later)) e ∙ stepped left inv undone
      along_on false left inv undone u e = ap (λ (m : Step Tally). then_on asked t.least m (λ (v : Tally). judge fix asked (after here) v (rest later))) e ∙ judged left inv

  -- without a limit the points of a calm field are glided over
  pub along_glides : (limited : Bool) → limited ≡ false → (s r : Reader) (here p : Point) (t : Tally) (left : ℕ) {field : Field} → Along limited s (after here) t left → here ≡ s.point
      → Calm fix asked t field → within field s.point ≡ true → GlidesTo file encoding field s r → p ≡ r.point → Along limited r (after p) t left
  along_glides true e s r here p t left inv same calm inside onward at = differ (sym e)
  along_glides false e s r here p t left inv same calm inside onward at = carried file encoding fix asked t s r p here calm inside onward at same ∙ inv
