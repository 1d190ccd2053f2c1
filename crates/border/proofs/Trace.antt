-- The next point and the trace, turn by turn: the turns that their definitions allow are never used up. Assumes nothing.
use Rattle.numbers.proofs.Prelude.{ℕ, zero, suc, ◌*◌, ◌≤◌, ◌<◌, length, List, ◌≡◌, refl, sym, ap, subst, ◌∙◌, le_refl, le_of_lt, lt_of_lt_of_le}
use Rattle.numbers.{proofs.Answers.{All}, specs.Answer.{Answer, found, ◌>>=◌}}
use native.Mathlib.Nat.{le_of_suc-le-suc, not-suc-le-zero, lt_trans, lt-suc_self}
use Rattle.border.specs.{Reader.{Turn, gives, again, ends, turn_of}, Trace.{Given, reaches, ended, round_again, turns, next_within, next_point, Trace, point, closed, trace_then}}
use Rattle.border.specs.{Trace.{trace_within, trace_of}, declared.reader.{Encoding.{Encoding}, Reader.{Reader}}}
use Rattle.border.proofs.Room.{left, room_most, Less, turn_lowers}
use Rattle.numbers.specs.Answer as A

-- where there is a next point, there is less room than b
abbrev LessThere : List ℕ → ℕ → Given → Type 0
LessThere f b (reaches s) = left f s < b
LessThere f b ended = Unit

module _ (f : List ℕ) (b : ℕ) where
  round_agree : (t : Answer Turn) (k k' : Reader → Answer Given) → All (Less f b) t → ((s : Reader) → left f s < b → k s ≡ k' s) → (t >>= round_again k) ≡ (t >>= round_again k')
  unfolding round_again
  round_agree (found (gives s)) k k' h e = refl
  round_agree (found (again s)) k k' h e = e s h
  round_agree (found ends) k k' h e = refl
  round_agree A.failed k k' h e = refl
  round_agree (A.refused n) k k' h e = refl

  round_less : (t : Answer Turn) (k : Reader → Answer Given) → All (Less f b) t → ((s : Reader) → left f s < b → All (LessThere f b) (k s)) → All (LessThere f b) (t >>= round_again k)
  unfolding round_again
  round_less (found (gives s)) k h e = h
  round_less (found (again s)) k h e = e s h
  round_less (found ends) k h e = tt
  round_less A.failed k h e = tt
  round_less (A.refused n) k h e = tt

  then_agree : (n : Answer Given) (k k' : Reader → Trace) → All (LessThere f b) n → ((s : Reader) → left f s < b → k s ≡ k' s) → trace_then n k ≡ trace_then n k'
  unfolding trace_then
  then_agree (found (reaches s)) k k' h e = ap (point s.point) (e s h)
  then_agree (found ended) k k' h e = refl
  then_agree A.failed k k' h e = refl
  then_agree (A.refused n) k k' h e = refl

  loosen : (c : ℕ) (t : Answer Turn) → c ≤ b → All (Less f c) t → All (Less f b) t
  loosen c (found (gives s)) h k = lt_of_lt_of_le k h
  loosen c (found (again s)) h k = lt_of_lt_of_le k h
  loosen c (found ends) h k = tt
  loosen c A.failed h k = tt
  loosen c (A.refused n) h k = tt

module _ (f : List ℕ) (encoding : Encoding) where
  -- a turn fewer than there are is still enough after one turn
  enough : (s t : Reader) → left f t < left f s → left f t < suc (length f) * suc (length f)
  enough s t l = lt_of_lt_of_le l (room_most (length f) s.place s.run)

  next_agree : (n m : ℕ) (s : Reader) → left f s < n → left f s < m → next_within n f encoding s ≡ next_within m f encoding s
  unfolding next_within
  next_agree zero m s h k = absurd (not-suc-le-zero h)
  next_agree (suc n) zero s h k = absurd (not-suc-le-zero k)
  next_agree (suc n) (suc m) s h k =
      round_agree f (left f s) (turn_of encoding.strict f encoding.version encoding.«data» s) _ _ (turn_lowers encoding.strict f encoding.version encoding.«data» s)
      (λ t l. next_agree n m t (lt_of_lt_of_le l (le_of_suc-le-suc h)) (lt_of_lt_of_le l (le_of_suc-le-suc k)))

  -- the next point, turn by turn
  pub next_step : (s : Reader) → next_point f encoding s ≡ (turn_of encoding.strict f encoding.version encoding.«data» s >>= round_again (next_point f encoding))
  unfolding next_point next_within
  next_step s =
      round_agree f (left f s) (turn_of encoding.strict f encoding.version encoding.«data» s) _ _ (turn_lowers encoding.strict f encoding.version encoding.«data» s)
      (λ t l. next_agree _ _ t (enough s t l) (lt_trans (enough s t l) (lt-suc_self _)))

  within_less : (n b : ℕ) (s : Reader) → left f s ≤ b → All (LessThere f b) (next_within n f encoding s)
  unfolding next_within
  within_less zero b s h = tt
  within_less (suc n) b s h =
      round_less f b (turn_of encoding.strict f encoding.version encoding.«data» s) _ (loosen f b (left f s) (turn_of encoding.strict f
      encoding.version encoding.«data» s) h (turn_lowers encoding.strict f encoding.version encoding.«data» s)) (λ t l. within_less n b t (le_of_lt l))

  next_lowers : (s : Reader) → All (LessThere f (left f s)) (next_point f encoding s)
  unfolding next_point
  next_lowers s = within_less (turns f) (left f s) s (le_refl _)

  trace_agree : (n m : ℕ) (s : Reader) → left f s < n → left f s < m → trace_within n f encoding s ≡ trace_within m f encoding s
  unfolding trace_within
  trace_agree zero m s h k = absurd (not-suc-le-zero h)
  trace_agree (suc n) zero s h k = absurd (not-suc-le-zero k)
  trace_agree (suc n) (suc m) s h k =
      then_agree f (left f s) (next_point f encoding s) _ _ (next_lowers s) (λ t l. trace_agree n m t (lt_of_lt_of_le l (le_of_suc-le-suc h)) (lt_of_lt_of_le l (le_of_suc-le-suc k)))

  -- the trace, point by point: reading always ends
  pub trace_step : (s : Reader) → trace_of f encoding s ≡ trace_then (next_point f encoding s) (trace_of f encoding)
  unfolding trace_of trace_within
  trace_step s =
      then_agree f (left f s) (next_point f encoding s) _ _ (next_lowers s) (λ t l. trace_agree _ _ t (enough s t l) (lt_trans (enough s t l) (lt-suc_self _)))

  -- ---- what a loop over turns or points needs

  pub again_less : (s t : Reader) → found (again t) ≡ turn_of encoding.strict f encoding.version encoding.«data» s → left f t < left f s
  again_less s t e = subst (All (Less f (left f s))) (sym e) (turn_lowers encoding.strict f encoding.version encoding.«data» s)

  pub again_same : (s t : Reader) → found (again t) ≡ turn_of encoding.strict f encoding.version encoding.«data» s → next_point f encoding t ≡ next_point f encoding s
  unfolding round_again
  again_same s t e = ap (λ (u : Answer Turn). u >>= round_again (next_point f encoding)) e ∙ sym (next_step s)

  pub point_less : (s t : Reader) → found (reaches t) ≡ next_point f encoding s → left f t < left f s
  point_less s t e = subst (All (LessThere f (left f s))) (sym e) (next_lowers s)

  pub point_trace : (s t : Reader) → found (reaches t) ≡ next_point f encoding s → point t.point (trace_of f encoding t) ≡ trace_of f encoding s
  unfolding trace_then
  point_trace s t e = ap (λ (u : Answer Given). trace_then u (trace_of f encoding)) e ∙ sym (trace_step s)

  -- ---- the trace, turn by turn

  by_turn : (s : Reader) {t : Answer Turn} → t ≡ turn_of encoding.strict f encoding.version encoding.«data» s
      → trace_then (t >>= round_again (next_point f encoding)) (trace_of f encoding) ≡ trace_of f encoding s
  by_turn s e =
      ap (λ (u : Answer Turn). trace_then (u >>= round_again (next_point f encoding)) (trace_of f encoding)) e ∙ ap (λ (n : Answer Given). trace_then n (trace_of f encoding))
      (sym (next_step s)) ∙ sym (trace_step s)

  pub gives_trace : (s t : Reader) → found (gives t) ≡ turn_of encoding.strict f encoding.version encoding.«data» s → point t.point (trace_of f encoding t) ≡ trace_of f encoding s
  unfolding round_again trace_then
  gives_trace s t e = by_turn s e

  pub again_trace : (s t : Reader) → found (again t) ≡ turn_of encoding.strict f encoding.version encoding.«data» s → trace_of f encoding t ≡ trace_of f encoding s
  unfolding round_again
  again_trace s t e = trace_step t ∙ by_turn s e

  pub ends_trace : (s : Reader) → found ends ≡ turn_of encoding.strict f encoding.version encoding.«data» s → closed ≡ trace_of f encoding s
  unfolding round_again trace_then
  ends_trace s e = by_turn s e
