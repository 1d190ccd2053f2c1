-- The whole input by what came of it so far. Assumes nothing.
use Rattle.numbers.proofs.Prelude.{ℕ, ◌<◌, length, take, subst, List, [], ◌++◌, append-nil, ◌≡◌, refl, sym, ap, ◌∙◌, arith}
use Prim.Native.Nat.{max}
use Rattle.std.proofs.Common.{Option, Result, IfOk, OnOk, Ok, Err}
use Rattle.std.proofs.KnownBytes.{Consumes-trans}
use Rattle.std.specs.Io.KnownBytes.{Consumes, IsAtEnd}
use Rattle.shell.proofs.{Pieces.{ended_pieces, left_pieces}, Streams.{ended_none, left_none, worst_both}, Whole.{kept, kept_lines, kept_worst, lines_both}}
use Rattle.shell.specs.{Kept.{ended, left}, Requests.{last}, Written.{lines_of, worst, written, status_of}}

module _ (map zones : List ℕ) where
  pub lines_begin : [] ≡ lines_of map zones (ended [] [])
  unfolding lines_of
  lines_begin = sym (ap (lines_of map zones) (ended_none []))

  pub worst_begin : 0 ≡ worst map zones (ended [] [])
  unfolding worst
  worst_begin = sym (ap (worst map zones) (ended_none []))

  pub left_begin : [] ≡ left [] []
  left_begin = sym (left_none [])

  -- ---- a piece more
  module _ (came part line : List ℕ) (so : line ≡ left [] came) where
    pub lines_on : lines_of map zones (ended [] came) ++ lines_of map zones (ended line part) ≡ lines_of map zones (ended [] (came ++ part))
    lines_on =
        sym (lines_both map zones (ended [] came) (ended line part)) ∙ ap (λ (l : List ℕ). lines_of map zones (ended [] came ++ ended l part)) so ∙ ap (lines_of map zones)
        (sym (ended_pieces came part []))

    pub left_on : left line part ≡ left [] (came ++ part)
    left_on = ap (λ (l : List ℕ). left l part) so ∙ sym (left_pieces came part [])

    pub worst_on : (status now : ℕ) → status ≡ worst map zones (ended [] came) → now ≡ max status (worst map zones (ended line part)) → now ≡ worst map zones (ended [] (came ++ part))
    worst_on status now e f =
        let both = worst_both map zones (ended [] came) (ended line part) in
        let joined = ap (λ (l : List ℕ). worst map zones (ended [] came ++ ended l part)) so ∙ ap (worst map zones) (sym (ended_pieces came part [])) in
        omega (arith, e, f, both, joined)

  -- ---- the input's end
  module _ (came line : List ℕ) (so : line ≡ left [] came) where
    pub lines_all : lines_of map zones (ended [] came) ++ lines_of map zones (last line) ≡ written map zones came
    unfolding kept
    lines_all =
        sym (lines_both map zones (ended [] came) (last line)) ∙ ap (λ (l : List ℕ). lines_of map zones (ended [] came ++ last l)) so ∙ kept_lines map zones came

    pub worst_all : (status answer : ℕ) → status ≡ worst map zones (ended [] came) → answer ≡ max status (worst map zones (last line)) → answer ≡ status_of map zones came
    unfolding kept
    worst_all status answer e f =
        let both = worst_both map zones (ended [] came) (last line) in
        let joined = ap (λ (l : List ℕ). worst map zones (ended [] came ++ last l)) so ∙ kept_worst map zones came in
        omega (arith, e, f, both, joined)

-- ---- a read that gives nothing is at the input's end
pub at_end : (a b d : Option (List ℕ)) (came buf : List ℕ) (n : ℕ) → Consumes a b came → Consumes b d (take n buf) × (n ≡ 0 → 0 < length buf → IsAtEnd d) → n ≡ 0 → 0 < length buf → Consumes a d came × IsAtEnd d
at_end a b d came buf n p q e room =
    (subst (Consumes a d) (append-nil came) (Consumes-trans a b d came [] p (subst (Consumes b d) (ap (λ k. take k buf) e ∙ refl) q.0)), q.1 e room)

-- ---- of what a call answers
pub if_ok : {T E : Type 0} {P Q : T → Type 0} (r : Result T E) → IfOk r P → ((x : T) → P x → Q x) → IfOk r Q
if_ok (Ok x) p f = f x p
if_ok (Err e) p f = tt

pub on_ok : {T E : Type 0} {P Q : Type 0} (r : Result T E) → OnOk r P → (P → Q) → OnOk r Q
on_ok (Ok x) p f = f p
on_ok (Err e) p f = tt
