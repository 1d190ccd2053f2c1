-- `numbers::write::interleave` meets its contract.
use Rattle.numbers.proofs.Prelude.{ℕ, suc, ◌+◌, ◌-◌, ◌*◌, ◌/◌, ◌%◌, ◌^◌, ◌≤◌, ◌<◌, lit<, ◌≡◌, refl, sym, ap, ◌∙◌, pow-suc, arith}
use Rattle.numbers.proofs.write.{Digits.{interleaved_step, interleaved_small}}
use native.Mathlib.Nat.{pow-le-pow_right}
use Rattle.numbers.specs.Spelling.{interleaved}
use Rattle.numbers.proofs.write.interleave.Goals as goal

-- the number so far leaves room for two bits more
room : (out i a b : ℕ) → 0 < i → i ≤ 32 → out ≡ interleaved (32 - i) a b → out < 2 ^ 62
room out i a b some few e = omega (arith, interleaved_small (32 - i) a b, pow-le-pow_right {n = 4} (lit< tt) {i = 32 - i} {j = 31} (omega arith))

again : (out i a b : ℕ) → 0 < i → i ≤ 32 → out ≡ interleaved (32 - i) (a / 2 ^ i) (b / 2 ^ i)
    → a / 2 ^ (i - 1) % 2 + b / 2 ^ (i - 1) % 2 * 2 + out * 4 ≡ interleaved (32 - (i - 1)) (a / 2 ^ (i - 1)) (b / 2 ^ (i - 1))
again out i a b some few o = let k : 32 - (i - 1) ≡ suc (32 - i) = omega arith in let d : i ≡ suc (i - 1) = omega arith in
    let w : 2 ^ (i - 1) * 2 ≡ 2 ^ i = omega (arith, ap (λ (n : ℕ). 2 ^ n) d ∙ pow-suc 2 (i - 1)) in rw (k, o) (sym (interleaved_step (32 - i) a b (2 ^ (i - 1)) ∙ rw w))

ended : (out i a b : ℕ) → i ≡ 0 → out ≡ interleaved (32 - i) (a / 2 ^ i) (b / 2 ^ i) → out ≡ interleaved 32 a b
ended out i a b z o = let all : a / 1 ≡ a = omega arith in let all' : b / 1 ≡ b = omega arith in rw (z, all, all') at o

pub loop-place-init : goal.loop-place-init
unfolding interleaved
loop-place-init c =
    refl

pub overflow_mul-out-in-loop-place : goal.overflow_mul-out-in-loop-place
overflow_mul-out-in-loop-place c =
    omega (arith, room c.loop-place.out c.loop-place.place _ _ (omega arith) (omega arith) c.loop-place.invariant)

pub overflow_add-out-in-loop-place : goal.overflow_add-out-in-loop-place
overflow_add-out-in-loop-place c =
    omega (arith, room c.loop-place.out c.loop-place.place _ _ (omega arith) (omega arith) c.loop-place.invariant)

pub loop-place-preserved : goal.loop-place-preserved
loop-place-preserved c =
    again c.loop-place.out c.loop-place.place c.args.a c.args.b (omega arith) (omega arith) c.loop-place.invariant

pub returns : goal.returns
returns c =
    ended c.loop-place.out c.loop-place.place c.args.a c.args.b (omega arith) c.loop-place.invariant
