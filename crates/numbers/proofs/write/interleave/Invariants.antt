-- `numbers::write::interleave` meets its contract.
use Rattle.numbers.proofs.Prelude.{ℕ, suc, ◌+◌, ◌-◌, ◌*◌, ◌/◌, ◌%◌, ◌^◌, ◌≤◌, ◌<◌, lit<, ◌≡◌, refl, sym, ap, ◌∙◌, pow-suc, arith}
use Rattle.numbers.proofs.write.{Digits.{interleaved_step, interleaved_small}}
use native.Mathlib.Nat.{pow-le-pow_right}
use Rattle.numbers.specs.Spelling.{interleaved}
use Rattle.numbers.proofs.write.interleave.Given as goal

abbrev pub invariant-loop-place : goal.invariant-loop-place
invariant-loop-place l = l.out ≡ interleaved (32 - l.place) (l.a / 2 ^ l.place) (l.b / 2 ^ l.place)
