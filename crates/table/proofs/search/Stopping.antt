-- What a stop says of the reading that it ended. Assumes nothing.
use Rattle.numbers.{proofs.Prelude.{ℕ, ◌≡◌, refl, arith}, specs.{Answer.{failed, refused}, Reply.{plain}, Varint.{told, refusal_of}}}
use Rattle.numbers.specs.declared.{refusal.Refusal.{Refusal}, varint.Stop.{Stop, TheVariants.{Failed, TooLong, Incomplete, OutOfRange, PastEnd}}}
use Rattle.std.specs.Prelude.{Some, None, Err}

pub stop_failed : {A : Type 0} (stop : Stop) → refusal_of stop ≡ None → failed ≡ told {A = A} (Err stop)
stop_failed Failed e = refl
stop_failed TooLong e = let z : ◌≡◌ {A = ℕ} 0 1 = cc in absurd (omega arith)
stop_failed Incomplete e = let z : ◌≡◌ {A = ℕ} 0 1 = cc in absurd (omega arith)
stop_failed OutOfRange e = let z : ◌≡◌ {A = ℕ} 0 1 = cc in absurd (omega arith)
stop_failed PastEnd e = let z : ◌≡◌ {A = ℕ} 0 1 = cc in absurd (omega arith)

-- the number that it is refused with
pub record Stopped (A : Type 0) (stop : Stop) (why : Refusal) : Type 0 where
  pub number : ℕ
  pub is : plain number ≡ why
  pub reads : refused number ≡ told {A = A} (Err stop)

pub stop_refused : {A : Type 0} (stop : Stop) {why : Refusal} → refusal_of stop ≡ Some why → Stopped A stop why
stop_refused Failed e = let z : ◌≡◌ {A = ℕ} 0 1 = cc in absurd (omega arith)
stop_refused TooLong e = record { number = 12; is = cc; reads = refl }
stop_refused Incomplete e = record { number = 31; is = cc; reads = refl }
stop_refused OutOfRange e = record { number = 13; is = cc; reads = refl }
stop_refused PastEnd e = record { number = 14; is = cc; reads = refl }
