-- How a border ends, point by point; and what a reading that stopped says. Assumes nothing.
use Rattle.std.specs.{Prelude.{Result, Ok, Err}, Result.{result_unwrap_or}}
use Rattle.numbers.{proofs.Prelude.{ℕ, List, ◌≡◌, refl, sym, ap, ◌∙◌, arith}, specs.{Answer.{Answer, found, failed, refused, ◌>>=◌}, Varint.{told}}}
use Rattle.numbers.specs.declared.varint.Stop.{Stop, TheVariants.{Failed, TooLong, Incomplete, OutOfRange, PastEnd}}
use Rattle.border.{proofs.Trace.{point_trace, trace_step}, specs.{Trace.{Given, Trace, trace_then, trace_of, next_point, reaches, ended}, declared.reader.{Encoding.{Encoding}, Reader.{Reader}}}}
use Rattle.salvage.specs.Moves.Moves.{end_of}

-- what holds of a failure and of each refusal holds of a reading that stopped
pub by_stop : {A : Type 0} (P : Answer A → Type 0) → P failed → ((n : ℕ) → P (refused n)) → (stop : Stop) → P (told (Err stop))
by_stop P fails refuses Failed = fails
by_stop P fails refuses TooLong = refuses 12
by_stop P fails refuses Incomplete = refuses 31
by_stop P fails refuses OutOfRange = refuses 13
by_stop P fails refuses PastEnd = refuses 14

-- the end, by what was read at a state
unfoldable pub going : (Reader → Trace) → Given → Answer (Unit {0})
going rest (reaches s) = end_of (rest s)
going rest ended = found tt

end_by : (n : Answer Given) (rest : Reader → Trace) → end_of (trace_then n rest) ≡ (n >>= going rest)
unfolding end_of trace_then going
end_by (found (reaches s)) rest = refl
end_by (found ended) rest = refl
end_by failed rest = refl
end_by (refused n) rest = refl

pub end_step : (f : List ℕ) (encoding : Encoding) (s : Reader) → end_of (trace_of f encoding s) ≡ (next_point f encoding s >>= going (trace_of f encoding))
end_step f encoding s = ap end_of (trace_step f encoding s) ∙ end_by (next_point f encoding s) (trace_of f encoding)

-- a point does not matter to the end
pub end_goes : (f : List ℕ) (encoding : Encoding) (s t : Reader) → found (reaches t) ≡ next_point f encoding s → end_of (trace_of f encoding t) ≡ end_of (trace_of f encoding s)
unfolding end_of
end_goes f encoding s t e = ap end_of (point_trace f encoding s t e)

-- a point that was read, by a caller that takes every other answer for the end
pub point_of : (n : Result Given Stop) {t : Reader} {a : Answer Given} → result_unwrap_or n ended ≡ reaches t → told n ≡ a → found (reaches t) ≡ a
point_of (Ok g) is e = ap found (sym is) ∙ e
point_of (Err stop) is e = let z : ◌≡◌ {A = ℕ} 0 1 = cc in absurd (omega arith)

-- what failed or was refused was not found
pub unfound : {A B : Type 0} {a : A} → failed ≡ found a → B
unfound e = let z : ◌≡◌ {A = ℕ} 0 1 = cc in absurd (omega arith)

pub unrefused : {A B : Type 0} {a : A} {n : ℕ} → refused n ≡ found a → B
unrefused e = let z : ◌≡◌ {A = ℕ} 0 1 = cc in absurd (omega arith)
