-- Where a border gives a further point, and where it gives none. Assumes nothing.
use Rattle.std.specs.{Prelude.{Result, Ok, Err}, Result.{result_unwrap_or}}
use Rattle.numbers.{proofs.Prelude.{ℕ, ◌≡◌, refl, sym, ap, ◌∙◌, arith}, specs.{Answer.{Answer, found}, Varint.{told}, declared.varint.Stop.{Stop, TheVariants.{Failed, TooLong, Incomplete, OutOfRange, PastEnd}}}}
use Rattle.border.specs.{Trace.{Given, reaches, ended}, declared.reader.Reader.{Reader}}
use Rattle.marks.specs.Marks.{next_or}

pub none_next : {A : Type 0} (next : Result Given Stop) (none : A) (go : Reader → A) → result_unwrap_or next ended ≡ ended → next_or (told next) none go ≡ none
unfolding next_or
none_next (Ok (reaches s)) none go o = let z : ◌≡◌ {A = ℕ} 0 1 = cc in absurd (omega arith)
none_next (Ok ended) none go o = refl
none_next (Err Failed) none go o = refl
none_next (Err TooLong) none go o = refl
none_next (Err Incomplete) none go o = refl
none_next (Err OutOfRange) none go o = refl
none_next (Err PastEnd) none go o = refl

-- a point that was read, by a caller that takes every other answer for the end
pub point_of : (n : Result Given Stop) {t : Reader} {a : Answer Given} → result_unwrap_or n ended ≡ reaches t → told n ≡ a → found (reaches t) ≡ a
point_of (Ok g) is e = ap found (sym is) ∙ e
point_of (Err stop) is e = let z : ◌≡◌ {A = ℕ} 0 1 = cc in absurd (omega arith)
