-- Bytes that are laid one after another, up to the cap. Assumes nothing.
use Rattle.numbers.proofs.Prelude.{ℕ, ◌+◌, ◌≤◌, ltb-true, ltb-false, ltb, length, length-append, Bool, true, false, List, [], ◌++◌, ◌≡◌, refl, sym, subst, ◌∙◌, add-zero, arith}
use Rattle.numbers.specs.Spelling.{varint_of}
use Rattle.writer.proofs.Stores.{stored_then}
use Rattle.salvage.specs.inner.Moves.Laid.{cap, Capped}

-- nothing
pub capped_none : (before : List ℕ) (place : ℕ) → Capped before place [] before place
capped_none before place = record { fits = λ l. record { place_after = sym (add-zero place); stored = refl }; over = λ l. omega arith; size = refl }

-- one after another
pub capped_then : {before middle after : List ℕ} {place next end : ℕ} (xs ys : List ℕ) → Capped before place xs middle next → Capped middle next ys after end
    → Capped before place (xs ++ ys) after end
capped_then {before} {middle} {after} {place} {next} {end} xs ys s t =
    record {
      fits = λ l. let last = t.fits l in
          stored_then xs ys (s.fits (omega (arith, last.place_after))) last;
      over = λ l. omega (arith, length-append xs ys, behind (ltb next cap) refl (t.over l));
      size = t.size ∙ s.size;
    } where
      -- the first part ends where it says, or past the cap
      behind : (b : Bool) → ltb next cap ≡ b → cap ≤ next + length ys → cap ≤ place + (length xs + length ys)
      behind true e h = omega (arith, (s.fits (ltb-true next cap e)).place_after)
      behind false e h = omega (arith, s.over (ltb-false next cap e))

-- the same bytes, said otherwise
pub capped_as : {before after xs ys : List ℕ} {place next : ℕ} → xs ≡ ys → Capped before place xs after next → Capped before place ys after next
capped_as {before} {after} {xs} {ys} {place} {next} e s = subst (λ (bytes : List ℕ). Capped before place bytes after next) e s

pub capped_form : {before after : List ℕ} {place next n m : ℕ} → n ≡ m → Capped before place (varint_of n) after next → Capped before place (varint_of m) after next
capped_form {before} {after} {place} {next} e s = subst (λ (k : ℕ). Capped before place (varint_of k) after next) e s
