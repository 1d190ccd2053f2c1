-- A text at the front of a buffer that is zero beyond it. Assumes nothing.
use Rattle.numbers.proofs.Prelude.{ℕ, ◌+◌, ◌-◌, ◌≤◌, length, take, drop, length-append, length-replicate, take_at, drop_at, List, ◌++◌, append_assoc, ◌≡◌, sym, ap, ◌∙◌, arith}
use Rattle.numbers.{proofs.Lists.{zeros_drop}, specs.Lists.{zeros, padded, over}}
use Rattle.zones.specs.Fields.{Wrote}
use Rattle.header.proofs.Buffers.{tail_lent, lent_length, tail_back}

pub record Held (room : ℕ) (out text : List ℕ) (at : ℕ) : Type 0 where
  pub sized : length out ≡ at
  pub fits : at ≤ room
  pub kept : text ≡ padded room out

module _ {room : ℕ} {out text : List ℕ} {at : ℕ} (g : Held room out text at) where
  pub held_length : length text ≡ room
  held_length = ap length g.kept ∙ length-append out (zeros (room - length out)) ∙ rw length-replicate (omega (arith, g.sized, g.fits))

  pub held_front : take at text ≡ out
  held_front = ap (take at) g.kept ∙ take_at out (zeros (room - length out)) at g.sized

  -- what remains of the buffer, lent
  abbrev pub lent : List ℕ
  lent = take (length text - at) (drop at text)

  pub remains_length : length lent ≡ room - length out
  remains_length = lent_length at text ∙ omega (arith, held_length, g.sized)

  remains : lent ≡ zeros (room - at)
  remains = tail_lent at text ∙ ap (drop at) g.kept ∙ drop_at out (zeros (room - length out)) at g.sized ∙ ap (λ (n : ℕ). zeros (room - n)) g.sized

  -- and what the buffer holds once s was written over the front of it
  pub written : (s last : List ℕ) {n : ℕ} → length s ≡ n → n ≤ room - length out → last ≡ over s lent
      → Held room (out ++ s) (take at text ++ (last ++ drop (length text - at) (drop at text))) (at + n)
  written s last {n} l h e = let size : length (out ++ s) ≡ at + n = length-append out s ∙ omega (arith, g.sized, l) in
      let left : room - at - length s ≡ room - length (out ++ s) = omega (arith, size, l) in record {
        sized = size;
        fits = omega (arith, g.sized, g.fits);
        kept =
            tail_back at text last
            ∙ ap (λ (r : List ℕ). r ++ last) held_front
            ∙ ap (λ (r : List ℕ). out ++ r) (e ∙ ap (over s) remains ∙ ap (λ (r : List ℕ). s ++ r) (zeros_drop (length s) (room - at) ∙ ap zeros left))
            ∙ sym (append_assoc out s (zeros (room - length (out ++ s))));
      }

-- s over the front of zeros
pub held_first : {room : ℕ} {text s last : List ℕ} {n : ℕ} → text ≡ zeros room → length s ≡ n → n ≤ room → last ≡ over s text → Held room s last n
held_first {room} {text} {s} z l h e = record { sized = l; fits = h; kept = e ∙ ap (over s) z ∙ ap (λ (r : List ℕ). s ++ r) (zeros_drop (length s) room) }

pub held_all : {room : ℕ} {out text : List ℕ} {at : ℕ} → length text ≡ room → Wrote room text out at → Held room out text at
held_all {room} {out} same w =
    record {
      sized = sym w.said;
      fits = omega (arith, w.said, ap length w.kept ∙ length-append out (zeros (room - length out)), length-replicate {A = ℕ} (room - length out) 0, same);
      kept = w.kept;
    }

pub held_wrote : {room : ℕ} {out text : List ℕ} {at : ℕ} → Held room out text at → Wrote room text out at
held_wrote g = record { said = sym g.sized; kept = g.kept }
