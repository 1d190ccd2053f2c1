-- A border that the writer wrote stands in a file, and is read as its points, whatever way it was written. Assumes nothing.
use Rattle.numbers.proofs.Prelude.{ℕ, ◌-◌, leb, ℤ, length, take, take_at, Bool, true, false, List, ◌≡◌, sym, ap, ◌∙◌, arith}
use Rattle.numbers.specs.{Answer.{if◌then◌else◌}, Lists.{zeros, padded}, Reply.{Reply, given, refused, plain}}
use Rattle.writer.specs.{Moves.{points_of}, Writer.{Replied, replied, fitted}, WrittenAt.{WrittenAt}}
use Rattle.border.{proofs.Delivered.{delivered}, specs.{Encoding.{version_of, encoding_of}, Trace.{trace_of, border_at}, Written.{Stands, round_trip}}}
use Rattle.writer.proofs.Standing.{written_border}

-- what a reply with a length says: the border was accepted, and its bytes are the front of the output
pub wrote : (room size : ℕ) (out : List ℕ) (answer : Reply (List ℕ)) → replied (given size) out ≡ fitted room answer → answer ≡ given (take size out)
unfolding fitted
wrote room size out (refused why) e = let r : given size ≡ refused why = ap (λ (x : Replied). x.reply) e in let z : ◌≡◌ {A = ℕ} 0 1 = cc in
    absurd (omega arith)
wrote room size out (given bytes) e = by_test (leb (length bytes) room) e where
  by_test : (t : Bool) → replied (given size) out ≡
      (if t then record { reply = given (length bytes); out = padded room bytes } else record { reply = refused (plain 24); out = zeros room }) → ◌≡◌ {A = Reply (List ℕ)} (given bytes) (given (take size out))
  by_test true g = let r : ◌≡◌ {A = Reply ℕ} (given size) (given (length bytes)) = ap (λ (x : Replied). x.reply) g in let n : size ≡ length bytes = cc in
      let o : out ≡ padded room bytes = ap (λ (x : Replied). x.out) g in
      ap given (sym (ap (take size) o ∙ take_at bytes (zeros (room - length bytes)) size (sym n)))
  by_test false g = let r : given size ≡ refused (plain 24) = ap (λ (x : Replied). x.reply) g in let z : ◌≡◌ {A = ℕ} 0 1 = cc in absurd (omega arith)

module _ {version : ℕ} {lats lons : List ℤ} {file : List ℕ} {base place : ℕ} (h : WrittenAt version lats lons file base place) where
  pub written_stands : Stands (version_of version) file base place (points_of lats lons)
  written_stands =
      record {
        earlier = h.earlier;
        bytes = h.bytes;
        written = written_border version lats lons h.pieces h.earlier h.bytes h.accepted;
        placed = h.placed;
      }

  -- at its place, after the same earlier data, in any file of that version up to 1 GiB: its points in order, then the first again, closed
  pub written_trace : trace_of file (encoding_of version base) (border_at place) ≡ round_trip (points_of lats lons)
  written_trace = delivered written_stands
