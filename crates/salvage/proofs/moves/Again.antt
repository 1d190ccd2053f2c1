-- A border's moves, read, written and read again, are the same; and so is what a border says of a location. Assumes nothing.
use Rattle.numbers.{proofs.Prelude.{ℕ, Bool, List, ◌≡◌, refl, sym, ap, subst, ◌∙◌}, specs.{Answer.{Answer, found, failed, refused, ◌>>=◌}, Varint.{reading_of}, declared.point.RawPoint.{RawPoint}}}
use Rattle.border.{proofs.OnWay.{At}, specs.{Trace.{trace_of, border_at}, declared.{place.{FixedLat.{FixedLat}, FixedLon.{FixedLon}}, reader.Encoding.{Encoding}}}}
use Rattle.border.specs.declared.reader.Version.{Version, TheVariants.{Plain, Packed}}
use Rattle.verdict.specs.Verdict.{none, judge, judged_at}
use Rattle.salvage.proofs.moves.{Packed.{packed_again}, Plain.{plain_readable, plain_same, plain_again}}
use Rattle.salvage.specs.{Moves.Moves.{end_of, steps_from, origin, plain_moves, or_none, moves_by, moves_at, closed_moves, moves_bytes}, inner.Moves.Laid.{Capped, Copied}}

-- the border at a place of one file is that at a place of another
pub record SameBorder (f f' : List ℕ) (encoding encoding' : Encoding) (place place' : ℕ) : Type 0 where
  pub same_trace : trace_of f' encoding' (border_at place') ≡ trace_of f encoding (border_at place)
  pub same_moves : moves_at f' encoding' place' ≡ moves_at f encoding place

module _ (f f' : List ℕ) (encoding encoding' : Encoding) (place place' : ℕ) where
  -- A border that closes, written again from its moves at any place of any file of its version, strictly read or not, has the trace and the moves that it had.
  pub moves_again : encoding'.version ≡ encoding.version → end_of (trace_of f encoding (border_at place)) ≡ found tt → At f' place' (moves_bytes encoding.version (moves_at f encoding place))
      → SameBorder f f' encoding encoding' place place'
  unfolding moves_at moves_by
  moves_again same ends here = go encoding.version refl where
    by_version : {v : Version} → encoding.version ≡ v → At f' place' (moves_bytes v (moves_by v f encoding place))
    by_version v = subst (λ (w : Version). At f' place' (moves_bytes w (moves_by w f encoding place))) v here

    in_version : {v : Version} → encoding.version ≡ v → moves_by v f' encoding' place' ≡ moves_by v f encoding place → moves_at f' encoding' place' ≡ moves_at f encoding place
    in_version v e = ap (λ (w : Version). moves_by w f' encoding' place') (same ∙ v) ∙ e ∙ sym (ap (λ (w : Version). moves_by w f encoding place) v)

    go : (v : Version) → encoding.version ≡ v → SameBorder f f' encoding encoding' place place'
    go Packed v = let trace = packed_again f f' encoding encoding' v (same ∙ v) place place' ends (by_version v) in
        record { same_trace = trace; same_moves = in_version v (ap (steps_from origin) trace) }
    go Plain v = let read = plain_readable f encoding v place ends in
        let at_moves : At f' place' (moves_bytes Plain read.moves) = subst (λ (ms : List RawPoint). At f' place' (moves_bytes Plain ms)) (ap or_none read.are) (by_version v) in
        let again = plain_again f f' encoding.strict encoding'.strict place place' read.moves read.are at_moves in record {
          same_trace = sym (plain_same f f' encoding encoding' v (same ∙ v) place place' read.moves read.are again);
          same_moves = in_version v (ap or_none again ∙ sym (ap or_none read.are));
        }

  -- Then its verdict, its distance and its refusal are those that it gave before, at every location.
  pub same_judgement : SameBorder f f' encoding encoding' place place' → (lat : FixedLat) (lon : FixedLon) (asked : Bool) (least : ℕ)
      → judged_at f' encoding' place' lat lon asked least ≡ judged_at f encoding place lat lon asked least
  unfolding judged_at
  same_judgement same lat lon asked least = ap (judge (record { lat = lat; lon = lon }) asked none _) same.same_trace

-- ---- what is written of a border is what is written of its moves
module _ (f : List ℕ) (encoding : Encoding) (place : ℕ) (before : List ℕ) (at : ℕ) (after : List ℕ) (next : ℕ) where
  pub plain_drawn : encoding.version ≡ Plain → Copied (moves_bytes Plain) (plain_moves (reading_of encoding.strict f) place) before at after next
      → Copied (moves_bytes encoding.version) (closed_moves f encoding place) before at after next
  unfolding closed_moves moves_at moves_by
  plain_drawn plain c = go (end_of (trace_of f encoding (border_at place))) refl where
    go : (end : Answer (Unit {0})) → end_of (trace_of f encoding (border_at place)) ≡ end
        → Copied (moves_bytes encoding.version) (end >>= λ end. found (moves_by encoding.version f encoding place)) before at after next
    go failed e = tt
    go (refused n) e = tt
    go (found tt) e = let read = plain_readable f encoding plain place e in
        let said : Capped before at (moves_bytes Plain read.moves) after next = rw read.are at c in
        subst (λ (w : Version). Capped before at (moves_bytes w (moves_by w f encoding place)) after next) (sym plain)
        (subst (λ (ms : List RawPoint). Capped before at (moves_bytes Plain ms) after next) (sym (ap or_none read.are)) said)
