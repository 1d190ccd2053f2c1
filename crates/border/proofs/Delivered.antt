-- Demand 3, the reader's side: a border that stands in a file is read as its points, then the first one again, closed. Assumes nothing.
use Rattle.numbers.proofs.Prelude.{ℕ, suc, ◌+◌, ◌^◌, ◌≤◌, ◌<◌, pos, length, drop, length-append, drop_at, false, List, [], ◌∷◌, ◌++◌, append-nil, ◌≡◌, refl, sym, ap, ◌∙◌, arith}
use Rattle.numbers.specs.declared.point.RawPoint.{RawPoint}
use Rattle.border.specs.{Encoding.{encoded_in}, Place.{point_at}, Trace.{Trace, trace_of, border_at}, Written.{Encodes, Leads, Placed, Stands, round_trip}, declared.place.Point.{Point}}
use Rattle.border.specs.declared.reader.{Run.TheVariants.{Idle}, Version.{Version, TheVariants.{Plain, Packed}}}
use Rattle.border.proofs.{OnWay.{At, at_first, at_next, Reads}, Version0.{counted}, Version1.{packed}}
use Rattle.border.specs.Written as W

-- a move leads to each point
pub leads_length : {p : Point} {moves : List RawPoint} {qs : List Point} → Leads p moves qs → length moves ≡ length qs
leads_length W.stays = refl
leads_length (W.step m l) = ap suc (leads_length l)

module _ {earlier bytes file : List ℕ} {base place : ℕ} (h : Placed earlier bytes file base place) where
  inside : At file base (earlier ++ (bytes ++ h.rest))
  inside =
      record {
        rest = [];
        here = ap (drop base) h.layout ∙ drop_at h.header (earlier ++ (bytes ++ h.rest)) base (sym h.data_section) ∙ sym (append-nil _);
      }

  earlier_here : At file base earlier
  earlier_here = at_first file base earlier (bytes ++ h.rest) inside

  bytes_here : At file place bytes
  bytes_here = let same : base + length earlier ≡ place = omega (arith, h.data_section, h.border_place) in
      rw same at (at_first file (base + length earlier) bytes h.rest (at_next file base earlier (bytes ++ h.rest) inside))

  room : base + length earlier ≤ 2 ^ 30
  room =
      omega (arith, ap length h.layout ∙ length-append h.header (earlier ++ (bytes ++ h.rest)), length-append earlier (bytes ++ h.rest), h.size, h.data_section)

  encoded_reads : (version : Version) {moves : List RawPoint} → Encodes version earlier bytes moves → 0 < length moves → Reads file version base false place 0 Idle moves
  encoded_reads Plain encoded some = counted file base encoded place bytes_here some
  encoded_reads Packed encoded some = packed file base earlier earlier_here room encoded place bytes_here false

-- In version 0, plain version 1, and version 1 with borrowed runs forward and backward: a border that stands at a place of a file is read as its points in order, then
-- the first again, closed.
pub delivered : {version : Version} {file : List ℕ} {base place : ℕ} {points : List Point} → Stands version file base place points
    → trace_of file (encoded_in version base) (border_at place) ≡ round_trip points
unfolding round_trip
delivered {version} {file} {base} {place} {points} h = go points h.written.some h.written.leads where
  go : (points : List Point) → 0 < length points → Leads (point_at (pos 0) (pos 0)) h.written.moves points → trace_of file (encoded_in version base) (border_at place) ≡ round_trip points
  go [] some leads = absurd (omega arith)
  go (first ∷ others) some leads = encoded_reads h.placed version h.written.encoded (omega (arith, leads_length leads)) _ _ (first ∷ others) leads

-- Two ways to write one border, in two files: whatever judges by the points and the end judges them alike.
pub one_border_one_judgement : {A : Type 0} (judge : Trace → A) {version version' : Version} {file file' : List ℕ} {base base' place place' : ℕ} {points : List Point}
    → Stands version file base place points → Stands version' file' base' place' points
    → judge (trace_of file (encoded_in version base) (border_at place)) ≡ judge (trace_of file' (encoded_in version' base') (border_at place'))
one_border_one_judgement judge h k = ap judge (delivered h ∙ sym (delivered k))
