-- Bytes that stand at a place of a file, and a reader on its way through a border: what one turn delivers, and what the turns after it. Assumes nothing.
use Rattle.numbers.proofs.Prelude.{ℕ, suc, ◌+◌, ◌<◌, length, drop, get_or, drop-drop, get_or-drop, drop-append_seam, Bool, true, false, List, [], ◌∷◌, ◌++◌, append_assoc, ◌≡◌, refl, sym, ap, ◌∙◌}
use Rattle.numbers.{proofs.{Prelude.{add-zero}, Readings.{plain_reading}, Wholes.{whole_forward, whole_clear, whole_backward, whole_some}}, specs.{Answer.{found, if◌then◌else◌}, Spelling.{Whole}}}
use Rattle.numbers.specs.{Varint.{numeral, reading_of, backward_at}, declared.point.RawPoint.{RawPoint}}
use Rattle.border.specs.{Encoding.{encoded_in}, Place.{moved_by}, Reader.{gives, again, closing, turn_of}, Trace.{point, closed, trace_of}, Written.{Leads, points_then}}
use Rattle.border.specs.declared.{place.Point.{Point}, reader.{Reader.{Reader}, Run.{Run, TheVariants.{Idle}}, Version.{Version}}}
use Rattle.border.proofs.{Trace.{gives_trace, again_trace, ends_trace}, reader.Turns.{closed_ends}}
use Rattle.border.specs.Written as W

-- ---- bytes at a place

pub record At (f : List ℕ) (place : ℕ) (bytes : List ℕ) : Type 0 where
  pub rest : List ℕ
  pub here : drop place f ≡ bytes ++ rest

module _ (f : List ℕ) (place : ℕ) (xs ys : List ℕ) (both : At f place (xs ++ ys)) where
  pub at_first : At f place xs
  at_first = record { rest = ys ++ both.rest; here = both.here ∙ append_assoc xs ys both.rest }

  pub at_next : At f (place + length xs) ys
  unfolding at_first
  at_next =
      record {
        rest = both.rest;
        here = sym (drop-drop (length xs) place f) ∙ ap (drop (length xs)) at_first.here ∙ drop-append_seam xs (ys ++ both.rest);
      }

pub at_head : (f : List ℕ) (place b : ℕ) (bs : List ℕ) → At f place (b ∷ bs) → get_or f place 0 ≡ b
at_head f place b bs h = ap (λ (n : ℕ). get_or f n 0) (sym (add-zero place)) ∙ sym (get_or-drop place f 0 0) ∙ ap (λ (xs : List ℕ). get_or xs 0 0) h.here

module _ {w : List ℕ} {value : ℕ} (h : Whole w value) where
  pub some_bytes : 0 < length w
  some_bytes = whole_some w h.complete

module _ {f w : List ℕ} {place value : ℕ} (h : Whole w value) where
  pub reads : At f place w → numeral value (place + length w) ≡ reading_of false f place
  reads here = rw (← h.reads) (whole_forward f w here.rest place h.complete here.here h.short) ∙ sym (plain_reading f place)

  pub reads_back : get_or f place 0 < 128 → At f (suc place) w → numeral value place ≡ backward_at f (place + length w)
  reads_back clear here = rw (← h.reads) (whole_backward f w here.rest place h.complete here.here h.short clear)

  pub stays_clear : At f (suc place) w → get_or f (place + length w) 0 < 128
  stays_clear here = whole_clear f w here.rest place h.complete here.here

-- ---- a reader on its way

abbrev pub on_way : Bool → ℕ → ℕ → Run → Point → Point → Reader
on_way begun place left run first p = record { place = place; moves = left; begun = begun; closed = false; run = run; point = p; first = first }

abbrev pub head_or : Point → List Point → Point
head_or first [] = first
head_or first (q ∷ qs) = q

-- from a state on the moves lead through the points, and the border closes with its first one
abbrev pub Reads : List ℕ → Version → ℕ → Bool → ℕ → ℕ → Run → List RawPoint → Type 0
Reads f version base begun place left run moves =
    (first p : Point) (qs : List Point) → Leads p moves qs → trace_of f (encoded_in version base) (on_way begun place left run first p) ≡ points_then qs
    (point (if begun then first else head_or first qs) closed)

module _ (f : List ℕ) (version : Version) (base : ℕ) (begun : Bool) (place left : ℕ) (run : Run) where
  abbrev state : Point → Point → Reader
  state first p = on_way begun place left run first p

  -- a turn that gives the next point
  pub steps : (place' left' : ℕ) (run' : Run) (by : RawPoint) (moves : List RawPoint)
      → ((first p q : Point) → found q ≡ moved_by p by → turn_of false f version base (state first p) ≡ found (gives (on_way true place' left' run' (if begun then first else q) q)))
      → Reads f version base true place' left' run' moves → Reads f version base begun place left run (by ∷ moves)
  unfolding points_then
  steps place' left' run' by moves turn rest first p (q ∷ qs) (W.step m l) =
      sym (gives_trace f (encoded_in version base) (state first p) (on_way true place' left' run' (if begun then first else q) q) (sym (turn first p q (sym m))))
      ∙ ap (point q) (rest (if begun then first else q) q qs l)
  steps place' left' run' by moves turn rest first p [] l = elim l [ ]

  -- a turn that reads on
  pub reads_on : (place' left' : ℕ) (run' : Run) (moves : List RawPoint) → ((first p : Point) → turn_of false f version base (state first p) ≡ found (again (on_way begun place' left' run' first p)))
      → Reads f version base begun place' left' run' moves → Reads f version base begun place left run moves
  reads_on place' left' run' moves turn rest first p qs l =
      sym (again_trace f (encoded_in version base) (state first p) (on_way begun place' left' run' first p) (sym (turn first p))) ∙ rest first p qs l

  -- a turn that closes
  pub closes_with : (place' left' : ℕ) → ((first p : Point) → turn_of false f version base (state first p) ≡ found (gives (closing (on_way begun place' left' Idle first p))))
      → Reads f version base begun place left run []
  unfolding points_then
  closes_with place' left' turn first p (_ ∷ _) l = elim l [ ]
  closes_with place' left' turn first p [] W.stays = let end = closing (on_way begun place' left' Idle first p) in
      sym (gives_trace f (encoded_in version base) (state first p) end (sym (turn first p))) ∙ ap (point first) (sym (ends_trace f (encoded_in version base) end
      (sym (closed_ends false f version base end refl)))) ∙ ap (λ (q : Point). point q closed) (same begun) where
        same : (t : Bool) → first ≡ (if t then first else first)
        same true = refl
        same false = refl
