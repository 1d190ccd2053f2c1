-- What the check of a list of pieces knows, piece by piece. Assumes nothing.
use Rattle.numbers.proofs.Prelude.{ℕ, suc, ◌+◌, ◌≤◌, ◌<◌, length, take, set, length-append, length-set, take-suc-set, Bool, true, false, List, [], ◌∷◌, ◌++◌, ◌≡◌, refl, sym, ap, ◌∙◌, add-one, arith}
use Rattle.numbers.specs.{Answer.{if◌then◌else◌}, declared.point.RawPoint.{RawPoint}}
use Rattle.writer.specs.{Pieces.{accepted, good_pieces, piece_at, first_pieces}, declared.{pieces.Check.{Check}, write.Piece.{Piece}}, inner.Stored.{end_of, Checked}}

module _ (earlier : List ℕ) (moves : List RawPoint) where
  pub empty : (c : Check) → c.seen ≡ 0 → c.good ≡ 0 → c.free ≡ 0 → length c.kept ≡ 16 → Checked earlier moves [] c
  unfolding good_pieces end_of
  empty c s g f k = record { seen = omega arith; size = k; kept = λ few. ap (λ (n : ℕ). take n c.kept) s; good = λ few. g; free = λ few. f }

  -- ---- one piece more
  abbrev more : List Piece → Piece → List Piece
  more ps p = ps ++ (p ∷ [])

  more_length : (ps : List Piece) (p : Piece) → length (more ps p) ≡ length ps + 1
  more_length ps p = length-append ps (p ∷ [])

  end_more : (free : ℕ) (ps : List Piece) (p : Piece) → end_of free (more ps p) ≡ p.first + p.count
  unfolding end_of
  end_more free [] p = refl
  end_more free (q ∷ ps) p = end_more (q.first + q.count) ps p

  good_few : (free : ℕ) (ps : List Piece) → good_pieces earlier moves free ps ≤ length ps
  unfolding good_pieces
  good_few free [] = omega arith
  good_few free (q ∷ ps) = go (accepted earlier moves free q) (good_few (q.first + q.count) ps) where
    go : (t : Bool) {n : ℕ} → n ≤ length ps → (if t then suc n else 0) ≤ suc (length ps)
    go true h = omega arith
    go false h = omega arith

  -- after a bad piece the count stays
  good_stays : (free : ℕ) (ps : List Piece) (p : Piece) → good_pieces earlier moves free ps < length ps → good_pieces earlier moves free (more ps p) ≡ good_pieces earlier moves free ps
  unfolding good_pieces
  good_stays free [] p h = absurd (omega arith)
  good_stays free (q ∷ ps) p h = go (accepted earlier moves free q) h (good_stays (q.first + q.count) ps p) where
    go : (t : Bool) {n m : ℕ} → (if t then suc n else 0) < suc (length ps) → (n < length ps → m ≡ n) → (if t then suc m else 0) ≡ (if t then suc n else 0)
    go true h k = ap suc (k (omega arith))
    go false h k = refl

  -- while all are good, the next one decides
  good_more : (free : ℕ) (ps : List Piece) (p : Piece) → good_pieces earlier moves free ps ≡ length ps →
      good_pieces earlier moves free (more ps p) ≡ (if accepted earlier moves (end_of free ps) p then length ps + 1 else length ps)
  unfolding good_pieces end_of
  good_more free [] p e = refl
  good_more free (q ∷ ps) p e = go (accepted earlier moves free q) (accepted earlier moves (end_of (q.first + q.count) ps) p) e (good_more (q.first + q.count) ps p) where
    go : (t u : Bool) {n m : ℕ} → (if t then suc n else 0) ≡ suc (length ps) → (n ≡ length ps → m ≡ (if u then length ps + 1 else length ps)) →
        (if t then suc m else 0) ≡ (if u then suc (length ps) + 1 else suc (length ps))
    go true true e k = ap suc (k (omega arith)) ∙ omega arith
    go true false e k = ap suc (k (omega arith))
    go false u e k = absurd (omega arith)

  module _ (ps : List Piece) (p : Piece) (c : Check) (h : Checked earlier moves ps c) where
    -- beyond 16
    pub over : 16 ≤ c.seen → Checked earlier moves (more ps p) (record { seen = 17; good = c.good; free = c.free; kept = c.kept })
    over full = let many : 16 ≤ length ps = omega (arith, h.seen) in record {
      seen = omega (arith, more_length ps p);
      size = h.size;
      kept = λ few. absurd (omega (arith, more_length ps p));
      good = λ few. absurd (omega (arith, more_length ps p));
      free = λ few. absurd (omega (arith, more_length ps p));
    }

    module _ (room : c.seen < 16) where
      few : length ps ≤ 16
      few = omega (arith, h.seen)

      all_seen : c.seen ≡ length ps
      all_seen = omega (arith, h.seen)

      abbrev next : ℕ → Check
      next good = record { seen = c.seen + 1; good = good; free = p.first + p.count; kept = set c.kept c.seen p }

      one_more : (good : ℕ) → good ≡ good_pieces earlier moves 0 (more ps p) → Checked earlier moves (more ps p) (next good)
      one_more good e =
          record {
            seen = omega (arith, more_length ps p, all_seen);
            size = length-set c.kept c.seen p ∙ h.size;
            kept = λ _. rw (add-one c.seen) (take-suc-set c.kept c.seen p (omega (arith, h.size)) ∙ ap (λ (xs : List Piece). more xs p) (h.kept few));
            good = λ _. e;
            free = λ _. sym (end_more 0 ps p);
          }

      pub after_bad : (c.good ≡ c.seen → ⊥) → Checked earlier moves (more ps p) (next c.good)
      after_bad bad = one_more c.good (h.good few ∙ sym (good_stays 0 ps p (omega (arith, good_few 0 ps, not_all)))) where
        not_all : good_pieces earlier moves 0 ps < length ps
        not_all = go (good_pieces earlier moves 0 ps) (sym (h.good few)) (good_few 0 ps) where
          go : (n : ℕ) → n ≡ c.good → n ≤ length ps → n < length ps
          go n e l = omega (arith, all_seen, bad)

      module _ (good : c.good ≡ c.seen) where
        decided : good_pieces earlier moves 0 (more ps p) ≡ (if accepted earlier moves c.free p then length ps + 1 else length ps)
        decided = good_more 0 ps p (sym (h.good few) ∙ good ∙ all_seen) ∙ rw (h.free few)

        pub first_bad : accepted earlier moves c.free p ≡ false → Checked earlier moves (more ps p) (next c.good)
        first_bad e = one_more c.good (good ∙ all_seen ∙ sym (decided ∙ rw e))

        pub still_good : accepted earlier moves c.free p ≡ true → Checked earlier moves (more ps p) (next (c.seen + 1))
        still_good e = one_more (c.seen + 1) (ap (λ (n : ℕ). n + 1) all_seen ∙ sym (decided ∙ rw e))

-- ---- pieces as words
pub words_more : (i : ℕ) (words : List ℕ) → first_pieces (i + 1) words ≡ first_pieces i words ++ (piece_at words i ∷ [])
unfolding first_pieces
words_more i words = rw (add-one i)
