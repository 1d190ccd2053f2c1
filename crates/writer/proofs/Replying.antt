-- The reply and the buffer, for each way out of the writer. Assumes nothing.
use Rattle.numbers.proofs.{Lists.{zeros_drop}, Prelude.{ℕ, ◌-◌, ◌^◌, ◌≤◌, ◌<◌, eq-eqb, ne_eqb, le-leb, leb-true, lt-leb, eqb, ltb, leb, ℤ, length, take, drop, length-replicate, Bool, true, false}}
use Rattle.numbers.{proofs.{Prelude.{List, [], ◌∷◌, ◌++◌, flat_map, ◌≡◌, refl, sym, ap, ◌∙◌, arith}, Replies.{demanded}}, specs.{Answer.{if◌then◌else◌}, Lists.{zeros}, Reply.{Reply, given, refused}}}
use Rattle.numbers.specs.{Reply.{refusal, plain, ◌>>◌}, Spelling.{varint_of}, declared.{point.RawPoint.{RawPoint}, refusal.Refusal.{Refusal}}}
use Rattle.writer.specs.{Moves.{plain_move_bytes, moves_of}, Pieces.{packed_from}, Writer.{sized, checks, plain_border, packed_border, border_of, Replied, replied, fitted}}
use Rattle.writer.specs.{declared.{pieces.Check.{Check}, write.Piece.{Piece}}, inner.Stored.{Stored, Checked}}
use Rattle.writer.proofs.{Faults.{Sizes, sizes}, Indexed.{border_length}, Stores.{stored_front, stored_length}}

-- ---- what was stored over zeros, if it fits
module _ (n : ℕ) (answer : Reply (List ℕ)) where
  pub refusing : (why : Refusal) (out : List ℕ) → answer ≡ refused why → out ≡ zeros n → replied (refused why) out ≡ fitted n answer
  unfolding fitted
  refusing why out is e = ap (replied (refused why)) e ∙ ap (fitted n) (sym is)

  pub finished : (bytes before after : List ℕ) (next : ℕ) (r : Replied) → answer ≡ given bytes → before ≡ zeros n → Stored before 0 bytes after next
      → r ≡ (if leb next (length after) then replied (given next) after else replied (refused (plain 24)) (zeros (length after))) → r ≡ fitted n answer
  unfolding fitted
  finished bytes before after next r is z s e = let size : length before ≡ n = ap length z ∙ length-replicate {A = ℕ} n 0 in
      let size' : length after ≡ n = stored_length s ∙ size in let end : next ≡ length bytes = omega (arith, s.place_after) in
      e ∙ ap (λ (k : ℕ). if leb k (length after) then replied (given k) after else replied (refused (plain 24)) (zeros (length after))) end
      ∙ ap (λ (k : ℕ). if leb (length bytes) k then replied (given (length bytes)) after else replied (refused (plain 24)) (zeros k)) size'
      ∙ by_test (leb (length bytes) n) refl size ∙ ap (fitted n) (sym is) where
        by_test : (t : Bool) → leb (length bytes) n ≡ t → length before ≡ n → (if t then replied (given (length bytes)) after else replied (refused (plain 24))
            (zeros n)) ≡ (if t then replied (given (length bytes)) (bytes ++ zeros (n - length bytes)) else replied (refused (plain 24)) (zeros n))
        by_test true t size =
            ap (replied (given (length bytes))) (stored_front before bytes after next s (omega (arith, leb-true (length bytes) n t))
            ∙ ap (λ (xs : List ℕ). bytes ++ drop (length bytes) xs) z ∙ ap (λ (xs : List ℕ). bytes ++ xs) (zeros_drop (length bytes) n))
        by_test false t size = refl

-- ---- the border after its checks
module _ (version : ℕ) (lats lons : List ℤ) (earlier : List ℕ) (ps : List Piece) where
  abbrev border : Reply (List ℕ)
  border = border_of version lats lons ps earlier

  abbrev moves : List RawPoint
  moves = moves_of lats lons

  pub faulty : {why : Refusal} → refused why ≡ checks version lats lons earlier → border ≡ refused why
  unfolding border_of
  faulty e = ap (λ (r : Reply (Unit {0})). r >> (if eqb version 0 then plain_border moves ps else packed_border moves ps earlier)) (sym e)

  module _ (good : given tt ≡ checks version lats lons earlier) where
    pub good_sizes : Sizes lats lons
    unfolding checks
    good_sizes = let h₁ = demanded (leb (length earlier) (2 ^ 30)) (plain 1) good in
        sizes lats lons (demanded (sized lats lons) (plain 19) (demanded (ltb version 2) (refusal 5 0 version) h₁.1).1).0

    onward : border ≡ (if eqb version 0 then plain_border moves ps else packed_border moves ps earlier)
    unfolding border_of
    onward = ap (λ (r : Reply (Unit {0})). r >> (if eqb version 0 then plain_border moves ps else packed_border moves ps earlier)) (sym good)

    module _ (c : Check) (h : Checked earlier moves ps c) where
      module _ (v : version ≡ 0) where
        pub plain_none : (c.seen ≡ 0 → ⊥) → border ≡ refused (plain 23)
        unfolding plain_border
        plain_none some = onward ∙ rw (eq-eqb version 0 v, ne_eqb (length ps) 0 (λ z. some (omega (arith, h.seen))))

        pub plain_given : c.seen ≡ 0 → border ≡ given (varint_of (length lats) ++ (flat_map plain_move_bytes moves ++ (2 ∷ 2 ∷ [])))
        unfolding plain_border
        plain_given none = let size : length moves ≡ length lats = omega (arith, border_length lats lons, good_sizes.same) in
            onward ∙ rw (eq-eqb version 0 v, eq-eqb (length ps) 0 (omega (arith, h.seen)), size)

      module _ (v : version ≡ 0 → ⊥) where
        pub packed_many : 16 < c.seen → border ≡ refused (refusal 23 0 16)
        unfolding packed_border
        packed_many many = onward ∙ rw (ne_eqb version 0 v, lt-leb (length ps) 16 (omega (arith, h.seen)))

        module _ (few : c.seen ≤ 16) where
          short : length ps ≤ 16
          short = omega (arith, h.seen)

          all_seen : c.seen ≡ length ps
          all_seen = omega (arith, h.seen)

          pub packed_bad : (c.good ≡ c.seen → ⊥) → border ≡ refused (refusal 23 0 c.good)
          unfolding packed_border
          packed_bad bad =
              onward ∙ rw (ne_eqb version 0 v, le-leb (length ps) 16 short, sym (h.good short), ne_eqb c.good (length ps) (λ z. bad (z ∙ sym all_seen)))

          pub packed_given : c.good ≡ c.seen → border ≡ given (packed_from moves 0 (take c.seen c.kept))
          unfolding packed_border
          packed_given ok =
              onward ∙ rw (ne_eqb version 0 v, le-leb (length ps) 16 short, sym (h.good short), eq-eqb c.good (length ps) (ok ∙ all_seen), h.kept short)
