-- `writer::pieces::check_words` meets its contract.
use Rattle.numbers.proofs.Prelude.{ℕ, ◌+◌, List, [], ◌∷◌, ◌++◌, ◌≡◌, sym, ap, subst, ◌∙◌, arith}
use Rattle.writer.specs.{Moves.{moves_of}, Pieces.{first_pieces, pieces_of}, declared.write.Piece.{Piece}, inner.Stored.{Checked}}
use Rattle.writer.proofs.{Gathering.{words_more}}
use Rattle.writer.proofs.pieces.check_words.Goals as goal

pub loop-i-init : goal.loop-i-init
unfolding first_pieces
loop-i-init c =
    (omega arith, λ h. h)

pub loop-i-preserved : goal.loop-i-preserved
loop-i-preserved c =
    let words = c.args.words.now in
    let one : first_pieces c.loop-i.i words ++ (c.piece_at.result ∷ []) ≡ first_pieces (c.loop-i.i + 1) words = ap (λ (p : Piece). first_pieces c.loop-i.i words ++
    (p ∷ [])) c.piece_at.ensures ∙ sym (words_more c.loop-i.i words) in (
      omega arith,
      λ h. subst (λ (ps : List Piece). Checked c.args.earlier.now (moves_of c.args.lats.now c.args.lons.now) ps c.check_next-sofar.result) one
          (c.check_next-sofar.ensures (first_pieces c.loop-i.i words) (c.loop-i.invariant.1 h)),
    )

pub returns : goal.returns
unfolding pieces_of
returns c =
    let words = c.args.words.now in
    λ h. subst (λ (n : ℕ). Checked c.args.earlier.now (moves_of c.args.lats.now c.args.lons.now) (first_pieces n words) c.loop-i.sofar) (omega (
      arith,
      c.loop-i.invariant.0,
      c.loop-i-test.false,
    )) (c.loop-i.invariant.1 h)
