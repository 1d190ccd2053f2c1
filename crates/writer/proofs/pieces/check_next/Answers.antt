-- `writer::pieces::check_next` meets its contract.
use Rattle.numbers.proofs.Prelude.{sym, ◌∙◌}
use Rattle.writer.proofs.{Gathering.{over, after_bad, first_bad, still_good}}
use Rattle.writer.proofs.pieces.check_next.Goals as goal

pub returns-then-seen-ge-MOST_PIECES : goal.returns-then-seen-ge-MOST_PIECES
returns-then-seen-ge-MOST_PIECES c =
    λ ps h. over _ _ ps c.args.piece c.args.check h c.if-seen-ge-MOST_PIECES.true

pub returns-then-check-seen : goal.returns-then-check-seen
returns-then-check-seen c =
    λ ps h. after_bad _ _ ps c.args.piece c.args.check h c.if-seen-ge-MOST_PIECES.false c.if-check-seen.true

pub returns-then-not-is_accepted : goal.returns-then-not-is_accepted
returns-then-not-is_accepted c =
    λ ps h. first_bad _ _ ps c.args.piece c.args.check h c.if-seen-ge-MOST_PIECES.false c.if-check-seen.false (sym c.is_accepted.ensures ∙ c.if-not-is_accepted.true)

pub returns : goal.returns
returns c =
    λ ps h. still_good _ _ ps c.args.piece c.args.check h c.if-seen-ge-MOST_PIECES.false c.if-check-seen.false (sym c.is_accepted.ensures ∙ c.if-not-is_accepted.false)
