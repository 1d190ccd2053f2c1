-- `build::metadata::remotes::put_remotes` meets its contract.
use Rattle.numbers.proofs.Prelude.{refl, arith}
use Rattle.build.proofs.metadata.{Remoted.{place_starts, text_end, text_fits, next_behind, next_small, place_new, place_old, place_ends}}
use Rattle.writer.proofs.Stores.{stored_length}
use Rattle.build.proofs.metadata.remotes.put_remotes.Goals as goal
use Rattle.build.proofs.metadata.remotes.put_remotes.Goals.{then-word-next, else-word-next}

pub loop-i-init : goal.loop-i-init
loop-i-init c =
    place_starts _ _ _ c.requires.1 c.requires.3 _ _ c.requires.2

pub slice_bounds-put_text-end : goal.slice_bounds-put_text-end
slice_bounds-put_text-end c =
    text_end _ _ _ c.requires.1 c.requires.3 _ _ _ _ _ _ c.loop-i.invariant c.loop-i-test.true

pub loop-i-preserved : goal.loop-i-preserved
loop-i-preserved c = elim c.if-word-next.branch [
  | then-word-next w ↦ rw (w.out-is, w.next-is) (place_new _ _ _ c.requires.1 c.requires.3 _ _ _ _ _ _ c.loop-i.invariant c.loop-i-test.true _ refl w.if-word-next.true _ _
      w.put_text-next.ensures)
  | else-word-next w ↦ rw (w.out-is, w.next-is) (place_old _ _ _ c.requires.1 c.requires.3 _ _ _ _ _ _ c.loop-i.invariant c.loop-i-test.true _ refl w.if-word-next.false)
]

pub returns : goal.returns
returns c =
    place_ends _ _ _ c.requires.1 c.requires.3 _ _ _ _ _ _ c.loop-i.invariant c.loop-i-test.false
