-- `builder::drawing::section::draw_yards` meets its contract.
use Rattle.numbers.proofs.Prelude.{ℕ, ◌+◌, ◌*◌, set, ap, length-take-le, refl, sym, ◌∙◌}
use Rattle.numbers.proofs.Replies.{passed_on}
use Rattle.builder.proofs.drawing.{Sections.{border_put, section_starts, section_refused, border_inside, section_goes, section_ends}}
use Rattle.builder.proofs.drawing.section.draw_yards.Goals as goal

pub loop-count-init : goal.loop-count-init
loop-count-init c =
    rw (c.into_iter-count-iterator.ensures.into_iter_gives, c.enumerate-count-items.ensures.source) (
      section_starts _ _ _ _ _ _ _ _ _ c.requires.0 c.requires.1 refl c.requires.4 _ _ _ c.chunks_exact.ensures.rest c.chunks_exact.ensures.size
          c.enumerate-count-items.ensures.count,
      refl,
    )

pub returns-in_err-drawn : goal.returns-in_err-drawn
returns-in_err-drawn c =
    section_refused _ _ _ _ _ _ _ _ _ _ _ _ _ _ _ _ _ c.loop-count.invariant.0 _ _ c.in-Some.ensures.steps.0.1.0 c.in-Some.ensures.steps.0.1.1 _ _ c.draw_yard.ensures _ c.in_err-drawn.was _ (passed_on _ c.from_residual.ensures.1)

pub slice_bounds-put_bytes-end : goal.slice_bounds-put_bytes-end
slice_bounds-put_bytes-end c =
    border_inside _ _ _ _ _ _ _ _ _ _ _ _ _ _ _ _ _ c.loop-count.invariant.0 _ _ c.in-Some.ensures.steps.0.1.0 c.in-Some.ensures.steps.0.1.1 _ _ c.draw_yard.ensures _ c.in_ok-drawn.was

pub slice_bounds-put_bytes-end-in-loop-count : goal.slice_bounds-put_bytes-end-in-loop-count
slice_bounds-put_bytes-end-in-loop-count c =
    sym (length-take-le _ _ (border_inside _ _ _ _ _ _ _ _ _ _ _ _ _ _ _ _ _ c.loop-count.invariant.0 _ _ c.in-Some.ensures.steps.0.1.0 c.in-Some.ensures.steps.0.1.1 _ _ c.draw_yard.ensures _ c.in_ok-drawn.was))

pub put_bytes-size-requires : goal.put_bytes-size-requires
put_bytes-size-requires c =
    border_put _ _ _ _ _ _ _ _ _ _ _ _ _ _ _ _ _ c.loop-count.invariant.0 _ _ c.in-Some.ensures.steps.0.1.0 c.in-Some.ensures.steps.0.1.1 _ _ c.draw_yard.ensures _ c.in_ok-drawn.was c.requires.3

pub loop-count-preserved : goal.loop-count-preserved
loop-count-preserved c = (
  section_goes _ _ _ _ _ _ _ _ _ _ _ _ _ _ _ _ _ c.loop-count.invariant.0 _ _ c.in-Some.ensures.steps.0.1.0 c.in-Some.ensures.steps.0.1.1 _ _ c.draw_yard.ensures _ c.in_ok-drawn.was _ (c.store.ensures ∙ ap (λ (n : ℕ). set c.loop-count.places (2 * n + 1) c.loop-count.size) c.in-Some.ensures.steps.1) _ _
      c.put_bytes-size.ensures _ _ _ c.next_part-lat.ensures c.next_part-lon.ensures c.next_part-piece.ensures _ _ c.in-Some.ensures.steps.0.0 c.in-Some.ensures.steps.2,
  c.draw_yard.auto.out
      ∙ c.loop-count.invariant.1,
)

pub returns : goal.returns
returns c =
    section_ends _ _ _ _ _ _ _ _ _ _ _ _ _ _ _ _ _ c.loop-count.invariant.0 c.in-None.ensures.steps.0.1.0
