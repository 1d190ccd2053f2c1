-- `zone::lines::put_matches` meets its contract: the matches from i on are still to come.
use Rattle.numbers.proofs.Prelude.{◌/◌, ◌≤◌, min, length, List, ap, ◌∙◌, arith}
use Rattle.header.proofs.Buffers.{tail_lent}
use Rattle.line.proofs.Puts.{put_as}
use Rattle.table.{proofs.Words.{count_slots, slot_is}, specs.{Hits.{width}, declared.hits.Hit.{Hit}}}
use Rattle.zone.proofs.{Printing.{no_match_yet, one_match, all_matches, all_slots, within, partly_length}}
use Rattle.zone.specs.Lines.{match_lines}
use Rattle.zone.proofs.lines.put_matches.Goals as goal

pub loop-i-init : goal.loop-i-init
loop-i-init c =
    no_match_yet _ _ _ _ _

pub hit_at-hit-requires : goal.hit_at-hit-requires
hit_at-hit-requires c =
    omega (arith, c.loop-i-test.true, c.min-all.ensures, c.room.ensures)

pub slice_bounds-put_fields-count : goal.slice_bounds-put_fields-count
slice_bounds-put_fields-count c =
    omega (arith, c.loop-i.invariant.inside)

pub slice_bounds-put_fields-start : goal.slice_bounds-put_fields-start
slice_bounds-put_fields-start c =
    omega (arith, c.loop-i.invariant.inside)

pub slice_bounds-put_fields-end : goal.slice_bounds-put_fields-end
slice_bounds-put_fields-end c =
    omega (arith, c.loop-i.invariant.inside)

pub overflow_add-place : goal.overflow_add-place
overflow_add-place c =
    omega (
      arith,
      c.well_formed,
      within c.args.text.now c.loop-i.place _ (tail_lent c.loop-i.place c.args.text.now) c.loop-i.invariant.inside
          c.put_fields-places.ensures.1.inside,
    )

pub loop-i-preserved : goal.loop-i-preserved
loop-i-preserved c =
    let fits : c.min-all.result ≤ length c.args.hits.now / width = omega (arith, c.min-all.ensures, c.room.ensures) in
    let many = count_slots c.args.hits.now c.min-all.result fits in
    let is = slot_is c.args.hits.now c.min-all.result fits c.hit_at-hit.result c.loop-i.i c.loop-i-test.true c.hit_at-hit.ensures in
    one_match c.loop-i.place c.loop-i.i _ c.hit_at-hit.result (omega (arith, c.loop-i-test.true, many)) is (tail_lent c.loop-i.place c.args.text.now)
    c.loop-i.invariant c.put_match-fields.ensures c.put_fields-places.ensures.0 c.put_fields-places.ensures.1

pub shape_of-out : goal.shape_of-out
shape_of-out c =
    partly_length c.loop-i.invariant.partly

pub returns : goal.returns
returns c =
    let fits : c.min-all.result ≤ length c.args.hits.now / width = omega (arith, c.min-all.ensures, c.room.ensures) in
    let all = all_slots c.args.hits.now c.args.matches c.min-all.result (c.min-all.ensures ∙ ap (min c.args.matches) c.room.ensures) in
    put_as (ap (λ (hs : List Hit). match_lines c.args.count hs c.args.text.now) all) (all_matches c.loop-i.place c.loop-i.i (omega (
      arith,
      c.loop-i-test.false,
      count_slots c.args.hits.now c.min-all.result fits,
    )) c.loop-i.invariant)
