-- `slip::lines::put_zones` meets its contract.
use Rattle.numbers.proofs.Prelude.{length, take, List, refl, sym, ap, subst, ◌∙◌, arith}
use Rattle.line.proofs.Puts.{put_as}
use Rattle.slip.proofs.{Zones.{lining_none, lining_one, lining_stop, lining_all, first_of}}
use Rattle.numbers.proofs.Replies.{held}
use Rattle.request.specs.Told.{shown}
use Rattle.slip.specs.Told.{Stands, name_in, hour_at, is_named_in, added_by}
use Rattle.table.{proofs.Words.{count_slots, slot_is}, specs.{Hits.{slots}, declared.hits.Hit.{Hit}}}
use Rattle.slip.proofs.lines.put_zones.Goals as goal

pub loop-i-init : goal.loop-i-init
loop-i-init c =
    lining_none _ _ _ _ _ _ _

pub returns-in_default : goal.returns-in_default
returns-in_default c =
    let pre = c.requires.0 in
    lining_stop _ _ _ _ (take c.args.count (slots c.args.hits.now)) _ _ _ _ c.loop-i.i c.loop-i.invariant (omega (
      arith,
      c.loop-i-test.true,
      count_slots
          c.args.hits.now c.args.count pre,
    )) (slot_is c.args.hits.now c.args.count pre _ _ c.loop-i-test.true refl) (sym c.hour_again.ensures.0
    ∙ ap (λ reply. shown reply (hour_at c.args.map.now c.args.zones.now)) c.in_default.is)

pub put_added-next-requires : goal.put_added-next-requires
put_added-next-requires c = (
  held (Stands (length c.args.map.now) (length c.args.zones.now)) c.in-Ok.is c.hour_again.ensures.1,
  omega (
    arith,
    c.requires.0,
    c.loop-i-test.true,
  ),
)

pub loop-i-preserved : goal.loop-i-preserved
loop-i-preserved c =
    let taken = c.loop-i-test.true in
    let pre = c.requires.0 in
    let said = c.in-Ok.spot in
    let same = first_of c.loop-i.i c.args.count (slots c.args.hits.now) (omega (arith, taken)) in
    lining_one _ _ _ _ (take c.args.count (slots c.args.hits.now)) _ _ _ _ c.loop-i.i c.loop-i.invariant (omega (
      arith,
      taken,
      count_slots c.args.hits.now
          c.args.count pre,
    )) (slot_is c.args.hits.now c.args.count pre _ _ taken refl) (sym c.hour_again.ensures.0
    ∙ ap (λ reply. shown reply (hour_at c.args.map.now c.args.zones.now)) c.in-Ok.is) (put_as (ap (λ (ms : List Hit). added_by (is_named_in c.args.map.now c.args.head (name_in
    c.args.map.now said.name) ms) c.loop-i.i (hour_at c.args.map.now c.args.zones.now said)) same) c.put_added-next.ensures)

pub returns : goal.returns
returns c =
    lining_all _ _ _ _ (take c.args.count (slots c.args.hits.now)) _ _ _ _ c.loop-i.i c.loop-i.invariant (omega (
      arith,
      c.loop-i-test.false,
      count_slots
          c.args.hits.now c.args.count c.requires.0,
    ))
