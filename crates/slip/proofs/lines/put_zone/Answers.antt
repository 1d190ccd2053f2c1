-- `slip::lines::put_zone` meets its contract.
use Rattle.numbers.proofs.Prelude.{◌+◌, ◌-◌, take, drop, ap, ◌∙◌}
use Rattle.line.proofs.{Puts.{put_as, put_then}, Shown.{unmasked_so}}
use Rattle.slip.proofs.{Parts.{part_slice}}
use Rattle.slip.specs.Line.{shown_text, zone_text}
use Rattle.slip.proofs.lines.put_zone.Goals as goal

pub returns : goal.returns
unfolding zone_text
returns c =
    let spot = c.args.spot in
    put_then _ _ (put_as (unmasked_so (take (spot.place + spot.size - spot.place) (drop spot.place c.args.zones.now))
    ∙ ap shown_text (part_slice c.args.zones.now spot.place spot.size)) c.put_shown-next.ensures) (put_then _ _ c.put-space.ensures c.put_name.ensures)
