-- `edit::replacing::put::put_value` meets its contract.
use Rattle.numbers.proofs.Prelude.{◌-◌, length, length-take-le, refl, sym, ◌∙◌, arith}
use Rattle.draft.specs.Held.State.{lists_as}
use Rattle.edit.proofs.replacing.{Answered.{back_room, kept_room, renews_again, sums_room}, Exchanges.{kept_part}}
use Rattle.edit.proofs.replacing.put.put_value.Goals as goal

pub resum-changed-requires : goal.resum-changed-requires
resum-changed-requires c =
    sums_room c.args.builder c.args.spot (length c.args.text.now) _ _ _ (length c.args.out.now) _ c.requires _ c.put_in-strings.ensures.put.end_is _ _
    c.lengths-1.given c.texts-1.given

pub spot_up_to-again-requires : goal.spot_up_to-again-requires
spot_up_to-again-requires c =
    (omega (arith, c.requires.short, c.requires.inside, c.requires.ordered), c.requires.few)

pub slice_bounds-old-end : goal.slice_bounds-old-end
slice_bounds-old-end c =
    kept_room _ _ _ _ (c.args.spot.from - c.args.spot.place) c.put_bytes.ensures refl c.requires.few_old

pub slice_bounds-take_back-end : goal.slice_bounds-take_back-end
slice_bounds-take_back-end c =
    sym (length-take-le (c.args.spot.from - c.args.spot.place) c.put_bytes.new.out (kept_room _ _ _ _ (c.args.spot.from - c.args.spot.place) c.put_bytes.ensures
    refl c.requires.few_old))

pub take_back-requires : goal.take_back-requires
take_back-requires c =
    back_room c.args.builder c.args.spot (length c.args.text.now) _ _ _ _ _ c.requires _ c.put_in-strings.ensures.put.end_is _ _ c.lengths-1.given c.texts-1.given _
    c.spot_up_to-again.ensures _ _ (length-take-le (c.args.spot.from - c.args.spot.place) c.put_bytes.new.out (kept_room _ _ _ _ (c.args.spot.from -
    c.args.spot.place) c.put_bytes.ensures refl c.requires.few_old)) c.out-1.given

pub returns : goal.returns
returns c =
    λ bytes. renews_again c.args.builder c.args.spot c.args.text.now (lists_as c.args.boxes.now c.args.borders.now c.args.lengths.now c.args.texts.now bytes) _ _ _
    c.put_in-strings.ensures _ c.resum-changed.ensures _ _ _ _ (kept_part c.args.spot.place c.args.spot.from c.args.texts.now _ _ _ c.requires.ordered (omega
    (arith, c.requires.inside, c.requires.old_fits)) c.requires.few_old c.put_bytes.ensures) _ c.spot_up_to-again.ensures c.take_back.ensures (c.texts-2-1.given
    ∙ c.texts-1.given)
