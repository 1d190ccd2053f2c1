-- `build::fill::fill` meets its contract.
use Rattle.numbers.proofs.Prelude.{length-take-le, refl, sym, ◌∙◌, arith}
use Rattle.build.proofs.{Filing.{filling_laying, filling_headed, filling_section, filling_file}, Needed.{cuts, boxes_room, stored_same, under, as_few, four_times}}
use Rattle.build.proofs.fill.fill.Goals as goal

pub offset_bounds-plan-front : goal.offset_bounds-plan-front
offset_bounds-plan-front c =
    omega (arith, (cuts c.args.plan.asked.names c.args.plan.yards.now c.args.plan.lengths.now c.args.plan.texts.now c.requires.0.good c.args.need c.requires.0.is).few_front)

pub slice_bounds-lay_records-count : goal.slice_bounds-lay_records-count
slice_bounds-lay_records-count c =
    (cuts c.args.plan.asked.names c.args.plan.yards.now c.args.plan.lengths.now c.args.plan.texts.now c.requires.0.good c.args.need c.requires.0.is).front_all

pub slice_bounds-lay_records-start : goal.slice_bounds-lay_records-start
slice_bounds-lay_records-start c =
    (cuts c.args.plan.asked.names c.args.plan.yards.now c.args.plan.lengths.now c.args.plan.texts.now c.requires.0.good c.args.need c.requires.0.is).front_all

pub slice_bounds-lay_records-end : goal.slice_bounds-lay_records-end
slice_bounds-lay_records-end c =
    (cuts c.args.plan.asked.names c.args.plan.yards.now c.args.plan.lengths.now c.args.plan.texts.now c.requires.0.good c.args.need c.requires.0.is).all_in

pub slice_bounds-lay_records-count-2 : goal.slice_bounds-lay_records-count-2
slice_bounds-lay_records-count-2 c =
    (cuts c.args.plan.asked.names c.args.plan.yards.now c.args.plan.lengths.now c.args.plan.texts.now c.requires.0.good c.args.need c.requires.0.is).behind_sum

pub slice_bounds-lay_records-start-2 : goal.slice_bounds-lay_records-start-2
slice_bounds-lay_records-start-2 c =
    (cuts c.args.plan.asked.names c.args.plan.yards.now c.args.plan.lengths.now c.args.plan.texts.now c.requires.0.good c.args.need c.requires.0.is).behind_sum

pub slice_bounds-lay_records-end-2 : goal.slice_bounds-lay_records-end-2
slice_bounds-lay_records-end-2 c =
    (cuts c.args.plan.asked.names c.args.plan.yards.now c.args.plan.lengths.now c.args.plan.texts.now c.requires.0.good c.args.need c.requires.0.is).sum_in

pub lay_records-section-requires : goal.lay_records-section-requires
lay_records-section-requires c =
    filling_laying _ _ _ _ _ _ c.requires.0

pub overflow_cast-form : goal.overflow_cast-form
overflow_cast-form c =
    omega (arith, (cuts c.args.plan.asked.names c.args.plan.yards.now c.args.plan.lengths.now c.args.plan.texts.now c.requires.0.good c.args.need c.requires.0.is).few_names)

pub slice_bounds-put_file-end : goal.slice_bounds-put_file-end
slice_bounds-put_file-end c =
    sym (length-take-le _ _ (cuts c.args.plan.asked.names c.args.plan.yards.now c.args.plan.lengths.now c.args.plan.texts.now c.requires.0.good c.args.need c.requires.0.is).front_in)

pub slice_bounds-put_file-end-2 : goal.slice_bounds-put_file-end-2
slice_bounds-put_file-end-2 c =
    under _ _ _ (filling_laying _ _ _ _ _ _ c.requires.0).keys_count c.keys-1.given

pub slice_bounds-put_file-end-3 : goal.slice_bounds-put_file-end-3
slice_bounds-put_file-end-3 c =
    sym (length-take-le _ _ (under _ _ _ (filling_laying _ _ _ _ _ _ c.requires.0).keys_count c.keys-1.given))

pub put_file-requires : goal.put_file-requires
put_file-requires c = (
  filling_headed _ _ _ _ _ _ c.requires.0,
  filling_section _ _ _ _ _ _ c.requires.0 _ _ _ _ _ _ _ _ _ c.lay_records-section.ensures,
  length-take-le _ _ (under _
      _ _ (filling_laying _ _ _ _ _ _ c.requires.0).keys_count c.keys-1.given) ∙ (cuts c.args.plan.asked.names c.args.plan.yards.now c.args.plan.lengths.now c.args.plan.texts.now
      c.requires.0.good c.args.need c.requires.0.is).count_is,
  as_few _ _ _ _ (length-take-le _ _ (under _ _ _ (filling_laying _ _ _ _ _ _ c.requires.0).keys_count
      c.keys-1.given)) (cuts c.args.plan.asked.names c.args.plan.yards.now c.args.plan.lengths.now c.args.plan.texts.now c.requires.0.good c.args.need c.requires.0.is).few_count refl,
  four_times _ _ _ _ (length-take-le _ _ (under _ _ _ (filling_laying _ _ _ _ _ _ c.requires.0).keys_count c.keys-1.given)) (boxes_room _ _ _ _ _ _
      c.requires.0) refl,
  as_few _ _ _ _ (length-take-le _ _ (under _ _ _ (filling_laying _ _ _ _ _ _ c.requires.0).keys_count c.keys-1.given)) (filling_laying _ _
      _ _ _ _ c.requires.0).spare_count c.spare-1.given,
  c.requires.1,
)

pub returns : goal.returns
returns c =
    λ drawn d. stored_same _ _ (filling_file _ _ _ _ _ _ c.requires.0 _ _ _ _ _ _ _ _ _ c.lay_records-section.ensures _ _ _ _ _ c.args.plan.pieces.now _ _ _ _ _
    c.put_file.ensures.0 drawn d refl _) c.put_file.ensures.1
