-- `build::recording::section::lay_records` meets its contract.
use Rattle.numbers.proofs.Prelude.{◌+◌, length, drop, length-take-le, take_at, ◌++◌, refl, sym, ◌∙◌, arith}
use Rattle.build.proofs.recording.Recording.{laying_shares, sizes_few, bytes_few, kept_size, held_size, laying_fields, laying_ready, laying_ends, keeps_as, front_same, front_reach}
use Rattle.build.proofs.recording.section.lay_records.Goals as goal

pub overflow_add-end : goal.overflow_add-end
overflow_add-end c =
    omega (
      arith,
      sizes_few _ _ _ _ _ _ _ _ _ _ _ c.requires _ _ _ _ _ _ _ _ refl refl (keeps_as _ _ _ _ _ _ _ _ _ _ _ _ _ (length-take-le _ _
          c.requires.keys_count) c.share_records-sizes.ensures),
      c.requires.bound,
    )

pub slice_bounds-lay_fields-end : goal.slice_bounds-lay_fields-end
slice_bounds-lay_fields-end c =
    omega (
      arith,
      sizes_few _ _ _ _ _ _ _ _ _ _ _ c.requires _ _ _ _ _ _ _ _ refl refl (keeps_as _ _ _ _ _ _ _ _ _ _ _ _ _ (length-take-le _ _
          c.requires.keys_count) c.share_records-sizes.ensures),
      kept_size _ _ _ _ _ _ _ _ _ _ _ c.requires _ _ _ _ _ _ _ _ refl refl (keeps_as _ _ _ _ _ _ _ _ _ _ _ _
          _ (length-take-le _ _ c.requires.keys_count) c.share_records-sizes.ensures),
      c.requires.kept_room,
    )

pub slice_bounds-lay_fields-end-2 : goal.slice_bounds-lay_fields-end-2
slice_bounds-lay_fields-end-2 c =
    sym (length-take-le _ _ ((omega (
      arith,
      sizes_few _ _ _ _ _ _ _ _ _ _ _ c.requires _ _ _ _ _ _ _ _ refl refl (keeps_as _ _ _ _ _ _ _ _ _ _ _ _ _
          (length-take-le _ _ c.requires.keys_count) c.share_records-sizes.ensures),
      kept_size _ _ _ _ _ _ _ _ _ _ _ c.requires _ _ _ _ _ _ _ _ refl refl (keeps_as _ _
          _ _ _ _ _ _ _ _ _ _ _ (length-take-le _ _ c.requires.keys_count) c.share_records-sizes.ensures),
      c.requires.kept_room,
    ))))

pub slice_bounds-lay_fields-end-3 : goal.slice_bounds-lay_fields-end-3
slice_bounds-lay_fields-end-3 c =
    omega (
      arith,
      bytes_few _ _ _ _ _ _ _ _ _ _ _ c.requires _ _ _ _ _ _ _ _ refl refl (keeps_as _ _ _ _ _ _ _ _ _ _ _ _ _ (length-take-le _ _
          c.requires.keys_count) c.share_records-sizes.ensures),
      held_size _ _ _ _ _ _ _ _ _ _ _ c.requires _ _ _ _ _ _ _ _ refl refl (keeps_as _ _ _ _ _ _ _ _ _ _ _ _
          _ (length-take-le _ _ c.requires.keys_count) c.share_records-sizes.ensures),
      c.requires.held_room,
    )

pub slice_bounds-lay_fields-end-4 : goal.slice_bounds-lay_fields-end-4
slice_bounds-lay_fields-end-4 c =
    sym (length-take-le _ _ ((omega (
      arith,
      bytes_few _ _ _ _ _ _ _ _ _ _ _ c.requires _ _ _ _ _ _ _ _ refl refl (keeps_as _ _ _ _ _ _ _ _ _ _ _ _ _
          (length-take-le _ _ c.requires.keys_count) c.share_records-sizes.ensures),
      held_size _ _ _ _ _ _ _ _ _ _ _ c.requires _ _ _ _ _ _ _ _ refl refl (keeps_as _ _
          _ _ _ _ _ _ _ _ _ _ _ (length-take-le _ _ c.requires.keys_count) c.share_records-sizes.ensures),
      c.requires.held_room,
    ))))

pub slice_bounds-lay_fields-end-5 : goal.slice_bounds-lay_fields-end-5
slice_bounds-lay_fields-end-5 c =
    front_reach c.args.starts.now c.share_records-sizes.new.starts (length c.args.lengths.now + 1) _ c.share_records-sizes.auto.starts (omega (
      arith,
      sizes_few _
          _ _ _ _ _ _ _ _ _ _ c.requires _ _ _ _ _ _ _ _ refl refl (keeps_as _ _ _ _ _ _ _ _ _ _ _ _ _ (length-take-le _ _ c.requires.keys_count)
          c.share_records-sizes.ensures),
      c.requires.starts_room,
    ))

pub slice_bounds-lay_fields-end-6 : goal.slice_bounds-lay_fields-end-6
slice_bounds-lay_fields-end-6 c =
    sym (length-take-le _ _ ((front_reach c.args.starts.now c.share_records-sizes.new.starts (length c.args.lengths.now + 1) _ c.share_records-sizes.auto.starts
    (omega (
      arith,
      sizes_few _ _ _ _ _ _ _ _ _ _ _ c.requires _ _ _ _ _ _ _ _ refl refl (keeps_as _ _ _ _ _ _ _ _ _ _ _ _ _ (length-take-le _ _
          c.requires.keys_count) c.share_records-sizes.ensures),
      c.requires.starts_room,
    )))))

pub slice_bounds-lay_fields-end-7 : goal.slice_bounds-lay_fields-end-7
slice_bounds-lay_fields-end-7 c =
    front_reach c.args.keys.now c.share_records-sizes.new.keys c.args.count _ c.share_records-sizes.auto.keys (omega (
      arith,
      sizes_few _ _ _ _ _ _ _ _ _ _ _
          c.requires _ _ _ _ _ _ _ _ refl refl (keeps_as _ _ _ _ _ _ _ _ _ _ _ _ _ (length-take-le _ _ c.requires.keys_count) c.share_records-sizes.ensures),
      c.requires.keys_room,
    ))

pub slice_bounds-lay_fields-end-8 : goal.slice_bounds-lay_fields-end-8
slice_bounds-lay_fields-end-8 c =
    sym (length-take-le _ _ ((front_reach c.args.keys.now c.share_records-sizes.new.keys c.args.count _ c.share_records-sizes.auto.keys (omega (
      arith,
      sizes_few _ _ _ _ _ _ _ _ _ _ _ c.requires _ _ _ _ _ _ _ _ refl refl (keeps_as _ _ _ _ _ _ _ _ _ _ _ _ _ (length-take-le _ _ c.requires.keys_count)
          c.share_records-sizes.ensures),
      c.requires.keys_room,
    )))))

pub lay_fields-laid-requires : goal.lay_fields-laid-requires
lay_fields-laid-requires c =
    laying_fields _ _ _ _ _ _ _ _ _ _ _ c.requires _ _ _ _ _ _ _ _ refl refl (keeps_as _ _ _ _ _ _ _ _ _ _ _ _ _ (length-take-le _ _ c.requires.keys_count)
    c.share_records-sizes.ensures) _ _ _ (length-take-le _ _ ((front_reach c.args.starts.now c.share_records-sizes.new.starts (length c.args.lengths.now + 1) _
    c.share_records-sizes.auto.starts (omega (
      arith,
      sizes_few _ _ _ _ _ _ _ _ _ _ _ c.requires _ _ _ _ _ _ _ _ refl refl (keeps_as _ _ _ _ _ _ _ _ _ _ _ _ _
          (length-take-le _ _ c.requires.keys_count) c.share_records-sizes.ensures),
      c.requires.starts_room,
    ))))) (length-take-le _ _ ((front_reach c.args.keys.now
    c.share_records-sizes.new.keys c.args.count _ c.share_records-sizes.auto.keys (omega (
      arith,
      sizes_few _ _ _ _ _ _ _ _ _ _ _ c.requires _ _ _ _ _ _ _ _
          refl refl (keeps_as _ _ _ _ _ _ _ _ _ _ _ _ _ (length-take-le _ _ c.requires.keys_count) c.share_records-sizes.ensures),
      c.requires.keys_room,
    )))))
    c.share_records-sizes.auto.spare

pub place_records-requires : goal.place_records-requires
place_records-requires c =
    laying_ready _ _ _ _ _ _ _ _ _ _ _ c.requires _ _ _ _ _ _ _ _ refl refl (keeps_as _ _ _ _ _ _ _ _ _ _ _ _ _ (length-take-le _ _ c.requires.keys_count)
    c.share_records-sizes.ensures) _ _ _ c.lay_fields-laid.auto.words c.lay_fields-laid.ensures refl _ (take_at _ _ _ (c.mark_starts.auto.starts
    ∙ length-take-le _ _ ((front_reach (c.share_records-sizes.new.starts ++ drop (length c.args.lengths.now + 1) c.args.starts.now) c.lay_fields-laid.new.starts
    (c.share_records-sizes.result.lengths + 1) _ c.lay_fields-laid.auto.starts (front_reach c.args.starts.now c.share_records-sizes.new.starts (length
    c.args.lengths.now + 1) _ c.share_records-sizes.auto.starts (omega (arith, c.requires.starts_room)))))) ∙ c.mark_starts.ensures)

pub returns : goal.returns
returns c =
    laying_ends _ _ _ _ _ _ _ _ _ _ _ c.requires _ _ _ _ _ _ _ _ refl refl (keeps_as _ _ _ _ _ _ _ _ _ _ _ _ _ (length-take-le _ _ c.requires.keys_count)
    c.share_records-sizes.ensures) _ _ _ c.lay_fields-laid.auto.words c.lay_fields-laid.ensures _ c.place_records.ensures
