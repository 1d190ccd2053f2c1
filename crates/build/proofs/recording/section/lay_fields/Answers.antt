-- `build::recording::section::lay_fields` meets its contract.
use Rattle.numbers.proofs.Prelude.{length-take-le, sym, arith}
use Rattle.build.proofs.recording.{Recording.{fields_inside, fields_marked, fields_short_layout, fields_laid}}
use Rattle.build.proofs.recording.section.lay_fields.Goals as goal

pub sort_keys-requires : goal.sort_keys-requires
sort_keys-requires c = (
  fields_inside _ _ _ _ _ _ c.requires _ c.mark_starts.ensures,
  omega (arith, c.requires.keys_room, c.requires.bound),
  omega (
    arith,
    c.requires.keys_room,
    c.requires.spare_room,
  ),
)

pub least_length-records-requires : goal.least_length-records-requires
least_length-records-requires c =
    fields_short_layout _ _ _ _ _ _ c.requires _ _ _ c.mark_words-sums.ensures

pub returns : goal.returns
returns c =
    fields_laid _ _ _ _ _ _ c.requires _ _ _ c.mark_words-sums.ensures _ c.least_length-records.ensures
