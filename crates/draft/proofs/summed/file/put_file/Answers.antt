-- `draft::summed::file::put_file` meets its contract.
use Rattle.numbers.proofs.Prelude.{length-take-le, sym, arith}
use Rattle.build.proofs.Needed.{stored_same, under}
use Rattle.draft.proofs.summed.{Filed.{putting_arranging, putting_headed, putting_reach, putting_section, inside_lengths, inside_texts, file_is}, Reached.{front_most}}
use Rattle.draft.proofs.summed.file.put_file.Goals as goal

pub lay_out-section-requires : goal.lay_out-section-requires
lay_out-section-requires c =
    putting_arranging _ _ _ _ _ _ c.requires

pub slice_bounds-write_file-end-3 : goal.slice_bounds-write_file-end-3
slice_bounds-write_file-end-3 c =
    under _ _ _ (putting_reach c.args.builder c.args.own.lengths.now c.args.own.texts.now _ _ _ c.requires).keys_count c.keys-1.given

pub slice_bounds-write_file-end-4 : goal.slice_bounds-write_file-end-4
slice_bounds-write_file-end-4 c =
    sym (length-take-le _ _ (under _ _ _ (putting_reach c.args.builder c.args.own.lengths.now c.args.own.texts.now _ _ _ c.requires).keys_count c.keys-1.given))

pub write_file-requires : goal.write_file-requires
write_file-requires c = (
  putting_headed _ _ _ _ _ _ c.requires,
  front_most _ _ _ c.requires.fits.few,
  (putting_section _ _ _ _ _ _ c.requires _ _ _ _ _ _ _ _ _ _ _ _
      c.lay_out-section.ensures).section,
  front_most _ _ _ c.requires.data_few,
)

pub returns : goal.returns
returns c =
    λ b h. stored_same _ _ (file_is b _ _ h _ _ _ _ _ _ _ _ _ _ c.lay_out-section.ensures (putting_reach c.args.builder c.args.own.lengths.now c.args.own.texts.now _ _ _
    c.requires).places) c.write_file.ensures
