-- `builder::records::put_records` meets its contract.
use Rattle.numbers.proofs.Prelude.{get_or, arith}
use Rattle.builder.proofs.{Inlines.{inlines_start, text_in, text_fits, word_few, inlines_go, inlines_end}}
use Rattle.builder.specs.Metadata.{field_bytes}
use Rattle.builder.proofs.records.put_records.Goals as goal

pub slice_bounds-put_field-end : goal.slice_bounds-put_field-end
slice_bounds-put_field-end c =
    omega (
      arith,
      text_in (field_bytes c.args.records c.args.words.now) c.args.out.now c.args.place c.args.lengths.now c.args.texts.now c.loop-i.out c.loop-i.next
          c.loop-i.at c.loop-i.i c.loop-i.invariant c.loop-i-test.true,
    )

pub loop-i-preserved : goal.loop-i-preserved
loop-i-preserved c =
    inlines_go (field_bytes c.args.records c.args.words.now) c.args.out.now c.args.place c.args.lengths.now c.args.texts.now c.loop-i.out c.loop-i.next c.loop-i.at
    c.loop-i.i c.loop-i.invariant c.loop-i-test.true (λ k t. word_few c.args.records (get_or c.args.words.now k 0) t) _ _ c.put_field-next.ensures

pub returns : goal.returns
returns c =
    inlines_end (field_bytes c.args.records c.args.words.now) _ _ _ _ _ _ _ _ c.loop-i.invariant c.loop-i-test.false
