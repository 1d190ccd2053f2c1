-- `builder::texts::put_texts` meets its contract.
use Rattle.numbers.proofs.Prelude.{arith}
use Rattle.builder.proofs.{Inlines.{inlines_start, text_in, text_fits, inlined_few, inlines_go, inline_ends}}
use Rattle.builder.specs.Metadata.{inlined}
use Rattle.builder.proofs.texts.put_texts.Goals as goal

pub slice_bounds-put_text-end : goal.slice_bounds-put_text-end
slice_bounds-put_text-end c =
    omega (
      arith,
      text_in (λ k. inlined) c.args.out.now c.args.place c.args.lengths.now c.args.texts.now c.loop-length.out c.loop-length.next c.loop-length.at c.loop-length.length-index
          c.loop-length.invariant c.loop-length-test.true,
    )

pub loop-length-preserved : goal.loop-length-preserved
loop-length-preserved c =
    inlines_go (λ k. inlined) _ _ _ _ _ _ _ _ c.loop-length.invariant c.loop-length-test.true (λ k. inlined_few) _ _ c.put_text-next.ensures

pub returns : goal.returns
returns c =
    inline_ends _ _ _ _ _ _ _ _ c.loop-length.invariant c.loop-length-test.false
