-- `zone::answer::answer` meets its contract: each of its answers is one of document 01's.
use Rattle.numbers.proofs.Prelude.{binary32, of_bits, length, ap, ◌∙◌, arith}
use Rattle.zone.proofs.{Asking.{refused_long, refused_short, asked}}
use Rattle.zone.proofs.answer.answer.Goals as goal

pub returns-then-input-gt65536 : goal.returns-then-input-gt65536
returns-then-input-gt65536 c =
    refused_long c.args.input.now _ _ _ _ c.alone.ensures c.zero_both.ensures.0 c.zero_both.ensures.1 (omega (arith, c.if-input-gt65536.true))

pub returns-then-input-lt8 : goal.returns-then-input-lt8
returns-then-input-lt8 c =
    refused_short c.args.input.now _ _ _ _ c.alone-then-input-lt8.ensures c.zero_both-then-input-lt8.ensures.0 c.zero_both-then-input-lt8.ensures.1 (omega (
      arith,
      c.if-input-gt65536.false,
    )) (omega (arith, c.if-input-lt8.true))

pub returns : goal.returns
returns c =
    asked c.args.input.now (length c.args.hits.now) (length c.args.text.now) _ c.lookup.result _ _ c.lookup.ensures (λ i. record {
      lat =
          (c.of_bits-lat.ensures ∙ ap (of_bits binary32) c.word_at.ensures) i;
      lon = (c.of_bits-lon.ensures
          ∙ ap (of_bits binary32) c.word_at-2.ensures) i;
    }) (omega (arith, c.if-input-gt65536.false)) (omega (arith, c.if-input-lt8.false))
