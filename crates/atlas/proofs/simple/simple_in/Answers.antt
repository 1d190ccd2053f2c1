-- `atlas::simple::simple_in` meets its contract: a text of zeros, then the lookup, then zeros again where it refused.
use Rattle.numbers.{proofs.Prelude.{rules, length, refl, sym, ap, ◌∙◌}, specs.Lists.{zeros}}
use Rattle.header.proofs.Buffers.{of_length, all_zero}
use Rattle.atlas.specs.Beside.{described_beside}
use Rattle.zones.proofs.Replying.{given_reply, refused_reply}
use Rattle.atlas.proofs.simple.simple_in.Goals as goal

pub returns-then-is_err : goal.returns-then-is_err
returns-then-is_err c =
    refused_reply (described_beside c.args.file.now c.args.head c.args.words.now c.args.location) c.look-described.result _ _ refl (of_length _ (length
    c.args.text.now) c.zero.ensures) c.look-described.ensures (all_zero _ (length c.look-described.new.hits) c.zero_both.ensures.0
    ∙ ap zeros ((search rules))) (all_zero _ (length c.look-described.new.text) c.zero_both.ensures.1 ∙ ap zeros ((search rules))) (sym c.is_err.ensures.value ∙ c.if-is_err.true)

pub returns : goal.returns
returns c =
    given_reply (described_beside c.args.file.now c.args.head c.args.words.now c.args.location) c.look-described.result _ _ refl (of_length _ (length
    c.args.text.now) c.zero.ensures) c.look-described.ensures (sym c.is_err.ensures.value ∙ c.if-is_err.false)
