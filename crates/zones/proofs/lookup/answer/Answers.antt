-- `zones::lookup::answer` meets its contract: a text of zeros, then what is told, then zeros again where it is refused.
use Rattle.numbers.{proofs.Prelude.{ℕ, rules, length, refl, sym, ap, ◌∙◌}, specs.Lists.{zeros}}
use Rattle.header.proofs.Buffers.{of_length, all_zero}
use Rattle.zones.proofs.{Replying.{given_reply, refused_reply}}
use Rattle.zones.specs.Lookup.{zones_from, matched_in}
use Rattle.zones.proofs.lookup.answer.Goals as goal

pub look-zones-requires : goal.look-zones-requires
look-zones-requires c =
    (all_zero _ (length c.args.text.now) c.zero.ensures, c.requires)

pub returns-then-is_err : goal.returns-then-is_err
returns-then-is_err c =
    refused_reply (λ (n room : ℕ). zones_from c.args.file.now c.args.head c.args.asked room (matched_in c.args.found c.args.hits.now)) c.look-zones.result _ _ refl
    (of_length _ (length c.args.text.now) c.zero.ensures) c.look-zones.ensures c.zero_both.ensures.0
    (all_zero _ (length c.look-zones.new.text) c.zero_both.ensures.1 ∙ ap zeros ((search rules))) (sym c.is_err.ensures.value ∙ c.if-is_err.true)

pub returns-else-is_err : goal.returns-else-is_err
returns-else-is_err c =
    given_reply (λ (n room : ℕ). zones_from c.args.file.now c.args.head c.args.asked room (matched_in c.args.found c.args.hits.now)) c.look-zones.result _ _ refl
    (of_length _ (length c.args.text.now) c.zero.ensures) c.look-zones.ensures (sym c.is_err.ensures.value ∙ c.if-is_err.false)
