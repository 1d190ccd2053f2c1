-- `localtime::local::answer_at` meets its contract.
use Rattle.numbers.proofs.Prelude.{sym, ap, ◌∙◌, w64, to_z-of_z}
use Rattle.localtime.proofs.local.Ways.{sound, string_within, not_read, not_ruled, answered}
use Rattle.tzif.{proofs.{Goods.{zone_short}}, specs.Number.{lift}}
use Rattle.localtime.proofs.scale.Ways as scales
use Rattle.localtime.proofs.local.answer_at.Goals as goal

pub returns-in-Err : goal.returns-in-Err
returns-in-Err c =
    let none = sym c.read_zone.ensures ∙ c.in-Err.is in
    (c.not_answered.ensures.0 ∙ not_read _ _ none, rw c.not_answered.ensures.0 tt, c.not_answered.ensures.1 ∙ scales.not_read _ _ none)

pub rules_in-requires : goal.rules_in-requires
rules_in-requires c =
    let zone = sym c.read_zone.ensures ∙ c.in-Ok.is in
    (sound _ zone, zone_short _ zone, string_within _ zone)

pub returns-in-Err-rules_in : goal.returns-in-Err-rules_in
returns-in-Err-rules_in c =
    let zone = sym c.read_zone.ensures ∙ c.in-Ok.is in
    let none = sym c.rules_in.ensures.0 ∙ c.in-Err-rules_in.is in (
      c.not_answered-in-Err-rules_in.ensures.0 ∙ not_ruled _ _ zone none,
      rw c.not_answered-in-Err-rules_in.ensures.0 tt,
      c.not_answered-in-Err-rules_in.ensures.1 ∙ scales.not_ruled _ _ zone none,
    )

pub scale_in-scale-requires : goal.scale_in-scale-requires
scale_in-scale-requires c =
    sound _ (sym c.read_zone.ensures ∙ c.in-Ok.is)

pub answer_by-said-requires : goal.answer_by-said-requires
answer_by-said-requires c =
    (sound _ (sym c.read_zone.ensures ∙ c.in-Ok.is), rw c.in-Ok-rules_in.is at c.rules_in.ensures.1)

pub returns : goal.returns
returns c =
    let zone = sym c.read_zone.ensures ∙ c.in-Ok.is in
    let rules = sym c.rules_in.ensures.0 ∙ c.in-Ok-rules_in.is in
    let at = c.lifted-at.ensures ∙ ap lift (to_z-of_z w64 c.args.instant c.ranges.instant) in
    (answered _ _ zone rules at c.answer_by-said.ensures.0, c.answer_by-said.ensures.1, scales.scaled _ _ zone rules at c.scale_in-scale.ensures)
