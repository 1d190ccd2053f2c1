-- `slip::hour::hour_of` meets its contract.
use Rattle.numbers.{proofs.{Prelude.{length, sym, ap, ◌∙◌}, Replies.{held}}}
use Rattle.request.specs.Told.{shown}
use Rattle.slip.proofs.{Locals.{as_passed, no_name, of_reply, Of}}
use Rattle.slip.specs.Told.{name_in}
use Rattle.zones.specs.Simple.{LiesParts}
use Rattle.slip.proofs.hour.hour_of.Goals as goal

pub returns-in_err-name : goal.returns-in_err-name
returns-in_err-name c =
    as_passed (Of _ _ _ _ _ _) _ c.from_residual.ensures.1 (no_name _ _ _ _ _ _ (ap (λ reply. shown reply (name_in c.args.map.now)) (sym c.in_err-name.was) ∙ c.zone_of.ensures.0))

pub hour_in-requires : goal.hour_in-requires
hour_in-requires c =
    held (LiesParts (length c.args.map.now)) c.in_ok-name.was c.zone_of.ensures.1

pub returns : goal.returns
returns c =
    of_reply _ _ _ _ _ _ (ap (λ reply. shown reply (name_in c.args.map.now)) (sym c.in_ok-name.was) ∙ c.zone_of.ensures.0) _ c.hour_in.ensures.0 c.hour_in.ensures.1 c.of_match.ensures
