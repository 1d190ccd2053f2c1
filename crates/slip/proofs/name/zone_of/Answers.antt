-- `slip::name::zone_of` meets its contract.
use Rattle.numbers.proofs.{Prelude.{ap, ◌∙◌}, Replies.{passed_on}}
use Rattle.numbers.specs.Reply.{refused}
use Rattle.std.specs.Prelude.{ok_or}
use Rattle.slip.proofs.{Names.{not_times, is_named, not_read}}
use Rattle.slip.proofs.name.zone_of.Goals as goal

pub returns-then-preamble-ne84 : goal.returns-then-preamble-ne84
returns-then-preamble-ne84 c =
    not_times _ _ _ c.if-preamble-ne84.true (ap refused c.alone.ensures)

pub returns-in_err-named : goal.returns-in_err-named
returns-in_err-named c =
    not_read _ _ _ c.if-preamble-ne84.false _ c.name_of.ensures.0 c.name_of.ensures.1 c.in_err-named.was (passed_on _ c.from_residual.ensures.1)

pub returns : goal.returns
returns c =
    is_named _ _ _ c.if-preamble-ne84.false _ c.name_of.ensures.0 c.name_of.ensures.1 c.in_ok-named.named c.in_ok-named.was (c.ok_or.ensures.value ∙ ap (ok_or c.in_ok-named.named) c.alone-2.ensures)
