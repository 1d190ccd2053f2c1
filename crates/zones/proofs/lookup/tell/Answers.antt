-- `zones::lookup::tell` meets its contract.
use Rattle.numbers.proofs.Replies.{passed_on}
use Rattle.zones.proofs.lookup.{Looking.{no_fields, told}}
use Rattle.zones.proofs.lookup.tell.Goals as goal

pub returns-in_err-used : goal.returns-in_err-used
returns-in_err-used c =
    rw (passed_on _ c.from_residual.ensures.1) (no_fields c.args.asked c.args.head.preamble.precision _ c.args.found _ _ c.write_fields.ensures _ c.in_err-used.was)

pub returns : goal.returns
returns c =
    told c.args.asked c.args.head.preamble.precision _ c.args.found _ _ c.write_fields.ensures c.in_ok-used.was c.safezone-safezone.ensures
