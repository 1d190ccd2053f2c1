-- `localtime::found::same_octets` meets its contract.
use Rattle.numbers.proofs.Prelude.{◌∙◌}
use Rattle.localtime.proofs.found.{Ways.{same_slices}}
use Rattle.localtime.proofs.found.same_octets.Goals as goal

pub returns : goal.returns
returns c =
    c.eq.ensures ∙ same_slices c.args.file.now c.args.count c.args.a c.args.b c.requires.0 c.requires.1
