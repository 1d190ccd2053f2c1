-- `table::marked::encoding_of` meets its contract.
use Rattle.table.proofs.marked.encoding_of.Goals as goal

pub returns : goal.returns
returns c =
    let head = c.args.head in
    λ i. record { version = c.version_of.ensures i; «data» = head.sections.«data»; strict = head.strict }
