use Rattle.numbers.proofs.Prelude.{rules}
use Rattle.office.proofs.{Drafts.{words_made}}
use Rattle.office.proofs.calls.words_of.Goals as goal

pub returns : goal.returns
returns c =
    words_made c.args.held c.args.noted (search rules) (search rules) (search rules) (search rules) c.greatest_bits-bits.ensures.1 c.greatest_bits-bits.result
    c.greatest_bits-bits.ensures.0
