-- `header::header::skip_texts` meets its contract.
use Rattle.header.proofs.header.{Texts.{Skipping}}
use Rattle.header.proofs.header.skip_texts.Given as goal

abbrev pub invariant-loop-index : goal.invariant-loop-index
invariant-loop-index l = Skipping l.strict l.file l.names l.index l.place
