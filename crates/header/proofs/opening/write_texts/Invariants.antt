-- `header::opening::write_texts` meets its contract.
use Rattle.numbers.{proofs.Prelude.{length}}
use Rattle.header.proofs.{opening.{Writing.{Writing}}}
use Rattle.header.proofs.opening.write_texts.Given as goal

abbrev pub invariant-loop-index : goal.invariant-loop-index
invariant-loop-index l = Writing l.strict l.file l.names (length l.initial.text) l.text l.index l.place l.at
