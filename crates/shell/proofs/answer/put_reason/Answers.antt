-- `shell::answer::put_reason` meets its contract.
use Rattle.numbers.proofs.Prelude.{[], ◌∷◌}
use Rattle.line.proofs.Puts.{put_then}
use Rattle.shell.specs.{Answer.{reason_line}, Text.{bytes}}
use Rattle.shell.proofs.answer.put_reason.Goals as goal

pub returns : goal.returns
unfolding bytes reason_line
returns c =
    let behind = put_then _ _ c.put_number-detail.ensures (put_then _ _ (put_then (32 ∷ []) _ c.put-blank.ensures c.put_words-words.ensures) c.put.ensures) in
    put_then _ _ c.put_all-said.ensures (put_then _ _ c.put_number-number.ensures (put_then _ _ c.put_number-cause.ensures behind))
