-- `zone::lines::put_bytes` meets its contract.
use Rattle.numbers.proofs.Prelude.{eqb-true, eqb-false, sym, ◌∙◌}
use Rattle.line.proofs.Puts.{put_none, put_then, put_as}
use Rattle.zone.proofs.{Printing.{empty_text, spaced_text}}
use Rattle.zone.proofs.lines.put_bytes.Goals as goal

pub returns-then-is_empty : goal.returns-then-is_empty
returns-then-is_empty c =
    put_as (empty_text c.args.bytes.now (eqb-true _ _ (sym c.is_empty.ensures ∙ c.if-is_empty.true))) (put_none _ _)

pub returns : goal.returns
returns c =
    put_as (spaced_text c.args.bytes.now (eqb-false _ _ (sym c.is_empty.ensures ∙ c.if-is_empty.false))) (put_then _ _ c.put-next.ensures c.put_digits.ensures)
