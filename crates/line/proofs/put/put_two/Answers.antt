-- `line::put::put_two` meets its contract.
use Rattle.line.proofs.{Puts.{put_byte, put_then}}
use Rattle.line.proofs.put.put_two.Goals as goal

pub returns : goal.returns
returns c =
    put_then _ _ (put_byte c.digit-tens.ensures c.put-next.ensures) (put_byte c.digit-ones.ensures c.put.ensures)
