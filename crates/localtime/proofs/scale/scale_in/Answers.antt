-- `localtime::scale::scale_in` meets its contract.
use Rattle.localtime.proofs.scale.{Ways.{no_records, has_records}}
use Rattle.localtime.proofs.scale.scale_in.Goals as goal

pub returns-then-block-eq0 : goal.returns-then-block-eq0
returns-then-block-eq0 c =
    no_records _ _ _ c.if-block-eq0.true

pub raised-correction-requires : goal.raised-correction-requires
raised-correction-requires c =
    c.correction_at.ensures.fits

pub returns : goal.returns
returns c =
    has_records _ _ _ c.if-block-eq0.false c.correction_at.ensures.same c.raised-correction.ensures.same
