-- `slip::name::byte_of` meets its contract.
use Rattle.slip.proofs.{Names.{byte_one, byte_two, byte_none}}
use Rattle.slip.proofs.name.byte_of.Goals as goal

pub returns-then-at-size : goal.returns-then-at-size
returns-then-at-size c =
    byte_one _ c.args.name c.requires _ c.if-at-size.true

pub returns-then-rest-two : goal.returns-then-rest-two
returns-then-rest-two c =
    byte_two _ c.args.name c.requires _ c.if-at-size.false c.if-rest-two.true

pub returns : goal.returns
returns c =
    byte_none _ c.args.name c.requires _ c.if-at-size.false c.if-rest-two.false
