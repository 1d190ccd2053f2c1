-- `draft::held::room::stands` meets its contract.
use Rattle.draft.proofs.held.{Roomy.{many_names, many_yards, no_front, no_data, long_data, no_bytes, own_last}}
use Rattle.draft.proofs.held.room.stands.Goals as goal

pub returns-then-held-gt255 : goal.returns-then-held-gt255
returns-then-held-gt255 c =
    many_names c.args.held c.args.rooms c.if-held-gt255.true

pub returns-then-held-gt4096 : goal.returns-then-held-gt4096
returns-then-held-gt4096 c =
    many_yards c.args.held c.args.rooms c.if-held-gt255.false c.if-held-gt4096.true

pub returns-then-held : goal.returns-then-held
returns-then-held c =
    no_front c.args.held c.args.rooms c.if-held-gt255.false c.if-held-gt4096.false c.if-held.true

pub returns-then-held-lt1 : goal.returns-then-held-lt1
returns-then-held-lt1 c =
    no_data c.args.held c.args.rooms c.if-held-gt255.false c.if-held-gt4096.false c.if-held.false c.if-held-lt1.true

pub returns-then-held-gt1073741824 : goal.returns-then-held-gt1073741824
returns-then-held-gt1073741824 c =
    long_data c.args.held c.args.rooms c.if-held-gt255.false c.if-held-gt4096.false c.if-held.false c.if-held-lt1.false c.if-held-gt1073741824.true

pub returns-then-rooms-held : goal.returns-then-rooms-held
returns-then-rooms-held c =
    no_bytes c.args.held c.args.rooms c.if-held-gt255.false c.if-held-gt4096.false c.if-held.false c.if-held-lt1.false c.if-held-gt1073741824.false c.if-rooms-held.true

pub returns : goal.returns
returns c =
    own_last c.args.held c.args.rooms c.if-held-gt255.false c.if-held-gt4096.false c.if-held.false c.if-held-lt1.false c.if-held-gt1073741824.false
    c.if-rooms-held.false _ c.has_own.ensures
