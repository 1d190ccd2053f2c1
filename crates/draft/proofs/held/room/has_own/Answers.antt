-- `draft::held::room::has_own` meets its contract.
use Rattle.numbers.proofs.Prelude.{refl, arith}
use Rattle.builder.proofs.Counting.{lengths_room}
use Rattle.draft.proofs.held.{Roomy.{no_borders, no_lengths, no_texts, boxes_last}}
use Rattle.draft.proofs.held.room.has_own.Goals as goal

pub returns-then-rooms-yards : goal.returns-then-rooms-yards
returns-then-rooms-yards c =
    no_borders c.args.rooms c.args.names c.args.yards c.args.strings c.if-rooms-yards.true

pub returns-then-rooms-names : goal.returns-then-rooms-names
returns-then-rooms-names c =
    no_lengths c.args.rooms c.args.names c.args.yards c.args.strings c.if-rooms-yards.false c.if-rooms-names.true

pub returns-then-rooms-strings : goal.returns-then-rooms-strings
returns-then-rooms-strings c =
    no_texts c.args.rooms c.args.names c.args.yards c.args.strings c.if-rooms-yards.false c.if-rooms-names.false c.if-rooms-strings.true

pub returns : goal.returns
returns c =
    boxes_last c.args.rooms c.args.names c.args.yards c.args.strings c.if-rooms-yards.false c.if-rooms-names.false c.if-rooms-strings.false _ refl
