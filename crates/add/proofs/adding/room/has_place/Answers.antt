-- `add::adding::room::has_place` meets its contract.
use Rattle.numbers.proofs.Prelude.{◌∙◌}
use Rattle.add.proofs.adding.{Asking.{no_place, no_space, with_space}}
use Rattle.add.proofs.adding.room.has_place.Goals as goal

pub returns-then-rooms-builder : goal.returns-then-rooms-builder
returns-then-rooms-builder c =
    no_place c.args.rooms _ _ _ _ _ _ c.requires.inside c.if-rooms-builder.true

pub returns-then-not-has_space : goal.returns-then-not-has_space
returns-then-not-has_space c =
    no_space _ _ _ c.has_space.ensures c.if-not-has_space.true

pub returns : goal.returns
returns c =
    c.has_notes.ensures ∙ with_space _ _ _ c.has_space.ensures c.if-not-has_space.false
