-- `notes::noted::note::note_yards` meets its contract.
use Rattle.numbers.proofs.Prelude.{length, refl, ◌∙◌, arith}
use Rattle.notes.proofs.noted.{Noting.{yards_many, notes_none, notes_next, notes_end}}
use Rattle.notes.proofs.noted.note.note_yards.Goals as goal

pub loop-yard-init : goal.loop-yard-init
loop-yard-init c = (
  omega arith,
  refl,
  refl,
  notes_none _ _ _ _ _ (length c.args.chains.now) (length c.args.groups.now) c.zero_words.ensures c.zero_words-2.ensures (omega (
    arith,
    c.requires.3,
  )) (omega (arith, c.requires.4)),
)

pub note_yard-requires : goal.note_yard-requires
note_yard-requires c =
    let h = c.loop-yard-test.true in
    let next = yards_many c.loop-yard.yard c.args.count c.args.names h in (
      c.requires.0,
      omega (arith, h, c.requires.1),
      omega (arith, next, c.requires.2),
      omega (arith, next, c.requires.3, c.loop-yard.invariant.1, c.chains-1.given),
      omega (arith, h, c.requires.4, c.loop-yard.invariant.2, c.groups-1.given),
    )

pub loop-yard-smaller : goal.loop-yard-smaller
loop-yard-smaller c =
    omega (arith, c.loop-yard-test.true)

pub loop-yard-preserved : goal.loop-yard-preserved
loop-yard-preserved c = (
  omega (arith, c.loop-yard-test.true),
  c.chains-in-loop-yard-1.given ∙ c.loop-yard.invariant.1,
  c.groups-in-loop-yard-1.given
      ∙ c.loop-yard.invariant.2,
  notes_next _ _ _ _ _ _ _ _ c.loop-yard.invariant.3 c.note_yard.ensures,
)

pub returns : goal.returns
returns c =
    notes_end _ _ _ _ _ _ _ c.loop-yard.invariant.0 c.loop-yard-test.false c.loop-yard.invariant.3
