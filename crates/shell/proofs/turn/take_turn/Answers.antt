use Rattle.shell.proofs.Turns.{turned_none, turned_one}
use Rattle.shell.proofs.turn.take_turn.Goals as goal

pub returns-then-step : goal.returns-then-step
returns-then-step c = turned_one _ _ c.gather-step.result c.answer-answered.result c.gather-step.ensures c.if-step.true c.answer-answered.ensures

pub returns : goal.returns
returns c = turned_none _ _ c.gather-step.result c.gather-step.ensures c.if-step.false c.requires.1.rooms
