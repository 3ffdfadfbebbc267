use Rattle.ags_frame.proofs.ReadingLaws.{some_reading}
use Rattle.ags_frame.proofs.laws.line_has_one_reading.Goals as goal

pub returns-clause-some : goal.returns-clause-some
returns-clause-some g c = some_reading g.T.Statements.states c.lines_state_one_thing_at_most.ensures.some
