use Rattle.ags_outside.specs.Sink.{wrote_nothing, front_of_wrote}
use Rattle.ags_certsend.specs.Spelled.{statement_line}
use Rattle.ags_certsend.proofs.writing.send_statement.Goals as goal

pub returns-in_default-clause-front : goal.returns-in_default-clause-front
returns-in_default-clause-front g c = front_of_wrote (wrote_nothing (g.K.Sink.told c.args.out.now) (statement_line c.args.statement))
