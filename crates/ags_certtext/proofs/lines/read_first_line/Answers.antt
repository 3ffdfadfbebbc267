use Rattle.ags_frame.proofs.ReadingLaws.{told_first}
use Rattle.ags_certtext.specs.Reading.{cert_name, latest_version}
use Rattle.ags_certtext.specs.declared.statements.Statement.{Statement}
use Rattle.ags_certtext.proofs.ReadingLaws.{one_first_reading}
use Rattle.ags_certtext.proofs.lines.read_first_line.Goals as goal

pub returns-clause-only : goal.returns-clause-only
returns-clause-only c = λ reading is.
    one_first_reading c.args.line.now reading _ is (told_first Statement cert_name latest_version c.args.line.now c.read_opening.result c.read_opening.ensures.found)
