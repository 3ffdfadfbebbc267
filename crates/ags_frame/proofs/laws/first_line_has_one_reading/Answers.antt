use Rattle.ags_frame.proofs.ReadingLaws.{some_first_reading, one_first_reading, told_first}
use Rattle.ags_frame.proofs.laws.first_line_has_one_reading.Goals as goal

pub returns-clause-some : goal.returns-clause-some
returns-clause-some g c = some_first_reading

pub returns-clause-one : goal.returns-clause-one
returns-clause-one g c = one_first_reading

pub returns-clause-told : goal.returns-clause-told
returns-clause-told g c = told_first _
