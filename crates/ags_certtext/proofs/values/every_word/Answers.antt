use Rattle.std.proofs.Common.{sym}
use Rattle.ags_certtext.proofs.ValueLemmas.{every_one}
use Rattle.ags_certtext.proofs.values.every_word.Goals as goal

pub returns-clause-only : goal.returns-clause-only
returns-clause-only c = λ value is. sym (every_one value c.full.result is c.full.ensures)
