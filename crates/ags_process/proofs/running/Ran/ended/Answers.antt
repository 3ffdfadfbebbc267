use Rattle.std.proofs.Common.{sym, ◌∙◌}
use Rattle.std.proofs.lemmas.Bool.{false≢true}
use Rattle.ags_process.proofs.running.Ran.ended.Goals as goal

pub returns-then-self-clause-unwritten : goal.returns-then-self-clause-unwritten
returns-then-self-clause-unwritten c = λ unwritten. absurd (false≢true (sym unwritten ∙ c.if-self.true))
