use Rattle.std.proofs.Common.{rules}
use Rattle.std.proofs.lemmas.Result.{MatchResult-weaker}
use Rattle.ags_drive.proofs.HearLemmas.{given_partly}
use Rattle.ags_drive.proofs.hearing.hear_one.Goals as goal

pub returns-clause-part : goal.returns-clause-part
returns-clause-part g c = MatchResult-weaker c.hear_all.result c.hear_all.ensures.part (λ x h. h) (λ met h. given_partly c.args.machine.now c.args.gave.now _ _ (search rules) h)
