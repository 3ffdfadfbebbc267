use Rattle.std.proofs.Common.{rules, refl}
use Rattle.ags_certread.proofs.gatherer.Gatherer.close_before.Goals as goal

pub returns-in_default : goal.returns-in_default
returns-in_default c = search rules

pub returns-in-Entry-At-default : goal.returns-in-Entry-At-default
returns-in-Entry-At-default c = search rules

pub returns-in-Linked : goal.returns-in-Linked
returns-in-Linked c = rw c.in-Linked.is refl
