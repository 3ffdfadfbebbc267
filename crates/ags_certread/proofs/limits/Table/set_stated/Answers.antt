use Rattle.std.proofs.Common.{◌∙◌, None}
use Rattle.std.proofs.lemmas.List.{get_or_default}
use Rattle.ags_certread.specs.LimitTable.{limit_in}
use Rattle.ags_certread.proofs.LimitLemmas.{set_more}
use Rattle.ags_certread.proofs.limits.Table.set_stated.Goals as goal

pub returns-in-Some-clause-set : goal.returns-in-Some-clause-set
returns-in-Some-clause-set c = set_more c.args.address c.args.stated.now c.in-Some.value (limit_in c.args.self c.args.limits.now) (limit_in c.args.self c.set.new.limits)
    c.requires.so_far (get_or_default c.args.stated.now c.args.address None _ (rw c.requires.whole c.requires.inside) ∙ c.in-Some.is) c.set.ensures.set
