use Rattle.ags_plan.specs.Walk.{Agrees, Tells}
use Rattle.ags_plan.proofs.WorkLemmas.{way_to_work, work_of_way}
use Rattle.ags_plan.proofs.laws.walks_lead_to_their_works.Goals as goal

pub returns-clause-agrees : goal.returns-clause-agrees
returns-clause-agrees g c = λ told plan work. (way_to_work g.P.Loader.definition Agrees told plan work, work_of_way g.P.Loader.definition Agrees told plan work)

pub returns-clause-tells : goal.returns-clause-tells
returns-clause-tells g c = λ told plan work. (way_to_work g.P.Loader.definition Tells told plan work, work_of_way g.P.Loader.definition Tells told plan work)
