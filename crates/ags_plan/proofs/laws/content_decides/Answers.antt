use Rattle.ags_plan.proofs.StatusLemmas.{absent_exactly, long_exactly, refused_exactly, work_exactly, ends_exactly}
use Rattle.ags_plan.proofs.laws.content_decides.Goals as goal

pub returns-clause-exactly : goal.returns-clause-exactly
returns-clause-exactly g c = λ told arguments old new result ends tells text status answer.
    ends_exactly g.P.Loader.definition g.P.Loader.plan_of g.met.P.Loader.lawful told arguments old new result ends tells text status answer

pub returns-clause-absent : goal.returns-clause-absent
returns-clause-absent g c = λ told arguments old new result ends.
    absent_exactly g.P.Loader.definition g.P.Loader.plan_of g.met.P.Loader.lawful told arguments old new result ends

pub returns-clause-long : goal.returns-clause-long
returns-clause-long g c = λ told arguments old new result ends.
    long_exactly g.P.Loader.definition g.P.Loader.plan_of g.met.P.Loader.lawful told arguments old new result ends

pub returns-clause-refused : goal.returns-clause-refused
returns-clause-refused g c = λ told arguments old new result kind ends.
    refused_exactly g.P.Loader.definition g.P.Loader.plan_of g.met.P.Loader.lawful told arguments old new result ends kind

pub returns-clause-work : goal.returns-clause-work
returns-clause-work g c = λ told arguments old new result ends.
    work_exactly g.P.Loader.definition g.P.Loader.plan_of g.met.P.Loader.lawful told arguments old new result ends
