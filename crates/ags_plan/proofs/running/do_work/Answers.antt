use Rattle.std.proofs.Common.{refl}
use Rattle.ags_plan.specs.Plan.{WorkAt}
use Rattle.ags_plan.proofs.RunLemmas.{said_ends, content_on_shelf, said_on_sink}
use Rattle.ags_plan.proofs.running.do_work.Goals as goal

pub returns-clause-content : goal.returns-clause-content
returns-clause-content g c = λ told arguments ends. rw c.settle.ensures
    (said_ends g.P.Loader.definition g.P.Loader.plan_of g.met.P.Loader.lawful told arguments (WorkAt (g.P.Loader.work_of c.args.work)) (g.K.Sink.told c.args.out.now) (g.K.Sink.told c.perform.new.out) c.perform.result
    ends c.perform.ensures.performs)

pub returns-clause-shelf : goal.returns-clause-shelf
returns-clause-shelf g c = λ told arguments faults faults_now absences absences_now ends no_fault no_absence. rw c.settle.ensures
    (content_on_shelf g.P.Loader.definition g.P.Loader.plan_of g.met.P.Loader.lawful told arguments (WorkAt (g.P.Loader.work_of c.args.work)) (g.K.Sink.told c.args.out.now) (g.K.Sink.told c.perform.new.out) c.perform.result
    faults faults_now absences absences_now refl ends c.perform.ensures.performs no_fault no_absence)

pub returns-clause-sink : goal.returns-clause-sink
returns-clause-sink g c = λ told arguments ends. rw c.settle.ensures
    (said_on_sink g.P.Loader.definition g.P.Loader.plan_of g.met.P.Loader.lawful told arguments (WorkAt (g.P.Loader.work_of c.args.work)) (g.K.Sink.told c.args.out.now) (g.K.Sink.told c.perform.new.out) c.perform.result
    (g.K.Sink.faults c.args.out.now) (g.K.Sink.faults c.perform.new.out) ends c.perform.ensures.performs c.perform.ensures.faults)
