use Rattle.std.proofs.lemmas.Result.{err_from_is_err_and}
use Rattle.ags_plan.specs.Loading.{end_of}
use Rattle.ags_program.specs.Program.{program}
use Rattle.ags_program.specs.Views.{assembly_of, line_of, status_of}
use Rattle.ags_asked.proofs.FilesLemmas.{workload_stops, workload_stops_later, workload_loads}
use Rattle.ags_asked.proofs.workloads.load_workload.Goals as goal

pub returns-in_err-source-clause-loads : goal.returns-in_err-source-clause-loads
returns-in_err-source-clause-loads c = λ told.
    let p = err_from_is_err_and c.from_residual.result c.from_residual.ensures.1 in
    rw (p.1, p.2) (workload_stops told c.args.size (end_of program line_of status_of c.in_err-source.field-0.0) (rw c.standard-machine.ensures.standard at (c.in_err-source.ensures.takes told)))

pub returns-in_err-cert-clause-loads : goal.returns-in_err-cert-clause-loads
returns-in_err-cert-clause-loads c = λ told.
    let p = err_from_is_err_and c.from_residual-in_err-cert.result c.from_residual-in_err-cert.ensures.1 in
    rw (p.1, p.2) (workload_stops_later told c.args.size (assembly_of c.in_ok-source.source) (rw c.standard-machine.ensures.standard at (c.in_ok-source.ensures.takes told))
    (end_of program line_of status_of c.in_err-cert.field-0.0) (rw c.standard-machine.ensures.standard at (c.in_err-cert.ensures.takes told)))

pub returns-clause-loads : goal.returns-clause-loads
returns-clause-loads c = λ told.
    rw c.standard-machine.ensures.standard
    (workload_loads told c.args.size (assembly_of c.in_ok-source.source) (rw c.standard-machine.ensures.standard at (c.in_ok-source.ensures.takes told))
    c.in_ok-cert.cert (rw c.standard-machine.ensures.standard at (c.in_ok-cert.ensures.takes told)))

pub returns-clause-ready : goal.returns-clause-ready
returns-clause-ready c = (c.in_ok-source.ensures.ready, tt)
