use Rattle.std.proofs.Common.{[]}
use Rattle.std.proofs.lemmas.Result.{err_from_is_err_and}
use Rattle.ags_plan.specs.Loading.{end_of}
use Rattle.ags_bench.specs.Program.{program}
use Rattle.ags_program.specs.Views.{assembly_of}
use Rattle.ags_bench.specs.Views.{line_of, status_of}
use Rattle.ags_program.proofs.ReadingLemmas.{counted_on}
use Rattle.ags_bench.proofs.FilesLemmas.{certificate_stops, pair_loads, source_stops}
use Rattle.ags_bench.proofs.loading.load_pair.Goals as goal

pub returns-in_err-source-clause-loads : goal.returns-in_err-source-clause-loads
returns-in_err-source-clause-loads g c =
    let p = err_from_is_err_and c.from_residual.result c.from_residual.ensures.1 in
    rw (p.1, p.2) (source_stops (g.S.Shelf.told c.args.shelf.now) (g.S.Shelf.told c.args.shelf.now) c.args.machine c.args.source.now c.args.certificate.now
    (end_of (program []) line_of status_of c.in_err-source.field-0.0) c.in_err-source.ensures.loads)

pub returns-in_err-cert-clause-loads : goal.returns-in_err-cert-clause-loads
returns-in_err-cert-clause-loads g c =
    let p = err_from_is_err_and c.from_residual-in_err-cert.result c.from_residual-in_err-cert.ensures.1 in
    rw (p.1, p.2) (certificate_stops (g.S.Shelf.told c.args.shelf.now) (g.S.Shelf.told c.load_source.new.shelf) c.args.machine c.args.source.now c.args.certificate.now
    (assembly_of c.in_ok-source.source) c.in_ok-source.ensures.loads c.in_ok-source.ensures.same
    (end_of (program []) line_of status_of c.in_err-cert.field-0.0) c.in_err-cert.ensures.loads)

pub returns-clause-loads : goal.returns-clause-loads
returns-clause-loads g c =
    pair_loads (g.S.Shelf.told c.args.shelf.now) (g.S.Shelf.told c.load_source.new.shelf) c.args.machine c.args.source.now c.args.certificate.now
    (assembly_of c.in_ok-source.source) c.in_ok-source.ensures.loads c.in_ok-source.ensures.same c.in_ok-cert.cert c.in_ok-cert.ensures.loads

pub returns-in_err-cert-clause-faults : goal.returns-in_err-cert-clause-faults
returns-in_err-cert-clause-faults g c =
    let p = err_from_is_err_and c.from_residual-in_err-cert.result c.from_residual-in_err-cert.ensures.1 in
    counted_on _ _ _ _ c.in_ok-source.ensures.faults (rw (p.1, p.2) c.in_err-cert.ensures.faults)

pub returns-in_err-cert-clause-absences : goal.returns-in_err-cert-clause-absences
returns-in_err-cert-clause-absences g c =
    let p = err_from_is_err_and c.from_residual-in_err-cert.result c.from_residual-in_err-cert.ensures.1 in
    counted_on _ _ _ _ c.in_ok-source.ensures.absences (rw (p.1, p.2) c.in_err-cert.ensures.absences)

pub returns-clause-faults : goal.returns-clause-faults
returns-clause-faults g c = counted_on _ _ _ _ c.in_ok-source.ensures.faults c.in_ok-cert.ensures.faults

pub returns-clause-absences : goal.returns-clause-absences
returns-clause-absences g c = counted_on _ _ _ _ c.in_ok-source.ensures.absences c.in_ok-cert.ensures.absences

pub returns-in_err-source-clause-ready : goal.returns-in_err-source-clause-ready
returns-in_err-source-clause-ready g c = rw ((err_from_is_err_and c.from_residual.result c.from_residual.ensures.1).1) tt

pub returns-in_err-source-clause-faults : goal.returns-in_err-source-clause-faults
returns-in_err-source-clause-faults g c =
    let p = err_from_is_err_and c.from_residual.result c.from_residual.ensures.1 in
    rw (p.1, p.2) c.in_err-source.ensures.faults

pub returns-in_err-source-clause-absences : goal.returns-in_err-source-clause-absences
returns-in_err-source-clause-absences g c =
    let p = err_from_is_err_and c.from_residual.result c.from_residual.ensures.1 in
    rw (p.1, p.2) c.in_err-source.ensures.absences

pub returns-in_err-cert-clause-ready : goal.returns-in_err-cert-clause-ready
returns-in_err-cert-clause-ready g c = rw ((err_from_is_err_and c.from_residual-in_err-cert.result c.from_residual-in_err-cert.ensures.1).1) tt

pub returns-clause-ready : goal.returns-clause-ready
returns-clause-ready g c = c.in_ok-source.ensures.ready
