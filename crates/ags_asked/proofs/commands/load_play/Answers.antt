use Rattle.std.proofs.lemmas.Result.{err_from_is_err_and}
use Rattle.ags_plan.specs.Plan.{Do, Read}
use Rattle.ags_plan.specs.Loading.{end_of}
use Rattle.ags_plan.proofs.LoadingLemmas.{loads_stop}
use Rattle.ags_program.specs.Files.{Source, Script}
use Rattle.ags_program.specs.Program.{program}
use Rattle.ags_program.specs.Views.{assembly_of, line_of, status_of}
use Rattle.ags_program.specs.Work.{PlayScript}
use Rattle.ags_program.proofs.ReadingLemmas.{counted_on}
use Rattle.ags_asked.proofs.FilesLemmas.{both_load, second_stops}
use Rattle.ags_asked.proofs.commands.load_play.Goals as goal

pub returns-in_err-source-clause-loads : goal.returns-in_err-source-clause-loads
returns-in_err-source-clause-loads g c =
    let p = err_from_is_err_and c.from_residual.result c.from_residual.ensures.1 in
    rw (p.1, p.2) (loads_stop program (g.S.Shelf.told c.args.shelf.now) (Source c.args.machine) c.args.source.now
    (λ assembly. Read (Script c.args.machine) c.args.script.now (λ commands. Do (PlayScript c.args.machine assembly.defined commands)))
    (end_of program line_of status_of c.in_err-source.field-0.0) c.in_err-source.ensures.loads)

pub returns-in_err-script-clause-loads : goal.returns-in_err-script-clause-loads
returns-in_err-script-clause-loads g c =
    let p = err_from_is_err_and c.from_residual-in_err-script.result c.from_residual-in_err-script.ensures.1 in
    rw (p.1, p.2) (second_stops (g.S.Shelf.told c.args.shelf.now) (g.S.Shelf.told c.load_source.new.shelf) (Source c.args.machine) c.args.source.now (Script c.args.machine) c.args.script.now
    (λ assembly commands. PlayScript c.args.machine assembly.defined commands) (assembly_of c.in_ok-source.source) c.in_ok-source.ensures.loads c.in_ok-source.ensures.same
    (end_of program line_of status_of c.in_err-script.field-0.0) c.in_err-script.ensures.loads)

pub returns-clause-loads : goal.returns-clause-loads
returns-clause-loads g c =
    rw c.into_made-made.ensures
    (both_load (g.S.Shelf.told c.args.shelf.now) (g.S.Shelf.told c.load_source.new.shelf) (Source c.args.machine) c.args.source.now (Script c.args.machine) c.args.script.now
    (λ assembly commands. PlayScript c.args.machine assembly.defined commands) (assembly_of c.in_ok-source.source) c.in_ok-source.ensures.loads c.in_ok-source.ensures.same
    c.in_ok-script.script c.in_ok-script.ensures.loads)

pub returns-clause-ready : goal.returns-clause-ready
returns-clause-ready g c =
    ((c.in_ok-source.ensures.ready.0, c.in_ok-source.source.bytes.items, rw c.into_made-made.ensures c.in_ok-source.ensures.ready.1), c.in_ok-script.ensures.ready)

pub returns-in_err-script-clause-faults : goal.returns-in_err-script-clause-faults
returns-in_err-script-clause-faults g c =
    let p = err_from_is_err_and c.from_residual-in_err-script.result c.from_residual-in_err-script.ensures.1 in
    counted_on _ _ _ _ c.in_ok-source.ensures.faults (rw (p.1, p.2) c.in_err-script.ensures.faults)

pub returns-in_err-script-clause-absences : goal.returns-in_err-script-clause-absences
returns-in_err-script-clause-absences g c =
    let p = err_from_is_err_and c.from_residual-in_err-script.result c.from_residual-in_err-script.ensures.1 in
    counted_on _ _ _ _ c.in_ok-source.ensures.absences (rw (p.1, p.2) c.in_err-script.ensures.absences)

pub returns-clause-faults : goal.returns-clause-faults
returns-clause-faults g c = counted_on _ _ _ _ c.in_ok-source.ensures.faults c.in_ok-script.ensures.faults

pub returns-clause-absences : goal.returns-clause-absences
returns-clause-absences g c = counted_on _ _ _ _ c.in_ok-source.ensures.absences c.in_ok-script.ensures.absences

pub returns-in_err-source-clause-ready : goal.returns-in_err-source-clause-ready
returns-in_err-source-clause-ready g c = rw ((err_from_is_err_and c.from_residual.result c.from_residual.ensures.1).1) tt

pub returns-in_err-source-clause-faults : goal.returns-in_err-source-clause-faults
returns-in_err-source-clause-faults g c =
    let p = err_from_is_err_and c.from_residual.result c.from_residual.ensures.1 in
    rw (p.1, p.2) c.in_err-source.ensures.faults

pub returns-in_err-source-clause-absences : goal.returns-in_err-source-clause-absences
returns-in_err-source-clause-absences g c =
    let p = err_from_is_err_and c.from_residual.result c.from_residual.ensures.1 in
    rw (p.1, p.2) c.in_err-source.ensures.absences

pub returns-in_err-script-clause-ready : goal.returns-in_err-script-clause-ready
returns-in_err-script-clause-ready g c = rw ((err_from_is_err_and c.from_residual-in_err-script.result c.from_residual-in_err-script.ensures.1).1) tt
