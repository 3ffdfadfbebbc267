use Rattle.std.proofs.Common.{Ok, refl}
use Rattle.std.proofs.lemmas.Result.{err_from_is_err_and}
use Rattle.ags_plan.specs.Plan.{Do}
use Rattle.ags_plan.specs.Loading.{end_of}
use Rattle.ags_plan.proofs.LoadingLemmas.{loads_on, loads_stop}
use Rattle.ags_program.specs.Files.{Source}
use Rattle.ags_program.specs.Program.{program}
use Rattle.ags_program.specs.Views.{assembly_of, line_of, status_of}
use Rattle.ags_program.specs.Work.{WriteText}
use Rattle.ags_asked.proofs.commands.load_text.Goals as goal

pub returns-in_err-source-clause-loads : goal.returns-in_err-source-clause-loads
returns-in_err-source-clause-loads g c =
    let p = err_from_is_err_and c.from_residual.result c.from_residual.ensures.1 in
    rw (p.1, p.2) (loads_stop program (g.S.Shelf.told c.args.shelf.now) (Source c.args.machine.now) c.args.source.now (λ assembly. Do (WriteText c.args.text assembly))
    (end_of program line_of status_of c.in_err-source.field-0.0) c.in_err-source.ensures.loads)

pub returns-in_err-source-clause-ready : goal.returns-in_err-source-clause-ready
returns-in_err-source-clause-ready g c = rw ((err_from_is_err_and c.from_residual.result c.from_residual.ensures.1).1) tt

pub returns-in_err-source-clause-faults : goal.returns-in_err-source-clause-faults
returns-in_err-source-clause-faults g c =
    let p = err_from_is_err_and c.from_residual.result c.from_residual.ensures.1 in
    rw (p.1, p.2) c.in_err-source.ensures.faults

pub returns-clause-faults : goal.returns-clause-faults
returns-clause-faults g c = c.in_ok-source.ensures.faults

pub returns-in_err-source-clause-absences : goal.returns-in_err-source-clause-absences
returns-in_err-source-clause-absences g c =
    let p = err_from_is_err_and c.from_residual.result c.from_residual.ensures.1 in
    rw (p.1, p.2) c.in_err-source.ensures.absences

pub returns-clause-absences : goal.returns-clause-absences
returns-clause-absences g c = c.in_ok-source.ensures.absences

pub returns-clause-ready : goal.returns-clause-ready
returns-clause-ready g c = c.in_ok-source.ensures.ready

pub returns-clause-loads : goal.returns-clause-loads
returns-clause-loads g c =
    let assembly = assembly_of c.in_ok-source.source in
    loads_on program (g.S.Shelf.told c.args.shelf.now) (Source c.args.machine.now) c.args.source.now (λ value. Do (WriteText c.args.text value)) assembly
    (Ok (WriteText c.args.text assembly)) c.in_ok-source.ensures.loads refl
