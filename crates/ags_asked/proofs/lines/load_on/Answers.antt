use Rattle.std.specs.Result.{result_map_both}
use Rattle.std.proofs.Common.{subst}
use Rattle.std.proofs.lemmas.Result.{err_from_is_err_and}
use Rattle.ags_command.specs.Views.{command_view}
use Rattle.ags_plan.specs.Loading.{Loads, end_of}
use Rattle.ags_plan.specs.Walk.{Told}
use Rattle.ags_plan.proofs.LoadingLemmas.{loads_on, loads_stop}
use Rattle.ags_program.specs.Files.{MachineFile}
use Rattle.ags_program.specs.Program.{command_plan, program}
use Rattle.ags_program.specs.Views.{line_of, status_of, work_of}
use Rattle.ags_program.proofs.ReadingLemmas.{counted_on}
use Rattle.ags_asked.proofs.lines.load_on.Goals as goal

pub returns-in_err-machine-clause-loads : goal.returns-in_err-machine-clause-loads
returns-in_err-machine-clause-loads g c =
    let p = err_from_is_err_and c.from_residual.result c.from_residual.ensures.1 in
    rw (p.1, p.2) (loads_stop program (g.S.Shelf.told c.args.shelf.now) MachineFile c.args.name.now (λ machine. command_plan machine (command_view c.args.command))
    (end_of program line_of status_of c.in_err-machine.field-0.0) c.in_err-machine.ensures.loads)

pub returns-clause-loads : goal.returns-clause-loads
returns-clause-loads g c =
    let told = g.S.Shelf.told c.args.shelf.now in
    let machine = c.in_ok-machine.machine in
    let result = result_map_both work_of (end_of program line_of status_of) c.load_command.result in
    loads_on program told MachineFile c.args.name.now (λ machine. command_plan machine (command_view c.args.command)) machine result c.in_ok-machine.ensures.loads
    (subst (λ (t : Told). Loads program t (command_plan machine (command_view c.args.command)) result) c.in_ok-machine.ensures.same c.load_command.ensures.loads)

pub returns-clause-faults : goal.returns-clause-faults
returns-clause-faults g c = counted_on _ _ _ _ c.in_ok-machine.ensures.faults c.load_command.ensures.faults

pub returns-clause-absences : goal.returns-clause-absences
returns-clause-absences g c = counted_on _ _ _ _ c.in_ok-machine.ensures.absences c.load_command.ensures.absences

pub returns-in_err-machine-clause-ready : goal.returns-in_err-machine-clause-ready
returns-in_err-machine-clause-ready g c = rw ((err_from_is_err_and c.from_residual.result c.from_residual.ensures.1).1) tt

pub returns-in_err-machine-clause-faults : goal.returns-in_err-machine-clause-faults
returns-in_err-machine-clause-faults g c =
    let p = err_from_is_err_and c.from_residual.result c.from_residual.ensures.1 in
    rw (p.1, p.2) c.in_err-machine.ensures.faults

pub returns-in_err-machine-clause-absences : goal.returns-in_err-machine-clause-absences
returns-in_err-machine-clause-absences g c =
    let p = err_from_is_err_and c.from_residual.result c.from_residual.ensures.1 in
    rw (p.1, p.2) c.in_err-machine.ensures.absences

pub returns-clause-ready : goal.returns-clause-ready
returns-clause-ready g c = c.load_command.ensures.ready
