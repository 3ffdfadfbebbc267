use Rattle.ags_asked.proofs.lines.load_asked.Goals as goal

pub returns-in-Workload-clause-loads : goal.returns-in-Workload-clause-loads
returns-in-Workload-clause-loads g c = rw c.in-Workload.is (c.load_workload.ensures.loads (g.S.Shelf.told c.args.shelf.now))

pub returns-in-OnMachine-clause-ready : goal.returns-in-OnMachine-clause-ready
returns-in-OnMachine-clause-ready g c = c.load_line.ensures.ready

pub returns-in-OnMachine-clause-faults : goal.returns-in-OnMachine-clause-faults
returns-in-OnMachine-clause-faults g c = c.load_line.ensures.faults

pub returns-in-OnMachine-clause-absences : goal.returns-in-OnMachine-clause-absences
returns-in-OnMachine-clause-absences g c = c.load_line.ensures.absences

pub returns-in-Workload-clause-ready : goal.returns-in-Workload-clause-ready
returns-in-Workload-clause-ready g c = c.load_workload.ensures.ready
