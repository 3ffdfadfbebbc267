use Rattle.ags_asked.proofs.lines.load_line.Goals as goal

pub returns-in-Some-clause-loads : goal.returns-in-Some-clause-loads
returns-in-Some-clause-loads g c = rw c.in-Some.is c.load_on.ensures.loads

pub returns-in-Some-clause-ready : goal.returns-in-Some-clause-ready
returns-in-Some-clause-ready g c = c.load_on.ensures.ready

pub returns-in-Some-clause-faults : goal.returns-in-Some-clause-faults
returns-in-Some-clause-faults g c = c.load_on.ensures.faults

pub returns-in-Some-clause-absences : goal.returns-in-Some-clause-absences
returns-in-Some-clause-absences g c = c.load_on.ensures.absences
