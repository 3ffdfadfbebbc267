use Rattle.ags_asked.proofs.commands.load_command.Goals as goal

pub returns-in-Write-clause-loads : goal.returns-in-Write-clause-loads
returns-in-Write-clause-loads g c = rw c.in-Write.is c.load_text.ensures.loads

pub returns-in-Guard-clause-loads : goal.returns-in-Guard-clause-loads
returns-in-Guard-clause-loads g c = rw c.in-Guard.is c.load_judged-in-Guard.ensures.loads

pub returns-in-Budget-clause-loads : goal.returns-in-Budget-clause-loads
returns-in-Budget-clause-loads g c = rw c.in-Budget.is c.load_judged-in-Budget.ensures.loads

pub returns-in-Scales-clause-loads : goal.returns-in-Scales-clause-loads
returns-in-Scales-clause-loads g c = rw c.in-Scales.is c.load_judged-in-Scales.ensures.loads

pub returns-in-Edits-clause-loads : goal.returns-in-Edits-clause-loads
returns-in-Edits-clause-loads g c = rw c.in-Edits.is c.load_judged-in-Edits.ensures.loads

pub returns-in-Write-clause-ready : goal.returns-in-Write-clause-ready
returns-in-Write-clause-ready g c = c.load_text.ensures.ready

pub returns-in-Write-clause-faults : goal.returns-in-Write-clause-faults
returns-in-Write-clause-faults g c = c.load_text.ensures.faults

pub returns-in-Write-clause-absences : goal.returns-in-Write-clause-absences
returns-in-Write-clause-absences g c = c.load_text.ensures.absences

pub returns-in-Compare-clause-loads : goal.returns-in-Compare-clause-loads
returns-in-Compare-clause-loads g c = rw c.in-Compare.is c.load_comparison.ensures.loads

pub returns-in-Compare-clause-ready : goal.returns-in-Compare-clause-ready
returns-in-Compare-clause-ready g c = c.load_comparison.ensures.ready

pub returns-in-Compare-clause-faults : goal.returns-in-Compare-clause-faults
returns-in-Compare-clause-faults g c = c.load_comparison.ensures.faults

pub returns-in-Compare-clause-absences : goal.returns-in-Compare-clause-absences
returns-in-Compare-clause-absences g c = c.load_comparison.ensures.absences

pub returns-in-Certify-clause-loads : goal.returns-in-Certify-clause-loads
returns-in-Certify-clause-loads g c = rw c.in-Certify.is c.load_judged.ensures.loads

pub returns-in-Certify-clause-ready : goal.returns-in-Certify-clause-ready
returns-in-Certify-clause-ready g c = c.load_judged.ensures.ready

pub returns-in-Certify-clause-faults : goal.returns-in-Certify-clause-faults
returns-in-Certify-clause-faults g c = c.load_judged.ensures.faults

pub returns-in-Certify-clause-absences : goal.returns-in-Certify-clause-absences
returns-in-Certify-clause-absences g c = c.load_judged.ensures.absences

pub returns-in-Run-clause-loads : goal.returns-in-Run-clause-loads
returns-in-Run-clause-loads g c = rw c.in-Run.is c.load_play.ensures.loads

pub returns-in-Run-clause-ready : goal.returns-in-Run-clause-ready
returns-in-Run-clause-ready g c = c.load_play.ensures.ready

pub returns-in-Run-clause-faults : goal.returns-in-Run-clause-faults
returns-in-Run-clause-faults g c = c.load_play.ensures.faults

pub returns-in-Run-clause-absences : goal.returns-in-Run-clause-absences
returns-in-Run-clause-absences g c = c.load_play.ensures.absences

pub returns-in-Guard-clause-ready : goal.returns-in-Guard-clause-ready
returns-in-Guard-clause-ready g c = c.load_judged-in-Guard.ensures.ready

pub returns-in-Guard-clause-faults : goal.returns-in-Guard-clause-faults
returns-in-Guard-clause-faults g c = c.load_judged-in-Guard.ensures.faults

pub returns-in-Guard-clause-absences : goal.returns-in-Guard-clause-absences
returns-in-Guard-clause-absences g c = c.load_judged-in-Guard.ensures.absences

pub returns-in-Budget-clause-ready : goal.returns-in-Budget-clause-ready
returns-in-Budget-clause-ready g c = c.load_judged-in-Budget.ensures.ready

pub returns-in-Budget-clause-faults : goal.returns-in-Budget-clause-faults
returns-in-Budget-clause-faults g c = c.load_judged-in-Budget.ensures.faults

pub returns-in-Budget-clause-absences : goal.returns-in-Budget-clause-absences
returns-in-Budget-clause-absences g c = c.load_judged-in-Budget.ensures.absences

pub returns-in-Scales-clause-ready : goal.returns-in-Scales-clause-ready
returns-in-Scales-clause-ready g c = c.load_judged-in-Scales.ensures.ready

pub returns-in-Scales-clause-faults : goal.returns-in-Scales-clause-faults
returns-in-Scales-clause-faults g c = c.load_judged-in-Scales.ensures.faults

pub returns-in-Scales-clause-absences : goal.returns-in-Scales-clause-absences
returns-in-Scales-clause-absences g c = c.load_judged-in-Scales.ensures.absences

pub returns-in-Edits-clause-ready : goal.returns-in-Edits-clause-ready
returns-in-Edits-clause-ready g c = c.load_judged-in-Edits.ensures.ready

pub returns-in-Edits-clause-faults : goal.returns-in-Edits-clause-faults
returns-in-Edits-clause-faults g c = c.load_judged-in-Edits.ensures.faults

pub returns-in-Edits-clause-absences : goal.returns-in-Edits-clause-absences
returns-in-Edits-clause-absences g c = c.load_judged-in-Edits.ensures.absences
