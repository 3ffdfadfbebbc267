use Rattle.ags_files.specs.Reading.{script_reading}
use Rattle.ags_files.proofs.ReadingLemmas.{absences_as, faults_as, reading_loads}
use Rattle.ags_program.specs.declared.refusal.Refusal.TheVariants as refusal
use Rattle.ags_program.specs.Files.{Script}
use Rattle.ags_program.specs.Program.{program}
use Rattle.ags_program.specs.Views.{line_of, status_of}
use Rattle.ags_program.proofs.ReadingLemmas.{script_as, script_ready}
use Rattle.ags_program.proofs.files.load_script.Goals as goal

pub returns-clause-loads : goal.returns-clause-loads
returns-clause-loads g c = rw c.refused_by.ensures
    (reading_loads (script_reading c.args.machine.now) program (Script c.args.machine.now) (λ script. script) refusal.Script line_of status_of (script_as c.args.machine.now) (g.S.Shelf.told c.args.shelf.now) c.args.name.now c.load_script.result c.load_script.ensures.loads)

pub returns-clause-ready : goal.returns-clause-ready
returns-clause-ready g c = rw c.refused_by.ensures (script_ready c.args.machine.now (g.S.Shelf.told c.args.shelf.now c.args.name.now) c.args.name.now c.load_script.result c.load_script.ensures.loads)

pub returns-clause-faults : goal.returns-clause-faults
returns-clause-faults g c = rw c.refused_by.ensures (faults_as refusal.Script c.load_script.result _ _ c.load_script.ensures.faults)

pub returns-clause-absences : goal.returns-clause-absences
returns-clause-absences g c = rw c.refused_by.ensures (absences_as refusal.Script c.load_script.result _ _ c.load_script.ensures.absences)
