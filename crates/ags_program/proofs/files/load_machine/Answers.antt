use Rattle.ags_files.specs.Reading.{machine_reading}
use Rattle.ags_files.proofs.ReadingLemmas.{absences_as, faults_as, reading_loads}
use Rattle.ags_program.specs.declared.refusal.Refusal.TheVariants as refusal
use Rattle.ags_program.specs.Files.{MachineFile}
use Rattle.ags_program.specs.Program.{program}
use Rattle.ags_program.specs.Views.{line_of, status_of}
use Rattle.ags_program.proofs.ReadingLemmas.{machine_as}
use Rattle.ags_program.proofs.files.load_machine.Goals as goal

pub returns-clause-loads : goal.returns-clause-loads
returns-clause-loads g c = rw c.refused_by.ensures
    (reading_loads machine_reading program MachineFile (λ machine. machine) refusal.Machine line_of status_of machine_as (g.S.Shelf.told c.args.shelf.now) c.args.name.now c.load_machine.result c.load_machine.ensures.loads)

pub returns-clause-faults : goal.returns-clause-faults
returns-clause-faults g c = rw c.refused_by.ensures (faults_as refusal.Machine c.load_machine.result _ _ c.load_machine.ensures.faults)

pub returns-clause-absences : goal.returns-clause-absences
returns-clause-absences g c = rw c.refused_by.ensures (absences_as refusal.Machine c.load_machine.result _ _ c.load_machine.ensures.absences)
