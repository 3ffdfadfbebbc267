use Rattle.ags_files.specs.Reading.{edits_reading}
use Rattle.ags_files.proofs.ReadingLemmas.{absences_as, faults_as, reading_loads}
use Rattle.ags_program.specs.declared.refusal.Refusal.TheVariants as refusal
use Rattle.ags_program.specs.Files.{EditList}
use Rattle.ags_program.specs.Program.{program}
use Rattle.ags_program.specs.Views.{line_of, status_of}
use Rattle.ags_program.proofs.ReadingLemmas.{edits_as, edits_ready}
use Rattle.ags_program.proofs.files.load_edits.Goals as goal

pub returns-clause-loads : goal.returns-clause-loads
returns-clause-loads g c = rw c.refused_by.ensures
    (reading_loads edits_reading program EditList (λ edits. edits.items) refusal.Edits line_of status_of edits_as (g.S.Shelf.told c.args.shelf.now) c.args.name.now c.load_edits.result c.load_edits.ensures.loads)

pub returns-clause-ready : goal.returns-clause-ready
returns-clause-ready g c = rw c.refused_by.ensures (edits_ready (g.S.Shelf.told c.args.shelf.now c.args.name.now) c.args.name.now c.load_edits.result c.load_edits.ensures.loads)

pub returns-clause-faults : goal.returns-clause-faults
returns-clause-faults g c = rw c.refused_by.ensures (faults_as refusal.Edits c.load_edits.result _ _ c.load_edits.ensures.faults)

pub returns-clause-absences : goal.returns-clause-absences
returns-clause-absences g c = rw c.refused_by.ensures (absences_as refusal.Edits c.load_edits.result _ _ c.load_edits.ensures.absences)
