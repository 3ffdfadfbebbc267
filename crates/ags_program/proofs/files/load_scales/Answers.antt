use Rattle.ags_files.specs.Reading.{scales_reading}
use Rattle.ags_files.proofs.ReadingLemmas.{absences_as, faults_as, reading_loads}
use Rattle.ags_program.specs.declared.refusal.Refusal.TheVariants as refusal
use Rattle.ags_program.specs.Files.{ScaleTags}
use Rattle.ags_program.specs.Program.{program}
use Rattle.ags_program.specs.Views.{line_of, status_of}
use Rattle.ags_program.proofs.ReadingLemmas.{scales_as, scales_ready}
use Rattle.ags_program.proofs.files.load_scales.Goals as goal

pub returns-clause-loads : goal.returns-clause-loads
returns-clause-loads g c = rw c.refused_by.ensures
    (reading_loads (scales_reading c.args.machine.now c.args.rows) program (ScaleTags c.args.machine.now c.args.rows) (λ scales. scales) refusal.Scales line_of status_of (scales_as c.args.machine.now c.args.rows) (g.S.Shelf.told c.args.shelf.now) c.args.name.now c.load_scales.result c.load_scales.ensures.loads)

pub returns-clause-ready : goal.returns-clause-ready
returns-clause-ready g c = rw c.refused_by.ensures (scales_ready c.args.machine.now c.args.rows (g.S.Shelf.told c.args.shelf.now c.args.name.now) c.args.name.now c.load_scales.result c.load_scales.ensures.loads)

pub returns-clause-faults : goal.returns-clause-faults
returns-clause-faults g c = rw c.refused_by.ensures (faults_as refusal.Scales c.load_scales.result _ _ c.load_scales.ensures.faults)

pub returns-clause-absences : goal.returns-clause-absences
returns-clause-absences g c = rw c.refused_by.ensures (absences_as refusal.Scales c.load_scales.result _ _ c.load_scales.ensures.absences)
