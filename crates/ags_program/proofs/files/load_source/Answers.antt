use Rattle.ags_files.specs.Reading.{source_reading}
use Rattle.ags_files.proofs.ReadingLemmas.{absences_as, faults_as, reading_loads}
use Rattle.ags_program.specs.declared.refusal.Refusal.TheVariants as refusal
use Rattle.ags_program.specs.Files.{Source}
use Rattle.ags_program.specs.Program.{program}
use Rattle.ags_program.specs.Views.{assembly_of, line_of, status_of}
use Rattle.ags_program.proofs.ReadingLemmas.{source_as, source_ready}
use Rattle.ags_program.proofs.files.load_source.Goals as goal

pub returns-clause-loads : goal.returns-clause-loads
returns-clause-loads g c = rw c.refused_by.ensures
    (reading_loads (source_reading c.args.machine.now) program (Source c.args.machine.now) assembly_of refusal.Source line_of status_of (source_as c.args.machine.now) (g.S.Shelf.told c.args.shelf.now) c.args.name.now c.load_source.result c.load_source.ensures.loads)

pub returns-clause-ready : goal.returns-clause-ready
returns-clause-ready g c = rw c.refused_by.ensures (source_ready c.args.machine.now (g.S.Shelf.told c.args.shelf.now c.args.name.now) c.args.name.now c.load_source.result c.load_source.ensures.loads)

pub returns-clause-faults : goal.returns-clause-faults
returns-clause-faults g c = rw c.refused_by.ensures (faults_as refusal.Source c.load_source.result _ _ c.load_source.ensures.faults)

pub returns-clause-absences : goal.returns-clause-absences
returns-clause-absences g c = rw c.refused_by.ensures (absences_as refusal.Source c.load_source.result _ _ c.load_source.ensures.absences)
