use Rattle.ags_files.specs.Reading.{times_reading}
use Rattle.ags_files.proofs.ReadingLemmas.{absences_as, faults_as, reading_loads}
use Rattle.ags_program.specs.declared.refusal.Refusal.TheVariants as refusal
use Rattle.ags_program.specs.Files.{Times}
use Rattle.ags_program.specs.Program.{program}
use Rattle.ags_program.specs.Views.{line_of, status_of}
use Rattle.ags_program.proofs.ReadingLemmas.{times_as, times_ready}
use Rattle.ags_program.proofs.files.load_times.Goals as goal

pub returns-clause-loads : goal.returns-clause-loads
returns-clause-loads g c = rw c.refused_by.ensures
    (reading_loads (times_reading c.args.rows) program (Times c.args.rows) (λ budget. budget) refusal.Times line_of status_of (times_as c.args.rows) (g.S.Shelf.told c.args.shelf.now) c.args.name.now c.load_times.result c.load_times.ensures.loads)

pub returns-clause-ready : goal.returns-clause-ready
returns-clause-ready g c = rw c.refused_by.ensures (times_ready c.args.rows (g.S.Shelf.told c.args.shelf.now c.args.name.now) c.args.name.now c.load_times.result c.load_times.ensures.loads)

pub returns-clause-faults : goal.returns-clause-faults
returns-clause-faults g c = rw c.refused_by.ensures (faults_as refusal.Times c.load_times.result _ _ c.load_times.ensures.faults)

pub returns-clause-absences : goal.returns-clause-absences
returns-clause-absences g c = rw c.refused_by.ensures (absences_as refusal.Times c.load_times.result _ _ c.load_times.ensures.absences)
