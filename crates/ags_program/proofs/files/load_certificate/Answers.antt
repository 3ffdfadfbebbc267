use Rattle.ags_files.specs.Reading.{certificate_reading}
use Rattle.ags_files.proofs.ReadingLemmas.{absences_as, faults_as, reading_loads}
use Rattle.ags_program.specs.declared.refusal.Refusal.TheVariants as refusal
use Rattle.ags_program.specs.Files.{Certificate}
use Rattle.ags_program.specs.Program.{program}
use Rattle.ags_program.specs.Views.{line_of, status_of}
use Rattle.ags_program.proofs.ReadingLemmas.{certificate_as}
use Rattle.ags_program.proofs.files.load_certificate.Goals as goal

pub returns-clause-loads : goal.returns-clause-loads
returns-clause-loads g c = rw c.refused_by.ensures
    (reading_loads (certificate_reading c.args.machine.now) program (Certificate c.args.machine.now) (λ cert. cert) refusal.Certificate line_of status_of (certificate_as c.args.machine.now) (g.S.Shelf.told c.args.shelf.now) c.args.name.now c.load_certificate.result c.load_certificate.ensures.loads)

pub returns-clause-faults : goal.returns-clause-faults
returns-clause-faults g c = rw c.refused_by.ensures (faults_as refusal.Certificate c.load_certificate.result _ _ c.load_certificate.ensures.faults)

pub returns-clause-absences : goal.returns-clause-absences
returns-clause-absences g c = rw c.refused_by.ensures (absences_as refusal.Certificate c.load_certificate.result _ _ c.load_certificate.ensures.absences)
