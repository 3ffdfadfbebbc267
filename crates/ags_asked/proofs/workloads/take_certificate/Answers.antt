use Rattle.ags_load.specs.Workload.{cert_text}
use Rattle.ags_files.specs.Reading.{certificate_reading}
use Rattle.ags_files.proofs.ReadingLemmas.{no_absence_as, no_fault_as, reading_takes}
use Rattle.ags_program.specs.declared.refusal.Refusal.TheVariants as refusal
use Rattle.ags_program.specs.Files.{Certificate}
use Rattle.ags_program.specs.Program.{program, workload_certificate}
use Rattle.ags_program.specs.Views.{line_of, status_of}
use Rattle.ags_program.proofs.ReadingLemmas.{certificate_as}
use Rattle.ags_asked.proofs.workloads.take_certificate.Goals as goal

pub returns-in-Ok-clause-takes : goal.returns-in-Ok-clause-takes
returns-in-Ok-clause-takes c = λ told. rw c.refused_by.ensures
    (reading_takes (certificate_reading c.args.machine.now) program (Certificate c.args.machine.now) (λ cert. cert) refusal.Certificate line_of status_of (certificate_as c.args.machine.now) told workload_certificate (cert_text c.args.size) c.read_certificate.result
    (rw c.in-Ok.ensures.text at c.in-Ok.ensures.within) (rw (c.deref.ensures.value, c.in-Ok.ensures.text) at c.read_certificate.ensures))

pub returns-in-Ok-clause-no_fault : goal.returns-in-Ok-clause-no_fault
returns-in-Ok-clause-no_fault c = rw c.refused_by.ensures (no_fault_as (certificate_reading c.args.machine.now) refusal.Certificate _ c.read_certificate.result c.read_certificate.ensures)

pub returns-in-Ok-clause-no_absence : goal.returns-in-Ok-clause-no_absence
returns-in-Ok-clause-no_absence c = rw c.refused_by.ensures (no_absence_as (certificate_reading c.args.machine.now) refusal.Certificate _ c.read_certificate.result c.read_certificate.ensures)
