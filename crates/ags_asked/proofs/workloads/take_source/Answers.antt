use Rattle.ags_load.specs.Workload.{source_text}
use Rattle.ags_files.specs.Reading.{source_reading}
use Rattle.ags_files.proofs.ReadingLemmas.{no_absence_as, no_fault_as, reading_takes}
use Rattle.ags_program.specs.declared.refusal.Refusal.TheVariants as refusal
use Rattle.ags_program.specs.Files.{Source}
use Rattle.ags_program.specs.Program.{program, workload_source}
use Rattle.ags_program.specs.Views.{assembly_of, line_of, status_of}
use Rattle.ags_program.proofs.ReadingLemmas.{source_as, taken_ready}
use Rattle.ags_asked.proofs.workloads.take_source.Goals as goal

pub returns-in-Ok-clause-takes : goal.returns-in-Ok-clause-takes
returns-in-Ok-clause-takes c = λ told. rw c.refused_by.ensures
    (reading_takes (source_reading c.args.machine.now) program (Source c.args.machine.now) assembly_of refusal.Source line_of status_of (source_as c.args.machine.now) told workload_source (source_text c.args.size) c.read_source.result
    (rw c.in-Ok.ensures.text at c.in-Ok.ensures.within) (rw c.in-Ok.ensures.text at c.read_source.ensures))

pub returns-in-Ok-clause-ready : goal.returns-in-Ok-clause-ready
returns-in-Ok-clause-ready c = rw c.refused_by.ensures (taken_ready c.args.machine.now c.in-Ok.text.items c.read_source.result c.read_source.ensures)

pub returns-in-Ok-clause-no_fault : goal.returns-in-Ok-clause-no_fault
returns-in-Ok-clause-no_fault c = rw c.refused_by.ensures (no_fault_as (source_reading c.args.machine.now) refusal.Source _ c.read_source.result c.read_source.ensures)

pub returns-in-Ok-clause-no_absence : goal.returns-in-Ok-clause-no_absence
returns-in-Ok-clause-no_absence c = rw c.refused_by.ensures (no_absence_as (source_reading c.args.machine.now) refusal.Source _ c.read_source.result c.read_source.ensures)
