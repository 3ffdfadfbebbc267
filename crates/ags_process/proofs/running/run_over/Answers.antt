use Rattle.std.proofs.Common.{rules}
use Rattle.ags_process.proofs.EndedLemmas.{rose_kept, unwritten_rose}
use Rattle.ags_process.proofs.running.run_over.Goals as goal

pub returns-clause-exactly : goal.returns-clause-exactly
returns-clause-exactly g c = rw c.finish-written.ensures.told c.answer-status.ensures.exactly

pub returns-clause-unwritten : goal.returns-clause-unwritten
returns-clause-unwritten g c = λ not_written.
    unwritten_rose c.answer-status.result _ _ _ c.answer-status.ensures.write_fault c.answer-status.ensures.clean_sink
    c.finish-written.ensures.faults_stay c.finish-written.ensures.counted (c.finish-written.ensures.failed not_written)

pub returns-clause-write_fault : goal.returns-clause-write_fault
returns-clause-write_fault g c = λ is.
    rose_kept _ _ _ (c.answer-status.ensures.write_fault is) c.finish-written.ensures.faults_stay c.finish-written.ensures.counted

pub returns-clause-content : goal.returns-clause-content
returns-clause-content g c = search rules

pub returns-clause-written : goal.returns-clause-written
returns-clause-written g c = search rules

pub returns-clause-absent_cause : goal.returns-clause-absent_cause
returns-clause-absent_cause g c = c.answer-status.ensures.absent_cause

pub returns-clause-read_fault : goal.returns-clause-read_fault
returns-clause-read_fault g c = c.answer-status.ensures.read_fault

pub returns-clause-clean_shelf : goal.returns-clause-clean_shelf
returns-clause-clean_shelf g c = search rules

pub returns-clause-clean_sink : goal.returns-clause-clean_sink
returns-clause-clean_sink g c = search rules
