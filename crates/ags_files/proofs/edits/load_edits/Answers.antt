use Rattle.std.proofs.lemmas.Result.{err_from_is_err_and}
use Rattle.ags_files.specs.Reading.{edits_reading}
use Rattle.ags_files.proofs.ReadingLemmas.{absences_stay, faults_stay, fetch_stops, file_reads}
use Rattle.ags_files.proofs.edits.load_edits.Goals as goal

pub returns-in_err-bytes-clause-loads : goal.returns-in_err-bytes-clause-loads
returns-in_err-bytes-clause-loads g c =
    let p = err_from_is_err_and c.from_residual.result c.from_residual.ensures.1 in
    rw (p.1, p.2) (fetch_stops edits_reading (g.S.Shelf.told c.args.shelf.now c.args.name.now) c.args.name.now c.in_err-bytes.field-0.0 c.in_err-bytes.ensures.fetches)

pub returns-clause-loads : goal.returns-clause-loads
returns-clause-loads g c =
    file_reads edits_reading (g.S.Shelf.told c.args.shelf.now c.args.name.now) c.args.name.now c.in_ok-bytes.bytes.items c.read_edits.result
    c.in_ok-bytes.ensures.fetches.0 c.in_ok-bytes.ensures.within (rw c.deref.ensures.value at c.read_edits.ensures)

pub returns-clause-faults : goal.returns-clause-faults
returns-clause-faults g c = faults_stay edits_reading _ c.read_edits.result _ _ c.read_edits.ensures c.in_ok-bytes.ensures.faults

pub returns-clause-absences : goal.returns-clause-absences
returns-clause-absences g c = absences_stay edits_reading _ c.read_edits.result _ _ c.read_edits.ensures c.in_ok-bytes.ensures.absences
