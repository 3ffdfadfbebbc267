use Rattle.std.proofs.Common.{[], ◌∙◌, subst, ℕ, List}
use Rattle.std.proofs.lemmas.Result.{err_from_is_err_and}
use Rattle.ags_files.specs.Reading.{ReadsBytes, source_reading}
use Rattle.ags_files.proofs.ReadingLemmas.{absences_stay, faults_stay, fetch_stops, file_reads}
use Rattle.ags_files.proofs.sources.load_source.Goals as goal

pub finish_source-requires-clause-within : goal.finish_source-requires-clause-within
finish_source-requires-clause-within g c =
    let took = c.in_ok-fetch_file_into.ensures.took in
    rw (took.more [] c.new-building.ensures.took) took.within

pub finish_source-requires-clause-codes : goal.finish_source-requires-clause-codes
finish_source-requires-clause-codes g c = c.in_ok-fetch_file_into.ensures.stays ∙ c.new-building.ensures.codes

pub returns-in_err-fetch_file_into-clause-loads : goal.returns-in_err-fetch_file_into-clause-loads
returns-in_err-fetch_file_into-clause-loads g c =
    let p = err_from_is_err_and c.from_residual.result c.from_residual.ensures.1 in
    rw (p.1, p.2) (fetch_stops (source_reading c.args.machine.now) (g.S.Shelf.told c.args.shelf.now c.args.name.now) c.args.name.now c.in_err-fetch_file_into.field-0.0
    c.in_err-fetch_file_into.ensures.fetches)

pub returns-clause-loads : goal.returns-clause-loads
returns-clause-loads g c =
    let took = c.in_ok-fetch_file_into.ensures.took in
    file_reads (source_reading c.args.machine.now) (g.S.Shelf.told c.args.shelf.now c.args.name.now) c.args.name.now took.bytes c.finish_source.result took.agrees took.within
    (subst (λ (b : List ℕ). ReadsBytes (source_reading c.args.machine.now) b c.finish_source.result) (took.more [] c.new-building.ensures.took) c.finish_source.ensures)

pub returns-clause-faults : goal.returns-clause-faults
returns-clause-faults g c =
    faults_stay (source_reading c.args.machine.now) _ c.finish_source.result _ _ c.finish_source.ensures c.in_ok-fetch_file_into.ensures.faults

pub returns-clause-absences : goal.returns-clause-absences
returns-clause-absences g c =
    absences_stay (source_reading c.args.machine.now) _ c.finish_source.result _ _ c.finish_source.ensures c.in_ok-fetch_file_into.ensures.absences
