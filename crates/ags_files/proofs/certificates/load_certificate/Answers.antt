use Rattle.std.proofs.Common.{ℕ, false, [], refl, sym, ◌∙◌, arith}
use Rattle.std.proofs.lemmas.Bool.{true≢false}
use Rattle.std.proofs.lemmas.Result.{err_from_is_err_and}
use Rattle.ags_files.specs.Reading.{certificate_reading}
use Rattle.ags_outside.specs.Count.{HasCause}
use Rattle.ags_files.proofs.ReadingLemmas.{absences_stay, faults_stay, fetch_stops, file_reads}
use Rattle.ags_files.proofs.certificates.load_certificate.Goals as goal

pub finish_certificate-requires : goal.finish_certificate-requires
finish_certificate-requires g c = c.in_ok-fetch_file_into.ensures.stays ∙ c.in_ok-reader.ensures.ports

pub returns-in_err-fetch_file_into-clause-loads : goal.returns-in_err-fetch_file_into-clause-loads
returns-in_err-fetch_file_into-clause-loads g c =
    let p = err_from_is_err_and c.from_residual-in_err-fetch_file_into.result c.from_residual-in_err-fetch_file_into.ensures.1 in
    rw (p.1, p.2) (fetch_stops (certificate_reading c.args.machine.now) (g.S.Shelf.told c.args.shelf.now c.args.name.now) c.args.name.now c.in_err-fetch_file_into.field-0.0
    c.in_err-fetch_file_into.ensures.fetches)

pub returns-clause-loads : goal.returns-clause-loads
returns-clause-loads g c =
    let took = c.in_ok-fetch_file_into.ensures.took in
    file_reads (certificate_reading c.args.machine.now) (g.S.Shelf.told c.args.shelf.now c.args.name.now) c.args.name.now took.bytes c.finish_certificate.result took.agrees took.within
    (c.finish_certificate.ensures took.bytes (took.more [] c.in_ok-reader.ensures.took) took.within)

pub returns-clause-faults : goal.returns-clause-faults
returns-clause-faults g c =
    let took = c.in_ok-fetch_file_into.ensures.took in
    faults_stay (certificate_reading c.args.machine.now) took.bytes c.finish_certificate.result _ _
    (c.finish_certificate.ensures took.bytes (took.more [] c.in_ok-reader.ensures.took) took.within) c.in_ok-fetch_file_into.ensures.faults

pub returns-clause-absences : goal.returns-clause-absences
returns-clause-absences g c =
    let took = c.in_ok-fetch_file_into.ensures.took in
    absences_stay (certificate_reading c.args.machine.now) took.bytes c.finish_certificate.result _ _
    (c.finish_certificate.ensures took.bytes (took.more [] c.in_ok-reader.ensures.took) took.within) c.in_ok-fetch_file_into.ensures.absences

-- no count changes before a file is looked for
unchanged : (count : ℕ) → HasCause count count false
unchanged count = record { stays = omega arith; cause = λ is. absurd (true≢false (sym is)); clean = λ _. refl }

pub returns-in_err-reader-clause-same : goal.returns-in_err-reader-clause-same
returns-in_err-reader-clause-same g c = refl

pub returns-in_err-reader-clause-loads : goal.returns-in_err-reader-clause-loads
returns-in_err-reader-clause-loads g c =
    let p = err_from_is_err_and c.from_residual.result c.from_residual.ensures.1 in
    rw (p.1, p.2, c.in_err-reader.ensures.unread) tt

pub returns-in_err-reader-clause-faults : goal.returns-in_err-reader-clause-faults
returns-in_err-reader-clause-faults g c =
    let p = err_from_is_err_and c.from_residual.result c.from_residual.ensures.1 in
    rw (p.1, p.2, c.in_err-reader.ensures.unread) (unchanged (g.S.Shelf.faults c.args.shelf.now))

pub returns-in_err-reader-clause-absences : goal.returns-in_err-reader-clause-absences
returns-in_err-reader-clause-absences g c =
    let p = err_from_is_err_and c.from_residual.result c.from_residual.ensures.1 in
    rw (p.1, p.2, c.in_err-reader.ensures.unread) (unchanged (g.S.Shelf.absences c.args.shelf.now))

pub returns-in_err-fetch_file_into-clause-same : goal.returns-in_err-fetch_file_into-clause-same
returns-in_err-fetch_file_into-clause-same g c = c.fetch_file_into.ensures.same

pub returns-in_err-fetch_file_into-clause-faults : goal.returns-in_err-fetch_file_into-clause-faults
returns-in_err-fetch_file_into-clause-faults g c =
    let p = err_from_is_err_and c.from_residual-in_err-fetch_file_into.result c.from_residual-in_err-fetch_file_into.ensures.1 in
    rw (p.1, p.2) c.in_err-fetch_file_into.ensures.faults

pub returns-in_err-fetch_file_into-clause-absences : goal.returns-in_err-fetch_file_into-clause-absences
returns-in_err-fetch_file_into-clause-absences g c =
    let p = err_from_is_err_and c.from_residual-in_err-fetch_file_into.result c.from_residual-in_err-fetch_file_into.ensures.1 in
    rw (p.1, p.2) c.in_err-fetch_file_into.ensures.absences

pub returns-clause-same : goal.returns-clause-same
returns-clause-same g c = c.fetch_file_into.ensures.same
