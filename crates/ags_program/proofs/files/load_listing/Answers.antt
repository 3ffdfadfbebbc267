use Rattle.ags_files.specs.Reading.{listing_reading}
use Rattle.ags_files.proofs.ReadingLemmas.{absences_as, faults_as, reading_loads}
use Rattle.ags_program.specs.declared.refusal.Refusal.TheVariants as refusal
use Rattle.ags_program.specs.Files.{Listing}
use Rattle.ags_program.specs.Program.{program}
use Rattle.ags_program.specs.Views.{line_of, status_of}
use Rattle.ags_program.proofs.ReadingLemmas.{listing_as}
use Rattle.ags_program.proofs.files.load_listing.Goals as goal

pub returns-clause-loads : goal.returns-clause-loads
returns-clause-loads g c = rw c.refused_by.ensures
    (reading_loads listing_reading program Listing (λ image. image) refusal.Listing line_of status_of listing_as (g.S.Shelf.told c.args.shelf.now) c.args.name.now c.load_listing.result c.load_listing.ensures.loads)

pub returns-clause-faults : goal.returns-clause-faults
returns-clause-faults g c = rw c.refused_by.ensures (faults_as refusal.Listing c.load_listing.result _ _ c.load_listing.ensures.faults)

pub returns-clause-absences : goal.returns-clause-absences
returns-clause-absences g c = rw c.refused_by.ensures (absences_as refusal.Listing c.load_listing.result _ _ c.load_listing.ensures.absences)
