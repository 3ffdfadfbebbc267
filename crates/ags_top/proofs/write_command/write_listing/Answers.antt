use Rattle.std.proofs.Common.{refl}
use Rattle.ags_command.specs.declared.source_texts.SourceText.TheVariants.{Listing}
use Rattle.ags_top.proofs.CertifyLemmas.{listing_of}
use Rattle.ags_plan.specs.Plan.{WorkAt}
use Rattle.ags_program.specs.declared.status.Status.TheVariants.{Done}
use Rattle.ags_program.specs.Views.{assembly_of}
use Rattle.ags_program.specs.Work.{WriteText}
use Rattle.ags_played.proofs.SendingLemmas.{fault_with, said_with}
use Rattle.ags_top.proofs.WriteLemmas.{text_said, text_said_in_part}
use Rattle.ags_top.proofs.write_command.write_listing.Goals as goal

pub returns-clause-says : goal.returns-clause-says
returns-clause-says g c =
    let source = c.args.source.now in
    let old = g.K.Sink.told c.args.out.now in
    let new = g.K.Sink.told c.send_listing.new.out in
    rw c.and.ensures (said_with c.send_listing.result (WorkAt (WriteText Listing (assembly_of source))) old new Done
    (text_said Listing source (listing_of source) old new refl) (text_said_in_part Listing source (listing_of source) old new refl)
    (rw c.deref.ensures.value at c.send_listing.ensures.sent) (rw c.deref.ensures.value at c.send_listing.ensures.front))

pub returns-clause-faults : goal.returns-clause-faults
returns-clause-faults g c = rw (c.and.ensures, fault_with c.send_listing.result Done) c.send_listing.ensures.faults
